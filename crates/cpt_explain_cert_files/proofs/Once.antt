use Rattle.std.proofs.Common.{◌≡◌, ℕ, ◌≤◌, List, length, Result, Ok, sym, ap, ◌∙◌, arith}
use Rattle.std.specs.Prelude.{⊤}
use Rattle.cpt_io.specs.Meaning.{Files}
use Rattle.cpt_task.specs.Shape.{TaskShape, InBounds}
use Rattle.cpt_check.specs.declared.judged.Judged.{Judged}
use Rattle.cpt_counts.specs.declared.kinds.Counts.{Counts}
use Rattle.cpt_counts.specs.Counting.{AreCounts}
use Rattle.cpt_answer.specs.declared.ending.Ending.{Ending}
use Rattle.cpt_answer.specs.Endings.{Answer}
use Rattle.cpt_cert_file.specs.Texts.{text_limit}
use Rattle.cpt_cert_file.proofs.Holding.{over_text_once}
use Rattle.cpt_check_files.proofs.RulingOnce.{ruling_once}
use Rattle.cpt_explain_cert_files.specs.Counted.{CountsFiles, CountsText, counted_answer}

abbrev counts : ℕ → ℕ → ℕ → List ℕ → Counts
counts closed branched left rules = record { closed = closed; branched = branched; left = left; rules = rules }

-- a text has one number of lines of each kind
numbers_once : (text : List ℕ) (a b : Counts) → AreCounts text a → AreCounts text b → a ≡ b
numbers_once text a b h k =
    ap (λ n. counts n a.branched a.left a.rules) (h.closed ∙ sym k.closed) ∙ ap (λ n. counts b.closed n a.left a.rules) (h.branched ∙ sym k.branched) ∙ ap (λ n. counts b.closed b.branched n a.rules) (h.left ∙ sym k.left)
    ∙ ap (λ ns. counts b.closed b.branched b.left ns) (h.rules ∙ sym k.rules)

-- a text has one answer
text_once : (t : TaskShape) (text : List ℕ) → InBounds t → length text ≤ text_limit → (r s : Result Answer Ending) → CountsText t text r → CountsText t text s → ⊤ → r ≡ s
text_once t text inside short r s h k always =
    let ruling : Judged → Result Answer Ending = λ j. Ok (counted_answer j h.2.0) in
    let numbers : Counts → Result Answer Ending = λ c. Ok (counted_answer k.0 c) in
    h.2.2 ∙ ap ruling (ruling_once t text_limit text inside (omega arith) h.0.version k.0.version h.0.ruling k.0.ruling h.1 k.1) ∙ ap numbers (numbers_once text h.2.0 k.2.0 h.2.1 k.2.1) ∙ sym k.2.2

-- a domain, a problem and a certificate come to one end
pub counts_once : (files : Files) (d p c : List ℕ) (r s : Result Answer Ending) → CountsFiles files d p c r → CountsFiles files d p c s → r ≡ s
counts_once files d p c r s h k = over_text_once files d p c CountsText (λ r. ⊤) text_once r s h k tt
