-- what trimming comes to
use Rattle.std.proofs.Common.{◌≡◌, ◌≢◌, ℕ, ◌≤◌, inl, inr, Bool, List, length, Option, Result, Ok, refl, sym, ap, ◌∙◌, arith}
use Rattle.cpt_io.specs.Meaning.{Files}
use Rattle.cpt_task.specs.Shape.{TaskShape, InBounds}
use Rattle.cpt_reach.specs.declared.pruning.Pruned.{Pruned}
use Rattle.cpt_cert_form.specs.declared.forms.Version.{Version}
use Rattle.cpt_cert_form.specs.declared.forms.Claim.{Claim}
use Rattle.cpt_cert_accept.specs.declared.faults.Why.{Why}
use Rattle.cpt_cert_accept.proofs.OneText.{no_fault}
use Rattle.cpt_check.specs.declared.judged.Judged.{Judged}
use Rattle.cpt_check.specs.Judging.{IsRejected}
use Rattle.cpt_trim.specs.Trimming.{IsTrimmed, trim_limit}
use Rattle.cpt_trim.specs.Without.{IsAccepted, without}
use Rattle.cpt_answer.specs.declared.ending.Ending.{Ending}
use Rattle.cpt_answer.specs.declared.ending.Reply.{Reply}
use Rattle.cpt_answer.specs.Endings.{Answer, answer, answer_of, reply_answer}
use Rattle.cpt_answer.specs.Giving.{Gives}
use Rattle.cpt_cert_file.specs.Held.{HoldText}
use Rattle.cpt_cert_file.proofs.Holding.{held_bounds, over_held, over_text_once, reach, reached}
use Rattle.cpt_check_files.specs.Commands.{IsRuling}
use Rattle.cpt_check_files.specs.Rulings.{rejected_lines, ruling_answer}
use Rattle.cpt_check_files.proofs.RulingOnce.{faults_once}
use Rattle.cpt_trim_files.specs.Trims.{TrimsFiles, TrimsText}
use Rattle.cpt_trim_files.specs.Trims.TrimsText.{trimmed, rejected}

-- the status of an answer
status_is : (r : Result Answer Ending) (s : ℕ) (text : List ℕ) → r ≡ Ok (answer s text) → (answer_of r).status ≡ s
status_is r s text e = ap (λ x. (answer_of x).status) e

-- a text has one answer but that of a certificate
text_once : (t : TaskShape) (text : List ℕ) → InBounds t → length text ≤ trim_limit → (r s : Result Answer Ending) → TrimsText t text r → TrimsText t text s → (answer_of r).status ≢ 0 → r ≡ s
text_once t text inside short r s (trimmed v claim dropped h e) k not = absurd (not (status_is r 0 (without text dropped) e))
text_once t text inside short r s (rejected v line why h e) (trimmed w claim dropped k f) not = absurd (no_fault t text w claim line why inside (omega (arith, short)) k.whole h.first)
text_once t text inside short r s (rejected v line why h e) (rejected w also other k f) not =
    let at : Judged → Result Answer Ending = λ j. Ok (ruling_answer j) in e ∙ ap at (faults_once t trim_limit text v w line also why other h k) ∙ sym f

-- and so have files
pub trims_once : (files : Files) (dn pn cn : List ℕ) (r s : Result Answer Ending) → TrimsFiles files dn pn cn r → TrimsFiles files dn pn cn s → (answer_of r).status ≢ 0 → r ≡ s
trims_once files dn pn cn r s h k not = over_text_once files dn pn cn TrimsText (λ r. (answer_of r).status ≢ 0) text_once r s h k not

-- a status of 0 is that of a certificate that is trimmed
pub record IsZero (t : TaskShape) (text told : List ℕ) : Type 0 where
  pub version : Version
  pub claim : Claim
  pub dropped : List ℕ
  pub is : IsTrimmed t text version claim dropped
  pub told_is : told ≡ without text dropped

zero_of : (t : TaskShape) (text : List ℕ) (r : Result Answer Ending) → TrimsText t text r → (answer_of r).status ≡ 0 → IsZero t text (answer_of r).text
zero_of t text r (trimmed v claim dropped h e) zero = record { version = v; claim = claim; dropped = dropped; is = h; told_is = ap (λ x. (answer_of x).text) e }
zero_of t text r (rejected v line why h e) zero = absurd (omega (arith, status_is r 1 (rejected_lines v line why) e, zero))

-- and one of 1 that of a text with a fault
pub record IsOne (t : TaskShape) (text told : List ℕ) : Type 0 where
  pub version : Option Version
  pub line : ℕ
  pub why : Why
  pub is : IsRejected t trim_limit text version line why
  pub told_is : told ≡ rejected_lines version line why

one_of : (t : TaskShape) (text : List ℕ) (r : Result Answer Ending) → TrimsText t text r → (answer_of r).status ≡ 1 → IsOne t text (answer_of r).text
one_of t text r (trimmed v claim dropped h e) one = absurd (omega (arith, status_is r 0 (without text dropped) e, one))
one_of t text r (rejected v line why h e) one = record { version = v; line = line; why = why; is = h; told_is = ap (λ x. (answer_of x).text) e }

-- a certificate has no fault
accepted_of : (t : TaskShape) (text : List ℕ) (r : Result Answer Ending) → InBounds t → length text ≤ trim_limit → IsAccepted t text → TrimsText t text r → (answer_of r).status ≡ 0
accepted_of t text r inside short accepted (trimmed v claim dropped h e) = status_is r 0 (without text dropped) e
accepted_of t text r inside short (w, claim, accepts) (rejected v line why h e) = absurd (no_fault t text w claim line why inside (omega (arith, short)) accepts h.first)

ruling_of : (t : TaskShape) (text : List ℕ) (r : Result Answer Ending) → TrimsText t text r → IsRuling (answer_of r).status
ruling_of t text r (trimmed v claim dropped h e) = inl (status_is r 0 (without text dropped) e)
ruling_of t text r (rejected v line why h e) = inr (inl (status_is r 1 (rejected_lines v line why) e))

module _ (files : Files) (dn pn cn : List ℕ) where
  pub zero_is_trimmed : (r : Result Answer Ending) → TrimsFiles files dn pn cn r → (answer_of r).status ≡ 0 → (kept : Pruned) × (text : List ℕ) × HoldText files dn pn cn kept text × IsZero kept.task text (answer_of r).text
  zero_is_trimmed r h zero = let k = reached files dn pn cn TrimsText r h (inl zero) in (k.0, k.1, k.2, zero_of k.0.task k.1 r k.3 zero)

  pub one_is_rejected : (r : Result Answer Ending) → TrimsFiles files dn pn cn r → (answer_of r).status ≡ 1 → (kept : Pruned) × (text : List ℕ) × HoldText files dn pn cn kept text × IsOne kept.task text (answer_of r).text
  one_is_rejected r h one = let k = reached files dn pn cn TrimsText r h (inr one) in (k.0, k.1, k.2, one_of k.0.task k.1 r k.3 one)

  pub rejected_is_one : (kept : Pruned) (text : List ℕ) (v : Option Version) (line : ℕ) (why : Why) → HoldText files dn pn cn kept text → IsRejected kept.task trim_limit text v line why → TrimsFiles files dn pn cn (Ok (answer 1 (rejected_lines v line why)))
  rejected_is_one kept text v line why held h = reach files dn pn cn TrimsText kept text (Ok (answer 1 (rejected_lines v line why))) held (rejected v line why h refl)

  pub accepted_is_zero : (kept : Pruned) (text : List ℕ) → HoldText files dn pn cn kept text → IsAccepted kept.task text → (r : Result Answer Ending) → TrimsFiles files dn pn cn r → (answer_of r).status ≡ 0
  accepted_is_zero kept text held accepted r h = accepted_of kept.task text r (held_bounds files dn pn cn kept text held) held.size accepted (over_held files dn pn cn TrimsText kept text r held h)

  pub held_is_ruled : (kept : Pruned) (text : List ℕ) → HoldText files dn pn cn kept text → (r : Result Answer Ending) → TrimsFiles files dn pn cn r → IsRuling (answer_of r).status
  held_is_ruled kept text held r h = ruling_of kept.task text r (over_held files dn pn cn TrimsText kept text r held h)

-- what is answered to a text
pub trimmed_reply : (t : TaskShape) (text : List ℕ) (v : Version) (claim : Claim) (dropped : List ℕ) (steady : Bool) (reply : Reply) → IsTrimmed t text v claim dropped → reply_answer reply ≡ answer 0 (without text dropped) → Gives steady reply_answer (Ok reply) (TrimsText t text)
trimmed_reply t text v claim dropped steady reply h e = trimmed v claim dropped h (ap Ok e)

pub rejected_reply : (t : TaskShape) (text : List ℕ) (v : Option Version) (line : ℕ) (why : Why) (steady : Bool) (reply : Reply) → IsRejected t trim_limit text v line why → reply_answer reply ≡ answer 1 (rejected_lines v line why) → Gives steady reply_answer (Ok reply) (TrimsText t text)
rejected_reply t text v line why steady reply h e = rejected v line why h (ap Ok e)
