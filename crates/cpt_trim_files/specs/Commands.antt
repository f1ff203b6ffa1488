use Rattle.std.specs.Prelude.{◌≡◌, ◌≢◌, ℕ, ◌⊎◌, List, Option}
use Rattle.std.specs.Io.KnownBytes.{append_known}
use Rattle.cpt_io.specs.Meaning.{Files}
use Rattle.cpt_reach.specs.declared.pruning.Pruned.{Pruned}
use Rattle.cpt_cert_form.specs.declared.forms.Version.{Version}
use Rattle.cpt_cert_form.specs.declared.forms.Claim.{Claim}
use Rattle.cpt_cert_accept.specs.declared.faults.Why.{Why}
use Rattle.cpt_check.specs.Judging.{IsRejected}
use Rattle.cpt_trim.specs.Trimming.{IsTrimmed, trim_limit}
use Rattle.cpt_trim.specs.Without.{without, IsAccepted}
use Rattle.cpt_answer.specs.Endings.{Answer}
use Rattle.cpt_answer.specs.Promise.{Call, IsAnswerOf, IsUndisturbed}
use Rattle.cpt_cert_file.specs.Held.{HoldText}
use Rattle.cpt_check_files.specs.Commands.{IsRuling}
use Rattle.cpt_check_files.specs.Rulings.{rejected_lines}
use Rattle.cpt_trim_files.specs.Trims.{TrimsFiles}

-- what `trim` promises of a call, over the files
pub record TrimsProblem (files : Files) (domain_name problem_name cert_name : List ℕ) (x : Call) : Type 0 where
  -- It answers 0 only where the file holds a certificate of the kept task, and then the certificate without its needless step
  -- lines was written.
  pub trimmed : x.status ≡ 0
      → (kept : Pruned) × (text : List ℕ) × HoldText files domain_name problem_name cert_name kept text
      × ((version : Version) × (claim : Claim) × (dropped : List ℕ) × IsTrimmed kept.task text version claim dropped × (x.new.written ≡ append_known x.old.written (without text dropped)))
  -- Where the file holds a certificate it answers 0, unless a call fails or memory is refused.
  pub trims : (kept : Pruned) (text : List ℕ) → HoldText files domain_name problem_name cert_name kept text → IsAccepted kept.task text → IsUndisturbed x → (x.status ≡ 9) ⊎ (x.status ≡ 0)
  -- It answers 1 only where the file holds a text with a first fault, and then its line and reason were written.
  pub rejected : x.status ≡ 1
      → (kept : Pruned) × (text : List ℕ) × HoldText files domain_name problem_name cert_name kept text
      × ((version : Option Version) × (line : ℕ) × (why : Why) × IsRejected kept.task trim_limit text version line why × (x.new.written ≡ append_known x.old.written (rejected_lines version line why)))
  -- Where the file does it answers 1, unless a call fails or memory is refused.
  pub rejects : (kept : Pruned) (text : List ℕ) (version : Option Version) (line : ℕ) (why : Why) → HoldText files domain_name problem_name cert_name kept text → IsRejected kept.task trim_limit text version line why
      → IsUndisturbed x → (x.status ≡ 9) ⊎ ((x.status ≡ 1) × (x.new.written ≡ append_known x.old.written (rejected_lines version line why)))
  -- Where the files have an answer of another status than 0 it is the only one, and it is given, unless a call fails or memory is
  -- refused.
  pub complete : (a : Answer) → IsAnswerOf (TrimsFiles files domain_name problem_name cert_name) a → a.status ≢ 7 → a.status ≢ 0 → IsUndisturbed x
      → (x.status ≡ 9) ⊎ ((x.status ≡ a.status) × (x.new.written ≡ append_known x.old.written a.text))
  -- Where the domain and the problem are accepted and the text is held and not too long it answers 0 or 1, unless a call fails or
  -- memory is refused.
  pub within : (kept : Pruned) (text : List ℕ) → HoldText files domain_name problem_name cert_name kept text → IsUndisturbed x → IsRuling x.status
