use Rattle.std.specs.Prelude.{◌≡◌, ◌≢◌, ◌≤◌, ℕ, ◌⊎◌, List, length, Option}
use Rattle.std.specs.Io.KnownBytes.{append_known}
use Rattle.cpt_io.specs.Meaning.{Files}
use Rattle.cpt_reach.specs.declared.pruning.Pruned.{Pruned}
use Rattle.cpt_reach.specs.Plans.{older_plan}
use Rattle.cpt_cert_form.specs.declared.forms.Version.{Version}
use Rattle.cpt_cert_form.specs.declared.forms.Claim.{Claim}
use Rattle.cpt_cert_accept.specs.declared.faults.Why.{Why}
use Rattle.cpt_cert_accept.specs.Laws.{HoldsOf}
use Rattle.cpt_counts.specs.declared.kinds.Counts.{Counts}
use Rattle.cpt_counts.specs.Counting.{AreCounts}
use Rattle.cpt_answer.specs.Endings.{Answer}
use Rattle.cpt_answer.specs.Promise.{Call, IsAnswerOf, IsUndisturbed}
use Rattle.cpt_cert_file.specs.Held.{HoldText}
use Rattle.cpt_cert_file.specs.Texts.{text_limit}
use Rattle.cpt_check_files.specs.Claims.{HoldCertificate, HoldFault, HoldsOverGround, HoldsWithAbsence}
use Rattle.cpt_check_files.specs.Commands.{IsRuling}
use Rattle.cpt_check_files.specs.Rulings.{rejected_lines}
use Rattle.cpt_explain_cert_files.specs.Counted.{CountsFiles, counted_lines}

-- the numbers of lines of an accepted certificate were written behind the lines of `check`
pub record WroteCounts (version : Version) (claim : Claim) (text : List ℕ) (x : Call) : Type 0 where
  pub size : length text ≤ text_limit
  pub counts : Counts
  pub counted : AreCounts text counts
  pub written : x.new.written ≡ append_known x.old.written (counted_lines version claim counts)

-- what `explain-cert` promises of a call, over the files
pub record CountsProblem (files : Files) (domain_name problem_name cert_name : List ℕ) (x : Call) : Type 0 where
  -- It answers 0 only where the file holds a certificate of the kept task whose claim holds, over the ground task and over the
  -- reading with absence, and then its lines and the numbers of lines of the text were written.
  pub accepted : x.status ≡ 0
      → (version : Version) × (claim : Claim) × (held : HoldCertificate files domain_name problem_name cert_name version claim)
      × HoldsOf held.kept.task claim held.parts.plan × HoldsOverGround held.task claim (older_plan held.kept.actions held.parts.plan)
      × HoldsWithAbsence held.domain held.problem claim (older_plan held.kept.actions held.parts.plan) × WroteCounts version claim held.text x
  -- Where the file holds a certificate of at most 16 MiB it answers 0, unless a call fails or memory is refused.
  pub accepts : (version : Version) (claim : Claim) (counts : Counts) → (held : HoldCertificate files domain_name problem_name cert_name version claim) → length held.text ≤ text_limit → AreCounts held.text counts → IsUndisturbed x
      → (x.status ≡ 9) ⊎ ((x.status ≡ 0) × (x.new.written ≡ append_known x.old.written (counted_lines version claim counts)))
  -- It answers 1 only where the file holds a text of at most 16 MiB with a first fault, and then its line and reason were written.
  pub rejected : x.status ≡ 1
      → (version : Option Version) × (line : ℕ) × (why : Why) × (held : HoldFault files domain_name problem_name cert_name version line why) × (length held.text ≤ text_limit) × (x.new.written ≡ append_known x.old.written (rejected_lines version line why))
  -- Where the file does it answers 1, unless a call fails or memory is refused.
  pub rejects : (version : Option Version) (line : ℕ) (why : Why) → (held : HoldFault files domain_name problem_name cert_name version line why) → length held.text ≤ text_limit → IsUndisturbed x
      → (x.status ≡ 9) ⊎ ((x.status ≡ 1) × (x.new.written ≡ append_known x.old.written (rejected_lines version line why)))
  -- The files have one answer, which is given, unless a call fails or memory is refused.
  pub complete : (a : Answer) → IsAnswerOf (CountsFiles files domain_name problem_name cert_name) a → a.status ≢ 7 → IsUndisturbed x
      → (x.status ≡ 9) ⊎ ((x.status ≡ a.status) × (x.new.written ≡ append_known x.old.written a.text))
  -- Where the domain and the problem are accepted and the text is held and not too long it answers 0 or 1, unless a call fails or
  -- memory is refused.
  pub within : (kept : Pruned) (text : List ℕ) → HoldText files domain_name problem_name cert_name kept text → IsUndisturbed x → IsRuling x.status
