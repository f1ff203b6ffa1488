use Rattle.std.specs.Prelude.{◌≡◌, ◌≢◌, ◌≤◌, ℕ, ◌⊎◌, List, length, Option, Some}
use Rattle.std.specs.Io.KnownBytes.{append_known}
use Rattle.cpt_io.specs.Meaning.{Files}
use Rattle.cpt_task.specs.Shape.{TaskShape}
use Rattle.cpt_domain.specs.declared.domain.Domain.{Domain}
use Rattle.cpt_facts.specs.declared.problem.Problem.{Problem}
use Rattle.cpt_reach.specs.declared.pruning.Pruned.{Pruned}
use Rattle.cpt_reach.specs.Plans.{older_plan}
use Rattle.cpt_cert_form.specs.declared.forms.Version.{Version}
use Rattle.cpt_cert_form.specs.declared.forms.Claim.{Claim}
use Rattle.cpt_cert_accept.specs.declared.faults.Why.{Why}
use Rattle.cpt_cert_accept.specs.Laws.{HoldsOf}
use Rattle.cpt_answer.specs.Endings.{Answer}
use Rattle.cpt_answer.specs.Promise.{Call, IsAnswerOf, IsUndisturbed}
use Rattle.cpt_files.specs.Accepted.{IsAccepted}
use Rattle.cpt_check_files.specs.Claims.{HoldCertificate, HoldFault, HoldsOverGround, HoldsWithAbsence}
use Rattle.cpt_check_files.specs.Rulings.{ChecksFiles, accepted_lines, cert_limit, rejected_lines}

-- the statuses where a text is ruled on, and want of memory
abbrev pub IsRuling : ℕ → Type 0
IsRuling status = (status ≡ 0) ⊎ (status ≡ 1) ⊎ (status ≡ 9)

-- what `check` promises of a call, over the files
pub record ChecksProblem (files : Files) (domain_name problem_name cert_name : List ℕ) (x : Call) : Type 0 where
  -- It answers 0 only where the file holds a certificate of the kept task whose claim holds, over the ground task and over the
  -- reading with absence, and then its two lines were written.
  pub accepted : x.status ≡ 0
      → (version : Version) × (claim : Claim) × (held : HoldCertificate files domain_name problem_name cert_name version claim)
      × HoldsOf held.kept.task claim held.parts.plan × HoldsOverGround held.task claim (older_plan held.kept.actions held.parts.plan)
      × HoldsWithAbsence held.domain held.problem claim (older_plan held.kept.actions held.parts.plan) × (x.new.written ≡ append_known x.old.written (accepted_lines version claim))
  -- Where the file holds a certificate it answers 0, unless a call fails or memory is refused.
  pub accepts : (version : Version) (claim : Claim) → HoldCertificate files domain_name problem_name cert_name version claim → IsUndisturbed x
      → (x.status ≡ 9) ⊎ ((x.status ≡ 0) × (x.new.written ≡ append_known x.old.written (accepted_lines version claim)))
  -- It answers 1 only where the file holds a text with a first fault, and then its line and reason were written.
  pub rejected : x.status ≡ 1
      → (version : Option Version) × (line : ℕ) × (why : Why) × HoldFault files domain_name problem_name cert_name version line why × (x.new.written ≡ append_known x.old.written (rejected_lines version line why))
  -- Where the file does it answers 1, unless a call fails or memory is refused.
  pub rejects : (version : Option Version) (line : ℕ) (why : Why) → HoldFault files domain_name problem_name cert_name version line why → IsUndisturbed x
      → (x.status ≡ 9) ⊎ ((x.status ≡ 1) × (x.new.written ≡ append_known x.old.written (rejected_lines version line why)))
  -- The files have one answer, which is given, unless a call fails or memory is refused.
  pub complete : (a : Answer) → IsAnswerOf (ChecksFiles files domain_name problem_name cert_name) a → a.status ≢ 7 → IsUndisturbed x
      → (x.status ≡ 9) ⊎ ((x.status ≡ a.status) × (x.new.written ≡ append_known x.old.written a.text))
  -- Where the domain and the problem are accepted and the text is held and not too long it answers 0 or 1, unless a call fails or
  -- memory is refused.
  pub within : (d : Domain) (p : Problem) (task : TaskShape) (kept : Pruned) (text : List ℕ) → IsAccepted files domain_name problem_name d p task kept → files cert_name ≡ Some text → length text ≤ cert_limit
      → IsUndisturbed x → IsRuling x.status
