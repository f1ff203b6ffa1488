use Rattle.std.specs.Prelude.{◌≡◌, ◌<◌, ◌≤◌, ℕ, ◌⊎◌, List, length, Some, Result, Ok, Err}
use Rattle.std.specs.Io.KnownBytes.{append_known}
use Rattle.cpt_io.specs.Meaning.{Files}
use Rattle.cpt_task.specs.Shape.{TaskShape}
use Rattle.cpt_task.specs.declared.memory.Limit.TheVariants.{Certificate}
use Rattle.cpt_domain.specs.declared.domain.Domain.{Domain}
use Rattle.cpt_facts.specs.declared.problem.Problem.{Problem}
use Rattle.cpt_reach.specs.declared.pruning.Pruned.{Pruned}
use Rattle.cpt_tables.specs.declared.tables.Tables.{Tables}
use Rattle.cpt_answer.specs.declared.ending.Cause.TheVariants.{Passed}
use Rattle.cpt_answer.specs.declared.ending.Ending.{Ending}
use Rattle.cpt_answer.specs.declared.ending.Ending.TheVariants.{Because}
use Rattle.cpt_answer.specs.Endings.{Answer, answer, answer_of, memory_answer}
use Rattle.cpt_answer.specs.Giving.{ThenBy}
use Rattle.cpt_answer.specs.Promise.{Call, IsUndisturbed}
use Rattle.cpt_answer.specs.Writing.{Output, Tells, Writes}
use Rattle.cpt_certify.specs.declared.proving.ProofError.{ProofError}
use Rattle.cpt_certify.specs.declared.proving.ProofError.TheVariants as errors
use Rattle.cpt_files.specs.Accepted.{AcceptsTask, IsAccepted}
use Rattle.cpt_cert_form.specs.declared.forms.Claim.{Claim}
use Rattle.cpt_cert_form.specs.declared.forms.Version.{Version}
use Rattle.cpt_check_files.specs.Claims.{HoldCertificate}
use Rattle.cpt_check_files.specs.Rulings.{cert_limit}
use Rattle.cpt_outcome.specs.Outcomes.{HasOutcome, SearchOutcome}
use Rattle.cpt_evidence.specs.Evidence.{claim_of}
use Rattle.cpt_certify.specs.Proving.{IsProofOf}
use Rattle.cpt_options.specs.declared.options.Budget.{Budget}
use Rattle.cpt_solve.specs.Commands.{HoldOutcome}
use Rattle.cpt_solve.specs.Lines.{outcome_status}
use Rattle.cpt_solve.specs.Searches.{AreBestTables, full_search}

-- the outcome of the search over the task's best tables, and the text of a certificate of it: with these tables and the texts of its
-- trees, each step line with the very value of its row
pub record IsProof (t : TaskShape) (budget : Budget) (o : SearchOutcome) (v : Version) (text : List ℕ) : Type 0 where
  pub tables : Tables
  pub best : AreBestTables t tables
  pub has : HasOutcome (full_search t tables) budget.max budget.nodes o
  pub proof : IsProofOf t tables budget.max budget.nodes o v text

-- the text with the outcome's status, or that it is too long
abbrev pub AnswersText : SearchOutcome → List ℕ → Result Answer Ending → Type 0
AnswersText o text (Ok a) = (length text ≤ cert_limit) × (a ≡ answer (outcome_status o) text)
AnswersText o text (Err e) = (cert_limit < length text) × (e ≡ Because (Passed Certificate))

-- what proving a task comes to; which steps a certificate has is free, so it may come to several answers
abbrev pub AnswersProof : TaskShape → Budget → Version → Result Answer Ending → Type 0
AnswersProof t budget v r = (o : SearchOutcome) × (text : List ℕ) × IsProof t budget o v text × AnswersText o text r

-- what proving the domain and the problem of two files comes to
abbrev pub ProvesFiles : Files → (domain_name problem_name : List ℕ) → Budget → Version → Result Answer Ending → Type 0
ProvesFiles files domain_name problem_name budget v = ThenBy (AcceptsTask files domain_name problem_name) (λ a. AnswersProof a.kept.task budget v)

-- what was written of a task's proof: one of its answers, or that memory was refused
abbrev pub TellsProof : TaskShape → Budget → Version → Output → Output → ℕ → Type 0
TellsProof t budget v old new status = ((r : Result Answer Ending) × AnswersProof t budget v r × Writes old new (answer_of r) status) ⊎ Writes old new memory_answer status

-- what is written where a certificate was not put whole: that it is too long, or nothing more where a write failed
abbrev pub TellsFailure : ProofError → Output → Output → ℕ → Type 0
TellsFailure errors.Failed old new status = (status ≡ 8) × (new ≡ old)
TellsFailure errors.TooLong old new status = Tells (Err (Because (Passed Certificate))) old new status

-- the two files hold a domain and a problem of it with this kept part of their ground task, and this is a certificate of the outcome
-- of a search for a plan of the kept part, not too long
pub record HoldProof (files : Files) (domain_name problem_name : List ℕ) (budget : Budget) (v : Version) (o : SearchOutcome) (text : List ℕ) : Type 0 where
  pub domain : Domain
  pub problem : Problem
  pub task : TaskShape
  pub kept : Pruned
  pub accepted : IsAccepted files domain_name problem_name domain problem task kept
  pub proof : IsProof kept.task budget o v text
  pub size : length text ≤ cert_limit

-- Where files hold the same domain and problem, and this text as a third file, that file holds a certificate with this claim: one that
-- `check` accepts.
abbrev pub IsCheckable : Files → (domain_name problem_name : List ℕ) → Version → Claim → List ℕ → Type 0
IsCheckable files domain_name problem_name v claim text =
    (others : Files) (cert_name : List ℕ) → others domain_name ≡ files domain_name → others problem_name ≡ files problem_name → others cert_name ≡ Some text → HoldCertificate others domain_name problem_name cert_name v claim

-- the statuses where a search ends
abbrev pub IsFound : ℕ → Type 0
IsFound s = (s ≡ 0) ⊎ (s ≡ 2) ⊎ (s ≡ 3)

-- what `prove` promises of a call, over the files
pub record ProvesProblem (files : Files) (domain_name problem_name : List ℕ) (budget : Budget) (v : Version) (x : Call) : Type 0 where
  -- It answers 0, 2 or 3 only with a certificate of the outcome in this version, which `check` accepts with the outcome's claim.
  pub proved : IsFound x.status
      → (o : SearchOutcome) × (text : List ℕ) × HoldProof files domain_name problem_name budget v o text × IsCheckable files domain_name problem_name v (claim_of budget.max budget.nodes o) text × (x.status ≡ outcome_status o)
      × (x.new.written ≡ append_known x.old.written text)
  -- Where a search has an outcome it answers with the outcome's status, or that the certificate is too long, unless a call fails or
  -- memory is refused.
  pub answers : (o : SearchOutcome) → HoldOutcome files domain_name problem_name budget o → IsUndisturbed x → (x.status ≡ 9) ⊎ (x.status ≡ 6) ⊎ (x.status ≡ outcome_status o)
  -- Where the domain and the problem are accepted it answers 0, 2, 3, or 6, unless a call fails or memory is refused.
  pub decides : (d : Domain) (p : Problem) (task : TaskShape) (kept : Pruned) → IsAccepted files domain_name problem_name d p task kept → IsUndisturbed x → (x.status ≡ 9) ⊎ (x.status ≡ 6) ⊎ IsFound x.status
