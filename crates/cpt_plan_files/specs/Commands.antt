use Rattle.std.specs.Prelude.{◌≡◌, ◌≢◌, ℕ, ◌<◌, ◌≤◌, ◌⊎◌, List, ◌++◌, length, Ok, Err}
use Rattle.std.specs.Io.KnownBytes.{append_known}
use Rattle.cpt_io.specs.Meaning.{Files}
use Rattle.cpt_task.specs.declared.plan.Verdict.{Verdict}
use Rattle.cpt_task.specs.Shape.{TaskShape}
use Rattle.cpt_task.specs.Timeline.{makespan}
use Rattle.cpt_domain.specs.declared.domain.Domain.{Domain}
use Rattle.cpt_facts.specs.declared.problem.Problem.{Problem}
use Rattle.cpt_reach.specs.declared.pruning.Pruned.{Pruned}
use Rattle.cpt_plan_text.specs.declared.reading.PlanText.{PlanText}
use Rattle.cpt_reach.specs.Plans.{older_plan}
use Rattle.cpt_answer.specs.declared.ending.Ending.{Ending}
use Rattle.cpt_answer.specs.Endings.{Answer, ending_answer}
use Rattle.cpt_answer.specs.Lines.{valid_line}
use Rattle.cpt_answer.specs.Promise.{Call, IsAnswerOf, IsUndisturbed}
use Rattle.cpt_explain.specs.Faults.{AreFaults}
use Rattle.cpt_files.specs.Accepted.{IsAccepted}
use Rattle.cpt_files.specs.Files.{plan_by}
use Rattle.cpt_files.specs.Names.{kept_finds}
use Rattle.cpt_kept.specs.Kept.{IsValidWithAbsence}
use Rattle.cpt_validate.specs.Valid.{HoldJudgedPlan}
use Rattle.cpt_validate.specs.Verdicts.{JudgesPlan}
use Rattle.cpt_plan_files.specs.Explaining.{faults_answer, faults_line, too_many_answer}
use Rattle.cpt_plan_files.specs.Texts.{IsTightText}

-- what `tighten` promises of a call, over the files
pub record TightensProblem (files : Files) (domain_name problem_name plan_name : List ℕ) (x : Call) : Type 0 where
  -- It answers 0 only where the plan is valid for the ground task, and then the plan at its earliest, its makespan and its chain were
  -- written. That plan too is valid, for the reading with absence.
  pub tightened : x.status ≡ 0
      → (m : ℕ) × (held : HoldJudgedPlan files domain_name problem_name plan_name m) × (text : List ℕ) × (tight : IsTightText held.kept.task held.plan.occs text)
      × IsValidWithAbsence held.domain held.problem (older_plan held.kept.actions tight.tight) (makespan held.kept.task tight.tight) × (x.new.written ≡ append_known x.old.written text)
  -- Where the plan is valid for the ground task it answers 0, unless a call fails or memory is refused.
  pub tightens : (m : ℕ) (held : HoldJudgedPlan files domain_name problem_name plan_name m) → IsUndisturbed x
      → (x.status ≡ 9) ⊎ ((x.status ≡ 0) × ((text : List ℕ) × IsTightText held.kept.task held.plan.occs text × (x.new.written ≡ append_known x.old.written text)))
  -- Where judging the plan does not end with status 0, that is the answer, unless a call fails or memory is refused.
  pub otherwise : (a : Answer) → IsAnswerOf (JudgesPlan files domain_name problem_name plan_name) a → a.status ≢ 0 → a.status ≢ 7 → IsUndisturbed x
      → (x.status ≡ 9) ⊎ ((x.status ≡ a.status) × (x.new.written ≡ append_known x.old.written a.text))

-- the files hold a domain and a problem with this kept part of their ground task, and a plan that is read over it
pub record HoldReadPlan (files : Files) (domain_name problem_name plan_name : List ℕ) (kept : Pruned) (plan : PlanText) : Type 0 where
  pub domain : Domain
  pub problem : Problem
  pub task : TaskShape
  pub accepted : IsAccepted files domain_name problem_name domain problem task kept
  pub plan_file : plan_by files (kept_finds domain problem kept) kept.task plan_name ≡ Ok plan

-- what `explain` promises of a call, over the files
pub record ExplainsProblem (files : Files) (domain_name problem_name plan_name : List ℕ) (x : Call) : Type 0 where
  -- It answers 0 only where the plan is valid for the ground task, and then its line with the makespan and that it has no fault were written.
  pub valid : x.status ≡ 0
      → (m : ℕ) × (held : HoldJudgedPlan files domain_name problem_name plan_name m) × (x.new.written ≡ append_known x.old.written (valid_line (makespan held.kept.task held.plan.occs) ++ faults_line 0))
  -- Where a plan of at most 1,024 occurrences is read, its faults are written, with status 0 where there is none and else 1, unless a call
  -- fails or memory is refused.
  pub explains : (kept : Pruned) (plan : PlanText) → HoldReadPlan files domain_name problem_name plan_name kept plan → length plan.occs ≤ 1024 → IsUndisturbed x
      → (x.status ≡ 9)
      ⊎ ((faults : List Verdict) × AreFaults kept.task plan.occs faults × (x.status ≡ (faults_answer kept.task plan faults).status) × (x.new.written ≡ append_known x.old.written (faults_answer kept.task plan faults).text))
  -- Where a longer plan is read, that is the limit, unless a call fails or memory is refused.
  pub limits : (kept : Pruned) (plan : PlanText) → HoldReadPlan files domain_name problem_name plan_name kept plan → 1024 < length plan.occs → IsUndisturbed x
      → (x.status ≡ 9) ⊎ ((x.status ≡ 6) × (x.new.written ≡ append_known x.old.written too_many_answer.text))
  -- Where judging the plan ends before it is read, that is the answer, unless a call fails or memory is refused.
  pub otherwise : (e : Ending) → JudgesPlan files domain_name problem_name plan_name (Err e) → (ending_answer e).status ≢ 7 → IsUndisturbed x
      → (x.status ≡ 9) ⊎ ((x.status ≡ (ending_answer e).status) × (x.new.written ≡ append_known x.old.written (ending_answer e).text))
