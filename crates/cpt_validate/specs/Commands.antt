use Rattle.std.specs.Prelude.{◌≡◌, ◌≢◌, ℕ, ◌⊎◌, List, Err, IsSome}
use Rattle.std.specs.Io.KnownBytes.{append_known}
use Rattle.cpt_io.specs.Meaning.{Files}
use Rattle.cpt_task.specs.Shape.{TaskShape}
use Rattle.cpt_task.specs.declared.memory.Limit.{Limit}
use Rattle.cpt_domain.specs.declared.domain.Domain.{Domain}
use Rattle.cpt_facts.specs.declared.problem.Problem.{Problem}
use Rattle.cpt_reach.specs.declared.pruning.Pruned.{Pruned}
use Rattle.cpt_reach.specs.Plans.{older_plan}
use Rattle.cpt_answer.specs.declared.ending.Cause.TheVariants.{Passed}
use Rattle.cpt_answer.specs.declared.ending.Ending.TheVariants.{Because}
use Rattle.cpt_answer.specs.Endings.{Answer}
use Rattle.cpt_answer.specs.Lines.{valid_line}
use Rattle.cpt_answer.specs.Promise.{Call, IsAnswerOf, IsQuiet, IsUndisturbed}
use Rattle.cpt_files.specs.Accepted.{IsAccepted, accepted}
use Rattle.cpt_kept.specs.Kept.{IsValidWithAbsence}
use Rattle.cpt_validate.specs.Valid.{HoldJudgedPlan, HoldValidPlan}
use Rattle.cpt_validate.specs.Verdicts.{JudgesFiles, JudgesPlan, accepted_plan}

-- the statuses where no limit is passed and no call failed: of a plan that is valid, of one that is not, of a faulty text, and want of memory
abbrev pub IsVerdict : ℕ → Type 0
IsVerdict status = (status ≡ 0) ⊎ (status ≡ 1) ⊎ (status ≡ 4) ⊎ (status ≡ 9)

-- what `validate-task` promises of a call, over the files
pub record ValidatesTask (files : Files) (task_name plan_name : List ℕ) (x : Call) : Type 0 where
  -- It answers 0 only where the plan is valid, and then its line with the makespan was written.
  pub valid : x.status ≡ 0 → (m : ℕ) × HoldValidPlan files task_name plan_name m × (x.new.written ≡ append_known x.old.written (valid_line m))
  -- Where the plan is valid it answers 0, unless a call fails or memory is refused.
  pub validates : (m : ℕ) → HoldValidPlan files task_name plan_name m → IsUndisturbed x → (x.status ≡ 9) ⊎ ((x.status ≡ 0) × (x.new.written ≡ append_known x.old.written (valid_line m)))
  -- The files have one answer, which is given, unless a call fails or memory is refused.
  pub complete : (a : Answer) → IsAnswerOf (JudgesFiles files task_name plan_name) a → a.status ≢ 7 → IsUndisturbed x
      → (x.status ≡ 9) ⊎ ((x.status ≡ a.status) × (x.new.written ≡ append_known x.old.written a.text))
  -- Where no limit is passed it answers 0, 1 or 4, unless a call fails or memory is refused; over a steady library that holds both
  -- files none does.
  pub within : ((limit : Limit) → JudgesFiles files task_name plan_name (Err (Because (Passed limit))) → ⊥) → IsQuiet (IsSome (files task_name) × IsSome (files plan_name)) x → IsVerdict x.status

-- what `validate` promises of a call, over the files
pub record ValidatesProblem (files : Files) (domain_name problem_name plan_name : List ℕ) (x : Call) : Type 0 where
  -- It answers 0 only where the plan is valid for the ground task, and so for the reading with absence, and then its line with the
  -- makespan was written.
  pub valid : x.status ≡ 0
      → (m : ℕ) × (held : HoldJudgedPlan files domain_name problem_name plan_name m) × IsValidWithAbsence held.domain held.problem (older_plan held.kept.actions held.plan.occs) m
      × (x.new.written ≡ append_known x.old.written (valid_line m))
  -- Where the plan is valid for the ground task it answers 0, unless a call fails or memory is refused.
  pub validates : (m : ℕ) → HoldJudgedPlan files domain_name problem_name plan_name m → IsUndisturbed x
      → (x.status ≡ 9) ⊎ ((x.status ≡ 0) × (x.new.written ≡ append_known x.old.written (valid_line m)))
  -- The files have one answer, which is given, unless a call fails or memory is refused.
  pub complete : (a : Answer) → IsAnswerOf (JudgesPlan files domain_name problem_name plan_name) a → a.status ≢ 7 → IsUndisturbed x
      → (x.status ≡ 9) ⊎ ((x.status ≡ a.status) × (x.new.written ≡ append_known x.old.written a.text))
  -- Where the domain and the problem are accepted and no limit is passed it answers 0, 1 or 4, unless a call fails or memory is
  -- refused; over a steady library that holds the plan none does.
  pub within : (d : Domain) (p : Problem) (task : TaskShape) (kept : Pruned) → IsAccepted files domain_name problem_name d p task kept
      → ((limit : Limit) → accepted_plan files (accepted d p kept) plan_name ≢ Err (Because (Passed limit))) → IsQuiet (IsSome (files plan_name)) x → IsVerdict x.status
