use Rattle.std.specs.Prelude.{◌≡◌, ℕ, List, Ok}
use Rattle.cpt_io.specs.Meaning.{Files}
use Rattle.cpt_task.specs.Shape.{TaskShape}
use Rattle.cpt_task.specs.Timeline.{IsValid, makespan}
use Rattle.cpt_domain.specs.declared.domain.Domain.{Domain}
use Rattle.cpt_facts.specs.declared.problem.Problem.{Problem}
use Rattle.cpt_reach.specs.declared.pruning.Pruned.{Pruned}
use Rattle.cpt_reach.specs.Plans.{older_plan}
use Rattle.cpt_plan_text.specs.declared.reading.PlanText.{PlanText}
use Rattle.cpt_files.specs.Accepted.{IsAccepted}
use Rattle.cpt_files.specs.Files.{task_under, plan_by, plan_under}
use Rattle.cpt_files.specs.Names.{kept_finds}

-- the two files hold a task and a plan that is valid with that makespan
pub record HoldValidPlan (files : Files) (task_name plan_name : List ℕ) (m : ℕ) : Type 0 where
  pub task : TaskShape
  pub plan : PlanText
  pub task_file : task_under files task_name ≡ Ok task
  pub plan_file : plan_under files task plan_name ≡ Ok plan
  pub valid : IsValid task plan.occs
  pub is : m ≡ makespan task plan.occs

-- the two files hold a domain and a problem of it with this kept part of their ground task, and the third file holds a plan
-- that is valid for the ground task with that makespan, where its actions have the numbers of the ground task
pub record HoldJudgedPlan (files : Files) (domain_name problem_name plan_name : List ℕ) (m : ℕ) : Type 0 where
  pub domain : Domain
  pub problem : Problem
  pub task : TaskShape
  pub kept : Pruned
  pub accepted : IsAccepted files domain_name problem_name domain problem task kept
  pub plan : PlanText
  pub plan_file : plan_by files (kept_finds domain problem kept) kept.task plan_name ≡ Ok plan
  pub valid : IsValid task (older_plan kept.actions plan.occs)
  pub is : m ≡ makespan task (older_plan kept.actions plan.occs)
