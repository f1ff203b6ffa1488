use Rattle.std.specs.Prelude.{◌≡◌, ℕ, List}
use Rattle.cpt_io.specs.Meaning.{Files}
use Rattle.cpt_task.specs.Shape.{TaskShape}
use Rattle.cpt_task.specs.declared.plan.Occ.{Occ}
use Rattle.cpt_task_text.specs.Plain.{IsPlain}
use Rattle.cpt_domain.specs.declared.domain.Domain.{Domain}
use Rattle.cpt_facts.specs.declared.problem.Problem.{Problem}
use Rattle.cpt_ground.specs.Laws.{HasSamePlans}
use Rattle.cpt_ground.specs.Reading.{IsReading}
use Rattle.cpt_ground.specs.declared.signed.Signed.{Signed}
use Rattle.cpt_ground.specs.Signed.{IsValidSigned, signed_makespan}
use Rattle.cpt_reach.specs.declared.pruning.Pruned.{Pruned}
use Rattle.cpt_reach.specs.Plans.{KeepsPlans}
use Rattle.cpt_files.specs.Accepted.{IsAccepted}

-- the two files hold a domain and a problem of it, and this is the kept part of their ground task
pub record HoldKept (files : Files) (domain_name problem_name : List ℕ) (kept : Pruned) : Type 0 where
  pub domain : Domain
  pub problem : Problem
  pub task : TaskShape
  pub accepted : IsAccepted files domain_name problem_name domain problem task kept

-- The kept part is plain. Its plans are those of the ground task, up to the numbers of actions, and the plans of the ground task are
-- those of the domain and the problem as they are read with absence.
pub record StandsFor (d : Domain) (p : Problem) (task : TaskShape) (kept : Pruned) : Type 0 where
  pub plain : IsPlain kept.task
  pub keeps : KeepsPlans task kept.task kept.actions
  pub reading : Signed
  pub reads : IsReading d p reading
  pub same : HasSamePlans task reading

-- the kept part of an accepted task stands for it
abbrev pub KeptPartsStand : Type 0
KeptPartsStand = (files : Files) (domain_name problem_name : List ℕ) (d : Domain) (p : Problem) (task : TaskShape) (kept : Pruned)
    → IsAccepted files domain_name problem_name d p task kept → StandsFor d p task kept

-- the plan is valid for the domain and the problem as they are read with absence, with the same makespan
pub record IsValidWithAbsence (d : Domain) (p : Problem) (plan : List Occ) (m : ℕ) : Type 0 where
  pub reading : Signed
  pub reads : IsReading d p reading
  pub valid : IsValidSigned reading plan
  pub is : m ≡ signed_makespan reading plan
