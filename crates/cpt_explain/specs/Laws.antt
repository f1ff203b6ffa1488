use Rattle.std.specs.Prelude.{◌≡◌, ◌↔◌, List, []}
use Rattle.cpt_task.specs.declared.plan.Occ.{Occ}
use Rattle.cpt_task.specs.declared.plan.Verdict.{Verdict}
use Rattle.cpt_task.specs.Shape.{TaskShape}
use Rattle.cpt_task.specs.Timeline.{IsPlan, IsValid}
use Rattle.cpt_explain.specs.Faults.{AreFaults}

-- a plan has no fault exactly where it is valid
abbrev pub NoFaultsWhereValid : Type 0
NoFaultsWhereValid = (t : TaskShape) (plan : List Occ) (faults : List Verdict) → IsPlan t plan → AreFaults t plan faults → (faults ≡ []) ↔ IsValid t plan

-- a plan has one list of faults
abbrev pub OneFaultList : Type 0
OneFaultList = (t : TaskShape) (plan : List Occ) (first second : List Verdict) → AreFaults t plan first → AreFaults t plan second → first ≡ second
