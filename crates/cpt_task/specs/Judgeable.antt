use Rattle.std.specs.Prelude.{◌≤◌, List, All}
use Rattle.cpt_task.specs.declared.plan.Occ.{Occ}
use Rattle.cpt_task.specs.Shape.{TaskShape}
use Rattle.cpt_task.specs.Timeline.{IsOccurrence}

-- an occurrence that can be judged: of an action of the task, and it starts at 10^12 at the latest
abbrev pub IsJudgeableAt : TaskShape → Occ → Type 0
IsJudgeableAt t o = IsOccurrence t o × (o.start ≤ 1000000000000)

-- a plan that can be judged
abbrev pub IsJudgeable : TaskShape → List Occ → Type 0
IsJudgeable t plan = All (IsJudgeableAt t) plan
