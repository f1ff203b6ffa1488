use Rattle.cpt_task.specs.declared.task.Action.{Action}
use Rattle.cpt_task.specs.Shape.{HasAtomsBelow, IsDuration}
use Rattle.cpt_tables.specs.Shapes.{PairShape, DistShape}

-- the action's atoms are atoms of the pair table, and its duration is in range
pub record IsServed (h : PairShape) (c : Action) : Type 0 where
  pub atoms : HasAtomsBelow h.atoms c
  pub duration : IsDuration c.dur

-- the action's atoms are atoms of the distance table, and its duration is in range
abbrev pub IsReached : DistShape → Action → Type 0
IsReached d c = HasAtomsBelow d.atoms c × IsDuration c.dur
