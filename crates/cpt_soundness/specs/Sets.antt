use Rattle.std.specs.Prelude.{All}
use Rattle.std.specs.List.Sorted.{IsStrictlyIncreasing}
use Rattle.cpt_task.specs.Shape.{TaskShape}

-- what the goal and each action need is listed once each
pub record HasSets (t : TaskShape) : Type 0 where
  pub goal : IsStrictlyIncreasing t.goal
  pub pre : All (λ a. IsStrictlyIncreasing a.pre) t.actions
