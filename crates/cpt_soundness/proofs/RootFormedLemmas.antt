-- the root is formed
use Rattle.std.proofs.Common.{ℕ, ◌≤◌}
use Rattle.cpt_task.specs.Shape.{TaskShape, InBounds}
use Rattle.cpt_tables.specs.declared.tables.Tables.{Tables}
use Rattle.cpt_sheet.specs.Formed.{IsFormed}
use Rattle.cpt_sheet.specs.Gaps.{FitsTask}
use Rattle.cpt_calculus.specs.Root.{root_of}
use Rattle.cpt_calculus.proofs.RootFormed as calculus

pub root_formed : (t : TaskShape) (b : Tables) (m : ℕ) → InBounds t → FitsTask t b → m ≤ 1000000 → IsFormed t (root_of t b m)
root_formed t b m inside fit few = calculus.root_formed t b m inside fit few
