use Rattle.std.proofs.Common.{◌<◌, ℕ}
use Rattle.cpt_sheet.specs.Live.{IsLiveToken}
use Rattle.cpt_sheet.specs.View.{token_at}
use Rattle.cpt_cells.proofs.cells.Cells.dead.Given as goal

abbrev pub invariant-loop-x : goal.invariant-loop-x
invariant-loop-x l = (k : ℕ) → k < l.x → IsLiveToken (token_at l.self.sheet k)
