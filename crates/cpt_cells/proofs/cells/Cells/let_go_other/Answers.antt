use Rattle.std.proofs.Common.{◌≡◌}
use Rattle.cpt_sheet.specs.declared.data.Cand.TheVariants.{Tok}
use Rattle.cpt_cells.proofs.cells.Cells.let_go_other.Goals as goal

pub returns-then-z-y-clause-stays : goal.returns-then-z-y-clause-stays
returns-then-z-y-clause-stays g c = c.let_go.ensures.others (Tok c.args.y) (λ e. c.if-z-y.true (let k : c.args.z ≡ c.args.y = cc in k))
