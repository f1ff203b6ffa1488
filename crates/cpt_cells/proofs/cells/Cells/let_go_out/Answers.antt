use Rattle.std.proofs.Common.{get_or}
use Rattle.cpt_sheet.specs.declared.data.Cand.TheVariants.{Tok, Out}
use Rattle.cpt_sheet.specs.View.{cands}
use Rattle.cpt_cells.proofs.Leaving.{fewer_left}
use Rattle.cpt_cells.proofs.cells.Cells.let_go_out.Goals as goal

pub returns-clause-fewer : goal.returns-clause-fewer
returns-clause-fewer g c = fewer_left (Out (get_or c.adders.result.now c.args.place 0)) (cands c.args.self.now.sheet c.args.x c.args.p) (cands c.let_go.new.self.sheet c.args.x c.args.p) c.let_go.ensures.gone c.let_go.ensures.others

pub returns-clause-stays : goal.returns-clause-stays
returns-clause-stays g c z = c.let_go.ensures.others (Tok z) (λ e. cc)
