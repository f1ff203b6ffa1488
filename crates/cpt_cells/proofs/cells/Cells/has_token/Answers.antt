use Rattle.std.proofs.Common.{◌∙◌, sym}
use Rattle.cpt_block.specs.Blocks.{list_in}
use Rattle.cpt_cells.proofs.Nths.{tokens_none}
use Rattle.cpt_cells.proofs.cells.Cells.has_token.Goals as goal

pub loop-y-preserved : goal.loop-y-preserved
loop-y-preserved c = tokens_none (list_in c.args.self.now.sheet c.args.x c.args.j) c.loop-y.y c.loop-y.invariant (sym c.lists_token.ensures ∙ c.if-lists_token.false)
