use Rattle.std.proofs.Common.{arith, ◌∙◌, List, ap}
use Rattle.cpt_sheet.specs.declared.data.Cand.{Cand}
use Rattle.cpt_block.specs.Blocks.{bit, list_in}
use Rattle.cpt_cells.proofs.Nths.{tokens_more}
use Rattle.cpt_cells.proofs.cells.Cells.count_tokens.Goals as goal

pub loop-y-preserved : goal.loop-y-preserved
loop-y-preserved c =
    let cs : List Cand = list_in c.args.self.now.sheet c.args.x c.args.j in
    let i = c.loop-y.invariant in
    record {
      value = tokens_more cs c.loop-y.y c.loop-y.count c.one_if-count.result i.value (c.one_if-count.ensures.value ∙ ap bit c.lists_token-listed.ensures);
      few = omega (arith, c.one_if-count.ensures.most, i.few);
    }
