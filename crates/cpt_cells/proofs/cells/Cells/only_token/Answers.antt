use Rattle.std.proofs.Common.{arith, ◌<◌, ◌∙◌, List, ap, length, sym}
use Rattle.cpt_sheet.specs.declared.data.Cand.{Cand}
use Rattle.cpt_block.specs.Blocks.{list_in}
use Rattle.cpt_cells.proofs.Nths.{found_none, found_one, found_two, token_list}
use Rattle.cpt_cells.proofs.cells.Cells.only_token.Goals as goal
use Rattle.cpt_cells.proofs.cells.Cells.only_token.Goals.{then-lists_token+else-is_some, else-lists_token}

pub loop-y-preserved : goal.loop-y-preserved
loop-y-preserved c =
    let cs : List Cand = list_in c.args.self.now.sheet c.args.x c.args.j in
    elim c.if-lists_token.branch [
      | then-lists_token+else-is_some w ↦ found_one cs c.loop-y.y c.loop-y.found c.loop-y.invariant (sym w.is_some.ensures ∙ w.if-is_some.false) (sym c.lists_token.ensures ∙ w.if-lists_token.true) ∙ ap token_list (sym w.found-is)
      | else-lists_token w ↦ found_none cs c.loop-y.y c.loop-y.found c.loop-y.invariant (sym c.lists_token.ensures ∙ w.if-lists_token.false) ∙ ap token_list (sym w.found-is)
    ]

pub returns-then-is_some : goal.returns-then-is_some
returns-then-is_some c =
    let b : c.loop-y.y < length c.args.self.now.frame.kinds = omega (arith, c.loop-y-test.true, c.tokens-y-end.ensures.kinds) in
    found_two (list_in c.args.self.now.sheet c.args.x c.args.j) c.loop-y.y (length c.args.self.now.frame.kinds) c.loop-y.found b c.loop-y.invariant (sym c.is_some.ensures ∙ c.if-is_some.true) (sym c.lists_token.ensures ∙ c.if-lists_token.true)
