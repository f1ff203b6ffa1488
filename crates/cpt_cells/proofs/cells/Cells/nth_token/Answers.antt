use Rattle.std.proofs.Common.{arith, ◌<◌, ◌≤◌, ◌+◌, ◌∙◌, List, length, ap, sym}
use Rattle.cpt_sheet.specs.declared.data.Cand.{Cand}
use Rattle.cpt_block.specs.Blocks.{bit, list_in}
use Rattle.cpt_cells.proofs.Nths.{is_there, nth_token, passes_on, tokens_more}
use Rattle.cpt_cells.proofs.cells.Cells.nth_token.Goals as goal

pub loop-y-preserved : goal.loop-y-preserved
loop-y-preserved c =
    let cs : List Cand = list_in c.args.self.now.sheet c.args.x c.args.j in
    let i = c.loop-y.invariant in
    let p : c.loop-y.passed + bit c.lists_token-listed.result ≤ c.args.place = passes_on c.lists_token-listed.result c.loop-y.passed c.args.place (sym c.is_nth.ensures ∙ c.if-is_nth.false) i.most in
    record {
      passed = tokens_more cs c.loop-y.y c.loop-y.passed c.one_if-passed.result i.passed (c.one_if-passed.ensures.value ∙ ap bit c.lists_token-listed.ensures);
      most = omega (arith, p, c.one_if-passed.ensures.value);
    }

pub returns-then-is_nth : goal.returns-then-is_nth
returns-then-is_nth c =
    let cs : List Cand = list_in c.args.self.now.sheet c.args.x c.args.j in
    let r = is_there c.is_nth.result c.lists_token-listed.result c.loop-y.passed c.args.place c.is_nth.ensures c.if-is_nth.true in
    let l : c.loop-y.y < length c.args.self.now.frame.kinds = omega (arith, c.tokens-y-end.ensures.kinds) in
    nth_token cs (length c.args.self.now.frame.kinds) c.loop-y.y c.args.place l (sym c.lists_token-listed.ensures ∙ r.0) (r.1 ∙ c.loop-y.invariant.passed)
