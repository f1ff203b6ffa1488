use Rattle.std.proofs.Common.{subst}
use Rattle.cpt_sheet.specs.declared.data.Token.{Token}
use Rattle.cpt_calculus.specs.Rules.{IsBeforeToken}
use Rattle.cpt_sheet.proofs.EachLemmas.{each_more}
use Rattle.cpt_calculus.proofs.rules.is_before_each_token.Goals as goal

pub loop-token-preserved : goal.loop-token-preserved
loop-token-preserved c =
    each_more (IsBeforeToken c.args.task.now c.args.tables.now c.args.a c.args.p c.args.v) c.args.tokens.now c.loop-token.token-index c.loop-token-test.true c.loop-token.invariant c.token-item.result
    (subst (λ (z : Token). IsBeforeToken c.args.task.now c.args.tables.now c.args.a c.args.p c.args.v z) c.token-item.is c.if-not-is_before_token.ensures)
