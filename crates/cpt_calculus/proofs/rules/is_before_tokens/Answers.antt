use Rattle.std.proofs.Common.{All, List}
use Rattle.cpt_sheet.specs.declared.data.Token.{Token}
use Rattle.cpt_calculus.specs.Rules.{IsBeforeToken}
use Rattle.cpt_sheet.proofs.Tests.{match_along}
use Rattle.cpt_calculus.proofs.rules.is_before_tokens.Goals as goal

pub returns : goal.returns
returns c =
    match_along (λ (zs : List Token). All (IsBeforeToken c.args.task.now c.args.tables.now c.args.a c.args.p c.args.v) zs) c.is_before_each_token.result c.as_slice.result.now c.args.sheet.now.tokens c.as_slice.ensures c.is_before_each_token.ensures
