use Rattle.std.proofs.Common.{ℕ, ◌<◌, get_or}
use Rattle.cpt_sheet.specs.declared.data.Token.{Token}
use Rattle.cpt_calculus.specs.Rules.{IsBeforeToken}
use Rattle.cpt_calculus.proofs.rules.is_before_each_token.Given as goal

abbrev pub invariant-loop-token : goal.invariant-loop-token
invariant-loop-token l = (k : ℕ) (e : Token) → k < l.token-index → IsBeforeToken l.task l.tables l.a l.p l.v (get_or l.tokens k e)
