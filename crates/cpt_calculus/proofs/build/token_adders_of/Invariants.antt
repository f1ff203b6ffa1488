use Rattle.std.proofs.Common.{◌≡◌}
use Rattle.cpt_calculus.specs.Decisions.{token_adders}
use Rattle.cpt_calculus.proofs.build.token_adders_of.Given as goal

abbrev pub invariant-loop-y : goal.invariant-loop-y
invariant-loop-y l = l.list.items ≡ token_adders l.task l.sheet l.p l.y
