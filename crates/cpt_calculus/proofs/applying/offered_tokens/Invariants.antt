use Rattle.std.proofs.Common.{◌≡◌, map, take}
use Rattle.cpt_calculus.specs.Decisions.{offered}
use Rattle.cpt_calculus.proofs.applying.offered_tokens.Given as goal

abbrev pub invariant-loop-token : goal.invariant-loop-token
invariant-loop-token l = l.made.items ≡ map (offered l.act l.n) (take l.token-index l.tokens)
