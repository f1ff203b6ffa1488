use Rattle.std.proofs.Common.{◌≡◌, map, take}
use Rattle.cpt_calculus.specs.Decisions.{offer}
use Rattle.cpt_calculus.proofs.applying.offered_needs.Given as goal

abbrev pub invariant-loop-need : goal.invariant-loop-need
invariant-loop-need l = l.made.items ≡ map (offer l.act l.n) (take l.need-index l.needs)
