use Rattle.std.proofs.Common.{get_or}
use Rattle.cpt_branch.specs.Choosing.{AreBelow, IsFirstOf, IsOfList}
use Rattle.cpt_branch.proofs.choosing.of_token.Given as goal

abbrev pub invariant-loop-need : goal.invariant-loop-need
invariant-loop-need l = IsFirstOf l.store.sheet (AreBelow (λ i. IsOfList l.store.task l.store.sheet l.x (get_or l.needs i 0)) l.need-index) l.first
