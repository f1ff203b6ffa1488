use Rattle.std.proofs.Common.{get_or}
use Rattle.cpt_branch.specs.Choosing.{AreBelow, IsClashWith, IsFirstOf}
use Rattle.cpt_branch.proofs.choosing.clash_of.Given as goal

abbrev pub invariant-loop-rival : goal.invariant-loop-rival
invariant-loop-rival l = IsFirstOf l.store.sheet (AreBelow (λ i. IsClashWith l.store.task l.store.sheet l.x (get_or l.rivals i 0)) l.rival-index) l.first
