use Rattle.cpt_branch.specs.Choosing.{AreBelow, IsFirstOf, IsOfToken}
use Rattle.cpt_branch.proofs.choosing.of_lists.Given as goal

abbrev pub invariant-loop-x : goal.invariant-loop-x
invariant-loop-x l = IsFirstOf l.store.sheet (AreBelow (IsOfToken l.store.task l.store.sheet) l.x) l.first
