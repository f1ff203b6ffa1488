use Rattle.std.proofs.Common.{None}
use Rattle.cpt_branch.specs.Choosing.{AreBelow, IsClashOf, IsFirstOf}
use Rattle.cpt_branch.proofs.choosing.first_clash.Given as goal

abbrev pub invariant-loop-x : goal.invariant-loop-x
invariant-loop-x l = IsFirstOf l.store.sheet (AreBelow (IsClashOf l.store.task l.store.sheet) l.x) None
