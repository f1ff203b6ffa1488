use Rattle.std.proofs.Common.{take}
use Rattle.cpt_dist.specs.Rows.{HasFinite}
use Rattle.cpt_dist.proofs.start.can_stand_with.Given as goal

abbrev pub invariant-loop-r : goal.invariant-loop-r
invariant-loop-r l = HasFinite l.pairs l.p (take l.r-index l.atoms)
