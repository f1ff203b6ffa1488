use Rattle.std.proofs.Common.{take}
use Rattle.cpt_reach.specs.Marking.{AddsUses}
use Rattle.cpt_reach.proofs.users.add_uses.Given as goal

abbrev pub invariant-loop-x : goal.invariant-loop-x
invariant-loop-x l = AddsUses l.a (take l.x-index l.xs) l.initial.rows l.rows
