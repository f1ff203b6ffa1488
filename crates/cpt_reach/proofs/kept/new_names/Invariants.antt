use Rattle.std.proofs.Common.{◌≡◌, map, take}
use Rattle.cpt_reach.specs.Kept.{name_at}
use Rattle.cpt_reach.proofs.kept.new_names.Given as goal

abbrev pub invariant-loop-p : goal.invariant-loop-p
invariant-loop-p l = l.names.items ≡ map (name_at l.task) (take l.p-index l.atoms)
