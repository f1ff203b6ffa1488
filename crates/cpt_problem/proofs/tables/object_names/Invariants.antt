use Rattle.std.proofs.Common.{◌≡◌, take}
use Rattle.cpt_problem.specs.Tables.{object_names}
use Rattle.cpt_problem.proofs.tables.object_names.Given as goal

-- the names so far
abbrev pub invariant-loop-o : goal.invariant-loop-o
invariant-loop-o l = l.names ≡ object_names (take l.o-index l.objects)
