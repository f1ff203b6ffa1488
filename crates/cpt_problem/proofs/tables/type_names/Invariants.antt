use Rattle.std.proofs.Common.{◌≡◌, take}
use Rattle.cpt_problem.specs.Tables.{type_names}
use Rattle.cpt_problem.proofs.tables.type_names.Given as goal

-- the names so far
abbrev pub invariant-loop-t : goal.invariant-loop-t
invariant-loop-t l = l.names ≡ type_names (take l.t-index l.types)
