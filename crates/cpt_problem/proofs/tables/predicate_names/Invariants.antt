use Rattle.std.proofs.Common.{◌≡◌, take}
use Rattle.cpt_problem.specs.Tables.{predicate_names}
use Rattle.cpt_problem.proofs.tables.predicate_names.Given as goal

-- the names so far
abbrev pub invariant-loop-p : goal.invariant-loop-p
invariant-loop-p l = l.names ≡ predicate_names (take l.p-index l.predicates)
