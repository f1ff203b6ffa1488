use Rattle.std.proofs.Common.{◌≡◌, take}
use Rattle.cpt_problem.specs.Tables.{predicate_kinds}
use Rattle.cpt_problem.proofs.tables.predicate_kinds.Given as goal

-- the types so far
abbrev pub invariant-loop-p : goal.invariant-loop-p
invariant-loop-p l = l.kinds.items ≡ predicate_kinds (take l.p-index l.predicates)
