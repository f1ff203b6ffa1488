use Rattle.std.proofs.Common.{◌≡◌, take}
use Rattle.cpt_problem.specs.Tables.{function_kinds}
use Rattle.cpt_problem.proofs.tables.function_kinds.Given as goal

-- the types so far
abbrev pub invariant-loop-f : goal.invariant-loop-f
invariant-loop-f l = l.kinds.items ≡ function_kinds (take l.f-index l.functions)
