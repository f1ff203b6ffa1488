use Rattle.std.proofs.Common.{◌≡◌, take}
use Rattle.cpt_problem.specs.Tables.{function_names}
use Rattle.cpt_problem.proofs.tables.function_names.Given as goal

-- the names so far
abbrev pub invariant-loop-f : goal.invariant-loop-f
invariant-loop-f l = l.names ≡ function_names (take l.f-index l.functions)
