use Rattle.std.proofs.Common.{◌≡◌, ℕ, nat_eq, drop}
use Rattle.std.specs.Prelude.{◌||◌}
use Rattle.std.specs.List.{list_any}
use Rattle.cpt_problem.specs.Tables.{is_duration_function}
use Rattle.cpt_problem.proofs.timing.duration_functions.Given as goal

abbrev pub invariant-loop-s : goal.invariant-loop-s
invariant-loop-s l =
    (func : ℕ) → (list_any (nat_eq func) l.functions.keys || is_duration_function (drop l.s-index l.schemas) func) ≡ is_duration_function l.schemas func
