use Rattle.std.proofs.Common.{◌≡◌, ℕ, ◌<◌, get_or}
use Rattle.cpt_instance.specs.Instances.{objects_for}
use Rattle.cpt_instance.proofs.bindings.are_objects_for.Given as goal

abbrev pub invariant-loop-k : goal.invariant-loop-k
invariant-loop-k l = (j : ℕ) → j < l.k → get_or l.objects j 0 ≡ get_or (objects_for l.args l.terms) j 0
