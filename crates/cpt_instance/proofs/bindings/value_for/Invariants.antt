use Rattle.std.proofs.Common.{All, take}
use Rattle.cpt_instance.specs.Instances.{objects_for}
use Rattle.cpt_instance.specs.Values.{IsValueOf}
use Rattle.cpt_instance.proofs.bindings.value_for.Given as goal

abbrev pub invariant-loop-value : goal.invariant-loop-value
invariant-loop-value l = All (λ v. IsValueOf l.func (objects_for l.args l.terms) v → ⊥) (take l.value-index l.values)
