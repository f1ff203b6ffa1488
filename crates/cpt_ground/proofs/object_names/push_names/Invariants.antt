use Rattle.std.proofs.Common.{◌≡◌, ◌++◌, ◌∷◌, take}
use Rattle.std.specs.Prelude.{flat_map}
use Rattle.cpt_instance.specs.Instances.{names_of}
use Rattle.cpt_ground.proofs.object_names.push_names.Given as goal

abbrev pub invariant-loop-object : goal.invariant-loop-object
invariant-loop-object l = l.text.items ≡ l.initial.text.items ++ flat_map (λ word. 32 ∷ word) (names_of l.domain l.problem (take l.object-index l.objects))
