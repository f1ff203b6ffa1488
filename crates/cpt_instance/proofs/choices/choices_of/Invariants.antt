use Rattle.std.proofs.Common.{◌≡◌, take}
use Rattle.cpt_instance.specs.Choices.{choices_of}
use Rattle.cpt_instance.proofs.choices.choices_of.Given as goal

abbrev pub invariant-loop-kind : goal.invariant-loop-kind
invariant-loop-kind l = l.choices.items ≡ choices_of l.types l.kinds (take l.kind-index l.wanted)
