use Rattle.std.proofs.Common.{◌≡◌, ◌<◌, ◌++◌, drop}
use Rattle.cpt_instance.specs.Choices.{choice_at, choice_count}
use Rattle.cpt_instance.proofs.choices.choice_at.Given as goal

abbrev pub invariant-loop-objects : goal.invariant-loop-objects
invariant-loop-objects l = record {
  told : l.args.items ++ choice_at (drop l.objects-index l.choices) l.left ≡ choice_at l.choices l.place;
  total : l.ways ≡ choice_count (drop l.objects-index l.choices);
  within : l.left < l.ways;
}
