use Rattle.std.proofs.Common.{take}
use Rattle.cpt_instance.specs.Durations.{HasValues}
use Rattle.cpt_instance.proofs.durations.value_map.Given as goal

abbrev pub invariant-loop-value : goal.invariant-loop-value
invariant-loop-value l = HasValues (take l.value-index l.values) l.map
