use Rattle.std.proofs.Common.{take}
use Rattle.std.specs.List.{AllZip}
use Rattle.cpt_ground.specs.Reading.{IsActionOf}
use Rattle.cpt_ground.proofs.actions.actions_of.Given as goal

abbrev pub invariant-loop-instance : goal.invariant-loop-instance
invariant-loop-instance l = AllZip (IsActionOf l.domain l.problem) (take l.instance-index l.instances) l.actions.items
