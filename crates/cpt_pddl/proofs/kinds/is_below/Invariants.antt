use Rattle.std.proofs.Common.{◌≡◌, ◌-◌, length}
use Rattle.cpt_pddl.specs.Kinds.{climbs}
use Rattle.cpt_pddl.proofs.kinds.is_below.Given as goal

abbrev pub invariant-loop-step : goal.invariant-loop-step
invariant-loop-step l = climbs (length l.parents - l.step) l.parents l.here l.wanted ≡ climbs (length l.parents) l.parents l.kind l.wanted
