use Rattle.std.proofs.Common.{◌≡◌, ◌≤◌}
use Rattle.cpt_pddl.specs.Items.{left, size}
use Rattle.cpt_schema.specs.Conditions.{timed_conditions_in}
use Rattle.cpt_schema.specs.Shapes.{conds_of}
use Rattle.cpt_schema.proofs.conditions.Conditions.+timed.Given as goal

abbrev pub decreases-read_timed : goal.decreases-read_timed
decreases-read_timed l = size (left l.inside)

abbrev pub decreases-read_all_timed : goal.decreases-read_all_timed
decreases-read_all_timed l = size (left l.place)

-- reading on gives what reading all gives
abbrev pub invariant-read_all_timed-items : goal.invariant-read_all_timed-items
invariant-read_all_timed-items l = record {
  read : timed_conditions_in l.declared l.params (conds_of l.self) (left l.here) ≡ timed_conditions_in l.declared l.params (conds_of l.fn.self) (left l.place);
  shorter : size (left l.here) ≤ size (left l.place);
}

abbrev pub decreases-read_all_timed-items : goal.decreases-read_all_timed-items
decreases-read_all_timed-items l = size (left l.here)
