use Rattle.std.proofs.Common.{◌≡◌, ◌≤◌}
use Rattle.cpt_pddl.specs.Items.{left, size}
use Rattle.cpt_schema.specs.Effects.{effects_in}
use Rattle.cpt_schema.specs.Shapes.{effs_of}
use Rattle.cpt_schema.proofs.effects.Effects.+reading.Given as goal

abbrev pub decreases-read : goal.decreases-read
decreases-read l = size (left l.inside)

abbrev pub decreases-read_all : goal.decreases-read_all
decreases-read_all l = size (left l.place)

-- reading on gives what reading all gives
abbrev pub invariant-read_all-items : goal.invariant-read_all-items
invariant-read_all-items l = record {
  read : effects_in l.declared l.params l.tag (effs_of l.self) (left l.here) ≡ effects_in l.declared l.params l.tag (effs_of l.fn.self) (left l.place);
  shorter : size (left l.here) ≤ size (left l.place);
}

abbrev pub decreases-read_all-items : goal.decreases-read_all-items
decreases-read_all-items l = size (left l.here)
