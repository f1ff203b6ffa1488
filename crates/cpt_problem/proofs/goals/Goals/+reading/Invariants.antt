use Rattle.std.proofs.Common.{◌≡◌, ◌≤◌}
use Rattle.cpt_pddl.specs.Items.{left, size}
use Rattle.cpt_problem.specs.Goals.{goals_in}
use Rattle.cpt_problem.specs.Shapes.{aims_of}
use Rattle.cpt_problem.proofs.goals.Goals.+reading.Given as goal

abbrev pub decreases-read : goal.decreases-read
decreases-read l = size (left l.inside)

abbrev pub decreases-read_all : goal.decreases-read_all
decreases-read_all l = size (left l.place)

-- reading on gives what reading all gives
abbrev pub invariant-read_all-items : goal.invariant-read_all-items
invariant-read_all-items l = record {
  read : goals_in l.declared (aims_of l.self) (left l.here) ≡ goals_in l.declared (aims_of l.fn.self) (left l.place);
  shorter : size (left l.here) ≤ size (left l.place);
}

abbrev pub decreases-read_all-items : goal.decreases-read_all-items
decreases-read_all-items l = size (left l.here)
