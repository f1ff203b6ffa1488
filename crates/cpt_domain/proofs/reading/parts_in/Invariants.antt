use Rattle.std.proofs.Common.{◌≡◌}
use Rattle.cpt_pddl.specs.Items.{left, size}
use Rattle.cpt_domain.specs.Parts.{part_of}
use Rattle.cpt_domain.specs.Reading.{nothing_read, parts_in}
use Rattle.cpt_domain.proofs.reading.parts_in.Given as goal

abbrev pub invariant-items : goal.invariant-items
invariant-items l = parts_in (part_of l.state) (left l.here) ≡ parts_in nothing_read (left l.place)

abbrev pub decreases-items : goal.decreases-items
decreases-items l = size (left l.here)
