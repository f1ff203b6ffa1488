use Rattle.std.proofs.Common.{sym, subst}
use Rattle.std.specs.List.Sorted.{IsStrictlyIncreasing}
use Rattle.cpt_reach.proofs.Numbering.{renumbered-increasing}
use Rattle.cpt_reach.proofs.numbers.new_numbers.Goals as goal

pub unwrap-requires : goal.unwrap-requires
unwrap-requires c =
    c.from_vec.ensures.made.1 (subst IsStrictlyIncreasing (sym c.in_ok-places.ensures) (renumbered-increasing c.args.kept.now c.requires.kept c.args.xs.now c.requires.increasing))
