use Rattle.std.proofs.Common.{◌<◌, length, subst, sym, arith}
use Rattle.cpt_tables.specs.Spans.{IsFinite}
use Rattle.cpt_tables.specs.Shapes.{pair_at}
use Rattle.cpt_tables.proofs.ListLemmas.{place_in}
use Rattle.cpt_tables.proofs.dists.can_hold_with.Goals as goal

pub returns : goal.returns
returns c r has =
    let at = place_in c.args.atoms.now r has in
    let lt : at.0 < length c.args.atoms.now = at.1 in
    subst (λ x. IsFinite (pair_at c.args.pairs.now c.args.p x)) (sym at.2) (c.loop-r.invariant at.0 (omega (arith, lt, c.loop-r-test.false)))
