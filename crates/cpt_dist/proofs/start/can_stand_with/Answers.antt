use Rattle.std.proofs.Common.{All, subst}
use Rattle.std.proofs.lemmas.List.{take_all}
use Rattle.std.proofs.lemmas.List.Elements.{All-more}
use Rattle.cpt_tables.specs.Spans.{IsFinite}
use Rattle.cpt_tables.specs.Shapes.{pair_at}
use Rattle.cpt_dist.proofs.start.can_stand_with.Goals as goal

pub loop-r-preserved : goal.loop-r-preserved
loop-r-preserved c =
    All-more (λ r. IsFinite (pair_at c.args.pairs.now c.args.p r)) c.args.atoms.now c.loop-r.r-index 0 c.loop-r-test.true c.loop-r.invariant
    (subst IsFinite c.get.ensures c.if-not-is_finite.ensures)

pub returns : goal.returns
returns c = subst (All (λ r. IsFinite (pair_at c.args.pairs.now c.args.p r))) (take_all c.loop-r.r-index c.args.atoms.now c.loop-r-test.false) c.loop-r.invariant
