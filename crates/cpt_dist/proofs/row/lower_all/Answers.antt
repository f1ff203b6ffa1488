use Rattle.std.proofs.Common.{refl, arith, All, subst}
use Rattle.std.proofs.lemmas.List.{take_all}
use Rattle.cpt_tables.specs.Spans.{◌≤ˢ◌}
use Rattle.cpt_tables.specs.Weights.{value_at}
use Rattle.cpt_dist.proofs.MovingLemmas.{falls_same}
use Rattle.cpt_dist.proofs.RowLemmas.{lowers_more}
use Rattle.cpt_dist.proofs.row.lower_all.Goals as goal

pub loop-p-init : goal.loop-p-init
loop-p-init c = record { falls = falls_same _ c.args.row.now c.args.row.now refl c.requires.small; moves = refl; met = λ k d lt. absurd (omega arith) }

pub loop-p-preserved : goal.loop-p-preserved
loop-p-preserved c = lowers_more c.args.atoms.now c.args.value c.args.row.now c.loop-p.row c.lower_one-lower.new.row c.loop-p.p-index c.loop-p.moved c.lower_one-lower.result c.requires.few c.requires.next c.requires.atoms c.loop-p-test.true c.loop-p.invariant c.lower_one-lower.ensures

pub returns-clause-met : goal.returns-clause-met
returns-clause-met c = subst (All (λ p. value_at c.loop-p.row p ≤ˢ c.args.value)) (take_all c.loop-p.p-index c.args.atoms.now c.loop-p-test.false) c.loop-p.invariant.met
