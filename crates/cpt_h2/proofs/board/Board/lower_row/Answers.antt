use Rattle.std.proofs.Common.{refl, arith, All, subst}
use Rattle.std.proofs.lemmas.List.{take_all}
use Rattle.cpt_tables.specs.Spans.{◌≤ˢ◌}
use Rattle.cpt_tables.specs.Shapes.{pair_at}
use Rattle.cpt_h2.proofs.BoardLemmas.{drops_same, row_more}
use Rattle.cpt_h2.proofs.board.Board.lower_row.Goals as goal

pub loop-q-init : goal.loop-q-init
loop-q-init c = record { drops = drops_same _ c.args.self.now c.args.self.now refl c.requires.good; met = λ k d lt. absurd (omega arith) }

pub loop-q-preserved : goal.loop-q-preserved
loop-q-preserved c =
    row_more c.args.p c.args.qs.now c.args.value c.args.self.now c.loop-q.self c.lower.new.self c.loop-q.q-index c.requires.next c.requires.first c.requires.second c.loop-q-test.true c.loop-q.invariant c.lower.ensures

pub returns-clause-met : goal.returns-clause-met
returns-clause-met c = subst (All (λ q. pair_at c.loop-q.self.pairs c.args.p q ≤ˢ c.args.value)) (take_all c.loop-q.q-index c.args.qs.now c.loop-q-test.false) c.loop-q.invariant.met
