use Rattle.std.proofs.Common.{refl, arith, subst}
use Rattle.std.proofs.lemmas.List.{take_all}
use Rattle.cpt_h2.specs.Board.{AllBelow}
use Rattle.cpt_h2.proofs.BoardLemmas.{drops_same, rows_more}
use Rattle.cpt_h2.proofs.board.Board.lower_all.Goals as goal

pub loop-p-init : goal.loop-p-init
loop-p-init c = record { drops = drops_same _ c.args.self.now c.args.self.now refl c.requires.good; met = λ k d lt. absurd (omega arith) }

pub loop-p-preserved : goal.loop-p-preserved
loop-p-preserved c =
    rows_more c.args.ps.now c.args.qs.now c.args.value c.args.self.now c.loop-p.self c.lower_row.new.self c.loop-p.p-index c.loop-p-test.true c.loop-p.invariant c.lower_row.ensures.drops c.lower_row.ensures.met

pub returns-clause-met : goal.returns-clause-met
returns-clause-met c = subst (λ xs. AllBelow c.loop-p.self.pairs xs c.args.qs.now c.args.value) (take_all c.loop-p.p-index c.args.ps.now c.loop-p-test.false) c.loop-p.invariant.met
