use Rattle.std.proofs.Common.{refl, subst, sym, All}
use Rattle.cpt_task.specs.Shape.{HasAtomsBelow}
use Rattle.cpt_dist.specs.Rows.{IsClosed}
use Rattle.cpt_dist.proofs.MovingLemmas.{falls_same, falls_again, less_left}
use Rattle.cpt_dist.proofs.row.lower.Goals as goal

pub loop-moved-init : goal.loop-moved-init
loop-moved-init c = record { falls = falls_same (IsClosed c.args.actions.now) c.args.row.now c.args.row.now refl c.requires.small; closed = λ e. absurd (cc) }

pub loop-moved-preserved : goal.loop-moved-preserved
loop-moved-preserved c = record {
  falls = falls_again (IsClosed c.args.actions.now) c.args.row.now c.loop-moved.row c.sweep-moved.new.row c.loop-moved.invariant.falls c.sweep-moved.ensures.falls;
  closed = c.sweep-moved.ensures.met;
}

pub loop-moved-smaller : goal.loop-moved-smaller
loop-moved-smaller c = less_left c.loop-moved.row c.sweep-moved.new.row c.loop-moved.moved c.sweep-moved.result c.loop-moved-test.true c.sweep-moved.ensures.moves

pub returns : goal.returns
returns c = record { falls = c.loop-moved.invariant.falls; closed = c.loop-moved.invariant.closed c.loop-moved-test.false }

pub sweep-moved-requires-clause-atoms : goal.sweep-moved-requires-clause-atoms
sweep-moved-requires-clause-atoms c = subst (λ n. All (HasAtomsBelow n) c.args.actions.now) (sym c.loop-moved.auto.row) c.requires.atoms
