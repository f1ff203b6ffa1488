use Rattle.std.proofs.Common.{refl, arith, All, subst, sym, length}
use Rattle.std.proofs.lemmas.List.{take_all}
use Rattle.cpt_task.specs.declared.task.Action.{Action}
use Rattle.cpt_task.specs.Shape.{HasAtomsBelow, IsDuration}
use Rattle.cpt_tables.specs.Weights.{value_at}
use Rattle.cpt_dist.specs.Rows.{IsMetBy, IsClosed}
use Rattle.cpt_dist.proofs.MovingLemmas.{falls_same}
use Rattle.cpt_dist.proofs.RowLemmas.{sweeps_more, closed_by_sweep}
use Rattle.cpt_dist.proofs.row.sweep.Goals as goal

pub lower_by-lower-requires-clause-small : goal.lower_by-lower-requires-clause-small
lower_by-lower-requires-clause-small c = c.loop-c.invariant.falls.small

pub lower_by-lower-requires-clause-atoms : goal.lower_by-lower-requires-clause-atoms
lower_by-lower-requires-clause-atoms c =
    subst (λ n. HasAtomsBelow n c.c-item.result) (sym c.loop-c.auto.row)
    (subst (HasAtomsBelow (length c.args.row.now)) (sym c.c-item.is) (c.requires.atoms c.loop-c.c-index c.c-item.result c.loop-c-test.true))

pub lower_by-lower-requires-clause-duration : goal.lower_by-lower-requires-clause-duration
lower_by-lower-requires-clause-duration c =
    subst (λ (a : Action). IsDuration a.dur) (sym c.c-item.is) (c.requires.durations c.loop-c.c-index c.c-item.result c.loop-c-test.true)

pub loop-c-init : goal.loop-c-init
loop-c-init c = record { falls = falls_same (IsClosed c.args.actions.now) c.args.row.now c.args.row.now refl c.requires.small; moves = refl; met = λ e k d lt. absurd (omega arith) }

pub loop-c-preserved : goal.loop-c-preserved
loop-c-preserved c =
    sweeps_more c.args.actions.now c.args.row.now c.loop-c.row c.lower_by-lower.new.row c.loop-c.c-index c.loop-c.moved c.lower_by-lower.result c.c-item.result c.loop-c-test.true c.c-item.is
    c.loop-c.invariant c.lower_by-lower.ensures.falls c.lower_by-lower.ensures.moves c.lower_by-lower.ensures.met

pub returns-clause-met : goal.returns-clause-met
returns-clause-met c = λ e. closed_by_sweep c.args.actions.now (value_at c.loop-c.row) (subst (All (IsMetBy (value_at c.loop-c.row))) (take_all c.loop-c.c-index c.args.actions.now c.loop-c-test.false) (c.loop-c.invariant.met e))
