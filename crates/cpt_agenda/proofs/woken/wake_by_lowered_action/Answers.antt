use Rattle.cpt_task.specs.declared.span.Span.TheVariants.{Never}
use Rattle.cpt_sheet.specs.declared.data.Cand.TheVariants.{Out}
use Rattle.cpt_sheet.specs.declared.data.Change.TheVariants.{Lower, Raise}
use Rattle.cpt_agenda.specs.Asked.{IsTakerOf, WokenBy}
use Rattle.cpt_agenda.proofs.AskedLemmas.{asked_of}
use Rattle.cpt_agenda.proofs.TableLemmas.{lowered_action, lowered_shut, not_shut}
use Rattle.cpt_agenda.proofs.woken.wake_by_lowered_action.Goals as goal

pub returns-then-is_shut : goal.returns-then-is_shut
returns-then-is_shut g c =
    asked_of g.R.Rule.covers c.args.ctx.now.task.now c.args.ctx.now.tables.now c.args.store.now.sheet c.args.cause (WokenBy c.args.ctx.now.task.now c.args.store.now.sheet (Raise (Out c.args.o) Never)) (WokenBy c.args.ctx.now.task.now c.args.store.now.sheet (Lower (Out c.args.o) Never)) _ _
    (lowered_shut c.args.ctx.now.task.now c.args.store.now.sheet c.requires.can.lent.formed c.args.o) c.wake_by_raised_action.ensures

pub returns : goal.returns
returns g c =
    asked_of g.R.Rule.covers c.args.ctx.now.task.now c.args.ctx.now.tables.now c.args.store.now.sheet c.args.cause (IsTakerOf c.args.store.now.sheet c.adds_of-adds.result.now) (WokenBy c.args.ctx.now.task.now c.args.store.now.sheet (Lower (Out c.args.o) Never)) _ _
    (lowered_action c.args.ctx.now.task.now c.args.store.now.sheet c.requires.can.lent.formed c.args.o c.adds_of-adds.result.now c.adds_of-adds.ensures (not_shut _ _ c.span_at.ensures c.if-is_shut.ensures)) c.ask_takers_of.ensures
