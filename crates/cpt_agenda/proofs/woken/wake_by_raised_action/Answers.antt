use Rattle.cpt_agenda.specs.declared.asked.Use.TheVariants.{Needed}
use Rattle.cpt_task.specs.declared.span.Span.TheVariants.{Never}
use Rattle.cpt_sheet.specs.declared.data.Cand.TheVariants.{Out}
use Rattle.cpt_sheet.specs.declared.data.Change.TheVariants.{Raise}
use Rattle.cpt_agenda.specs.Asked.{IsTakerOf, IsUserOf, WokenBy}
use Rattle.cpt_agenda.proofs.AskedLemmas.{asked_then, can_after}
use Rattle.cpt_agenda.proofs.TableLemmas.{raised_action}
use Rattle.cpt_agenda.proofs.woken.wake_by_raised_action.Goals as goal

pub ask_users_of-requires-clause-can : goal.ask_users_of-requires-clause-can
ask_users_of-requires-clause-can g c = can_after c.args.ctx.now.task.now c.args.ctx.now.tables.now c.args.store.now _ _ c.requires.can c.ask_takers_of.ensures.keeps

pub returns : goal.returns
returns g c =
    asked_then g.R.Rule.covers c.args.ctx.now.task.now c.args.ctx.now.tables.now c.args.store.now.sheet c.args.cause (IsTakerOf c.args.store.now.sheet c.adds_of-adds.result.now) (IsUserOf c.args.ctx.now.task.now c.args.store.now.sheet Needed c.adds_of-adds.result.now) (WokenBy c.args.ctx.now.task.now c.args.store.now.sheet (Raise (Out c.args.o) Never)) _ _ _
    (raised_action c.args.ctx.now.task.now c.args.store.now.sheet c.requires.can.lent.formed c.args.o c.adds_of-adds.result.now c.adds_of-adds.ensures) c.ask_takers_of.ensures c.ask_users_of.ensures
