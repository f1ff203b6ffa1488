use Rattle.cpt_agenda.specs.Asked.{AreAsked, IsFront}
use Rattle.cpt_agenda.proofs.asked.ask_each.Given as goal

abbrev pub invariant-loop-c : goal.invariant-loop-c
invariant-loop-c g l = AreAsked g.R.Rule.covers l.ctx.task.now l.ctx.tables.now l.store.sheet l.cause (IsFront l.list l.c-index) l.initial.agenda l.agenda
