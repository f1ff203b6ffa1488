use Rattle.cpt_agenda.specs.Asked.{AreAsked, IsActionBelow}
use Rattle.cpt_agenda.proofs.asked.ask_all_actions.Given as goal

abbrev pub invariant-loop-a : goal.invariant-loop-a
invariant-loop-a g l = AreAsked g.R.Rule.covers l.ctx.task.now l.ctx.tables.now l.store.sheet l.cause (IsActionBelow l.a) l.initial.agenda l.agenda
