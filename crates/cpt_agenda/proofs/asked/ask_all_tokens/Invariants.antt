use Rattle.cpt_agenda.specs.Asked.{AreAsked, IsTokenBelow}
use Rattle.cpt_agenda.proofs.asked.ask_all_tokens.Given as goal

abbrev pub invariant-loop-x : goal.invariant-loop-x
invariant-loop-x g l = AreAsked g.R.Rule.covers l.ctx.task.now l.ctx.tables.now l.store.sheet l.cause (IsTokenBelow l.x) l.initial.agenda l.agenda
