use Rattle.cpt_agenda.specs.Asked.{AreAsked, ForFront, IsTaker}
use Rattle.cpt_agenda.proofs.asked.ask_takers_of.Given as goal

abbrev pub invariant-loop-p : goal.invariant-loop-p
invariant-loop-p g l = AreAsked g.R.Rule.covers l.ctx.task.now l.ctx.tables.now l.store.sheet l.cause (ForFront (IsTaker l.store.sheet) l.atoms l.p-index) l.initial.agenda l.agenda
