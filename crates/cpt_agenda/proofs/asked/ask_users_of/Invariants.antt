use Rattle.cpt_agenda.specs.Asked.{AreAsked, ForFront, IsUser}
use Rattle.cpt_agenda.proofs.asked.ask_users_of.Given as goal

abbrev pub invariant-loop-p : goal.invariant-loop-p
invariant-loop-p g l = AreAsked g.R.Rule.covers l.ctx.task.now l.ctx.tables.now l.store.sheet l.cause (ForFront (IsUser l.ctx.task.now l.store.sheet l.how) l.atoms l.p-index) l.initial.agenda l.agenda
