use Rattle.std.proofs.Common.{sym, ◌∙◌, inl, inr}
use Rattle.cpt_agenda.proofs.AskedLemmas.{keeps_refl, mark_there}
use Rattle.cpt_agenda.proofs.asked.ask.Goals as goal

pub returns-then-waits : goal.returns-then-waits
returns-then-waits g c = record { keeps = keeps_refl c.args.agenda.now; within = λ h. h; only = λ d h. inr h; asked = inl (sym c.waits.ensures ∙ c.if-waits.true) }

pub put-requires : goal.put-requires
put-requires g c = mark_there c.args.ctx.now.task.now c.args.ctx.now.tables.now c.args.store.now c.args.agenda.now c.args.c c.requires.can c.requires.there

pub returns-else-is_called : goal.returns-else-is_called
returns-else-is_called g c = record { keeps = keeps_refl c.args.agenda.now; within = λ h. h; only = λ d h. inr h; asked = inr (c.is_called.ensures c.if-is_called.false) }

pub returns-then-is_called : goal.returns-then-is_called
returns-then-is_called g c = record { keeps = c.put.ensures.put.keeps; within = λ h. c.put.ensures.within; only = c.put.ensures.put.only; asked = inl c.put.ensures.put.here }
