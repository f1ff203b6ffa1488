use Rattle.std.proofs.Common.{◌≡◌}
use Rattle.cpt_sheet.specs.Live.{IsLive}
use Rattle.cpt_store.specs.Stores.{IsSpent, KeepsMarks}
use Rattle.cpt_engine.specs.Running.{HasLed, IsRunning, work}
use Rattle.cpt_engine.proofs.running.run.Given as goal

abbrev pub invariant-loop-subject : goal.invariant-loop-subject
invariant-loop-subject g l = record {
  task : l.store.task ≡ l.ctx.task.now;
  running : IsRunning g.R.Rule.covers l.ctx.task.now l.ctx.tables.now l.store.sheet l.agenda l.agenda.waiting;
  live : IsLive l.store.sheet;
  spent : IsSpent l.store;
  led : HasLed g.R.Rule.covers l.ctx.task.now l.ctx.tables.now l.initial.store.sheet l.store.sheet l.initial.steps.items l.steps.items;
  marks : KeepsMarks l.initial.store.marks l.store.marks;
}

abbrev pub decreases-loop-subject : goal.decreases-loop-subject
decreases-loop-subject g l = work l.store.sheet l.agenda.room l.agenda.waiting
