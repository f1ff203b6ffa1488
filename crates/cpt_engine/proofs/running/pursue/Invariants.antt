use Rattle.std.proofs.Common.{◌≡◌, ◌≤◌, ◌∷◌}
use Rattle.cpt_sheet.specs.Live.{IsLive}
use Rattle.cpt_steps.specs.Room.{room}
use Rattle.cpt_store.specs.Stores.{IsSpent, KeepsMarks}
use Rattle.cpt_engine.specs.Running.{HasLed, IsRunning, work}
use Rattle.cpt_engine.proofs.running.pursue.Given as goal

abbrev pub invariant-loop-step : goal.invariant-loop-step
invariant-loop-step g l = record {
  task : l.store.task ≡ l.ctx.task.now;
  running : IsRunning g.R.Rule.covers l.ctx.task.now l.ctx.tables.now l.store.sheet l.agenda (l.subject ∷ l.agenda.waiting);
  live : IsLive l.store.sheet;
  spent : IsSpent l.store;
  led : HasLed g.R.Rule.covers l.ctx.task.now l.ctx.tables.now l.initial.store.sheet l.store.sheet l.initial.steps.items l.steps.items;
  marks : KeepsMarks l.initial.store.marks l.store.marks;
  less : work l.store.sheet l.agenda.room (l.subject ∷ l.agenda.waiting) ≤ work l.initial.store.sheet l.initial.agenda.room (l.subject ∷ l.initial.agenda.waiting);
}

abbrev pub decreases-loop-step : goal.decreases-loop-step
decreases-loop-step g l = room l.store.sheet
