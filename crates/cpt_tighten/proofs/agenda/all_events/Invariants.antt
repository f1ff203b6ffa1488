use Rattle.cpt_tighten.specs.Agenda.{HasEvents}
use Rattle.cpt_tighten.proofs.agenda.all_events.Given as goal

abbrev pub invariant-loop-place : goal.invariant-loop-place
invariant-loop-place l = HasEvents l.task l.plan l.place l.events.items
