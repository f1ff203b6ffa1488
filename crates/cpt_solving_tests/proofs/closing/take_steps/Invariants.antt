use Rattle.cpt_sheet.specs.Formed.{IsFormed}
use Rattle.cpt_solving_tests.proofs.closing.take_steps.Given as goal

abbrev pub invariant-loop-step : goal.invariant-loop-step
invariant-loop-step l = IsFormed l.task l.sheet
