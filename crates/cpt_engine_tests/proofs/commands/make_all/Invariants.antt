use Rattle.cpt_sheet.specs.Formed.{IsFormed}
use Rattle.cpt_engine_tests.proofs.commands.make_all.Given as goal

abbrev pub invariant-loop-step : goal.invariant-loop-step
invariant-loop-step l = IsFormed l.ctx.task.now l.sheet
