use Rattle.cpt_sheet.specs.Formed.{IsFormed}
use Rattle.cpt_calculus_tests.proofs.sheets.take_turns.Given as goal

abbrev pub invariant-loop-turn : goal.invariant-loop-turn
invariant-loop-turn l = IsFormed l.task l.sheet
