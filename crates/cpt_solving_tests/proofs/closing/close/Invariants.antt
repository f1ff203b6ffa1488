use Rattle.cpt_sheet.specs.Formed.{IsFormed}
use Rattle.cpt_solving_tests.proofs.closing.close.Given as goal

abbrev pub invariant-rounds : goal.invariant-rounds
invariant-rounds l = IsFormed l.task l.sheet
