use Rattle.cpt_sheet.specs.Formed.{IsFormed}
use Rattle.cpt_calculus_tests.proofs.edits.edit_all.Given as goal

abbrev pub invariant-loop-edit : goal.invariant-loop-edit
invariant-loop-edit l = IsFormed l.task l.sheet
