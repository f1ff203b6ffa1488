use Rattle.std.proofs.Common.{rules}
use Rattle.cpt_calculus_tests.proofs.EditLemmas.{edited_formed}
use Rattle.cpt_calculus_tests.proofs.edits.change_sheet.Goals as goal

pub returns-in-Ok : goal.returns-in-Ok
returns-in-Ok c =
    edited_formed c.args.task.now c.args.sheet.now c.narrow.new.sheet c.args.change c.step_of.result c.step_of.ensures c.in-Ok.ensures.ok (search rules)
