use Rattle.std.proofs.Common.{rules}
use Rattle.cpt_solving_tests.proofs.closing.take_step.Goals as goal

pub returns-in-Ok : goal.returns-in-Ok
returns-in-Ok c = c.in-Ok.ensures.formed c.args.task.now c.args.tables.now c.requires.formed (search rules)
