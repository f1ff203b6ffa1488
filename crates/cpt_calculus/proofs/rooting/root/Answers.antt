use Rattle.cpt_calculus.proofs.RootFormed.{root_ok}
use Rattle.cpt_calculus.proofs.rooting.root.Goals as goal

pub returns-clause-formed : goal.returns-clause-formed
returns-clause-formed c = root_ok c.args.task.now c.args.tables.now c.args.bound c.root_sheet.result c.root_sheet.ensures.sheet c.root_sheet.ensures.bounds c.requires.tables c.requires.bound
