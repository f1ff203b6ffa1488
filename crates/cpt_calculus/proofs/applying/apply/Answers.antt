use Rattle.cpt_calculus.proofs.ApplyFormed.{apply_ok}
use Rattle.cpt_calculus.proofs.applying.apply.Goals as goal

pub returns-clause-formed : goal.returns-clause-formed
returns-clause-formed c = apply_ok c.args.task.now c.args.sheet.now c.decide.new.sheet c.args.decision.now c.decide.result c.requires.fits c.decide.ensures.ok
