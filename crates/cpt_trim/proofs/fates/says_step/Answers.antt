use Rattle.cpt_trim.proofs.StepLines.{says}
use Rattle.cpt_trim.proofs.fates.says_step.Goals as goal

pub returns : goal.returns
returns c = says c.args.body.now c.in_ok-line.line c.is_step.result c.in_ok-line.ensures c.is_step.ensures
