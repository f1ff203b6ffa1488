use Rattle.cpt_explain.proofs.Losing.{no_loss}
use Rattle.cpt_explain.proofs.gaps.first_loss.Goals as goal

pub loop-k-init : goal.loop-k-init
loop-k-init c = no_loss c.args.task.now c.args.plan.now c.args.from c.args.to c.args.p c.requires.ordered
