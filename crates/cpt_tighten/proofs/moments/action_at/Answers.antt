use Rattle.cpt_task.specs.Timeline.{idle}
use Rattle.cpt_tighten.proofs.moments.action_at.Goals as goal

pub returns-clause-atoms : goal.returns-clause-atoms
returns-clause-atoms c = c.actions.ensures.bounds.actions c.args.o.now.act idle c.requires.0
