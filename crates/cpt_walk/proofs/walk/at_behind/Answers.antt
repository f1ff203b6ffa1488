use Rattle.cpt_walk.proofs.Turning.{stray_turn}
use Rattle.cpt_walk.proofs.walk.at_behind.Goals as goal

pub returns-in_default : goal.returns-in_default
returns-in_default c = stray_turn c.args.task.now c.args.tables.now c.args.past c.args.line.now c.requires.frames c.requires.some c.in_default.not-Child
