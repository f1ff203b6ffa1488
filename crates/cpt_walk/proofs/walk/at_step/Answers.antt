use Rattle.cpt_walk.proofs.Turning.{legal_turn, illegal_turn}
use Rattle.cpt_walk.proofs.walk.at_step.Goals as goal

pub returns-in-Some : goal.returns-in-Some
returns-in-Some c =
    let k = rw c.in-Some.is at c.in_ok-narrowed.ensures in
    legal_turn c.args.task.now c.args.tables.now c.args.past c.args.sheet c.in-Some.narrowed c.args.step.now c.requires.frames k.0 k.1 k.2

pub returns-in-None : goal.returns-in-None
returns-in-None c =
    let k = rw c.in-None.is at c.in_ok-narrowed.ensures in
    illegal_turn c.args.task.now c.args.tables.now c.args.past c.args.sheet c.args.step.now k
