use Rattle.std.proofs.Common.{refl}
use Rattle.cpt_walk.proofs.walk.take_step.Goals as goal

pub returns : goal.returns
returns c =
    let legal = c.if-not-legal.ensures.0 refl in
    (legal, c.in_ok-narrow.ensures.ok, c.in_ok-narrow.ensures.formed c.args.task.now c.args.tables.now c.requires.formed legal)
