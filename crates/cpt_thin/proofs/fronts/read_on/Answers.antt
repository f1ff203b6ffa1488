use Rattle.std.proofs.Common.{◌+◌, subst}
use Rattle.cpt_sections.specs.Stages.{Turns}
use Rattle.cpt_thin.proofs.FrontLines.{front_few, front_more, front_stage}
use Rattle.cpt_thin.proofs.fronts.read_on.Goals as goal

pub take_line-requires-clause-stage : goal.take_line-requires-clause-stage
take_line-requires-clause-stage c = front_stage c.args.task.now c.requires.front.0 c.args.front c.requires.front.1

pub take_line-requires-clause-few : goal.take_line-requires-clause-few
take_line-requires-clause-few c = front_few c.args.task.now c.requires.front.0 c.args.front c.requires.front.1 c.requires.few

pub returns-in-On : goal.returns-in-On
returns-in-On c = λ read h.
    let a = subst (Turns c.args.task.now c.args.front.stage (c.args.front.count + 1) c.args.line.now) c.in-On.is c.in_ok-stage.ensures in
    front_more c.args.task.now read c.args.front c.args.line.now c.in-On.stage h a
