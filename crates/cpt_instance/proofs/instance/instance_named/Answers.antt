use Rattle.cpt_instance.proofs.Answering.{not_inside, named_inside}
use Rattle.cpt_instance.proofs.instance.instance_named.Goals as goal

pub returns-in-None : goal.returns-in-None
returns-in-None c = not_inside c.args.domain.now c.args.problem.now c.args.name.now c.in-None.ensures

pub returns-in-Some : goal.returns-in-Some
returns-in-Some c =
    named_inside c.args.domain.now c.args.problem.now c.args.name.now c.in-Some.text.now c.instance_inside.result c.in-Some.ensures c.instance_inside.ensures
