use Rattle.cpt_instance.proofs.Once.{answer_is_read}
use Rattle.cpt_instance.proofs.instance.instance_of.Goals as goal

pub returns-clause-read : goal.returns-clause-read
returns-clause-read c =
    answer_is_read c.args.domain.now c.args.problem.now c.args.name.now c.instance_named.result c.requires.sound c.requires.fits c.instance_named.ensures
