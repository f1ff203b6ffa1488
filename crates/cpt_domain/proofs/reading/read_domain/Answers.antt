use Rattle.cpt_pddl.specs.Items.{left}
use Rattle.cpt_domain.proofs.DomainSoundness.{read_is_sound}
use Rattle.cpt_domain.proofs.reading.read_domain.Goals as goal

pub returns-in-Ok-clause-sound : goal.returns-in-Ok-clause-sound
returns-in-Ok-clause-sound c = read_is_sound (left c.new.result) c.in-Ok.domain c.in-Ok.ensures
