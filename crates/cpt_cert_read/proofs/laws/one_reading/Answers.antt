use Rattle.cpt_cert_read.proofs.Meaning.{one_meaning}
use Rattle.cpt_cert_read.proofs.laws.one_reading.Goals as goal

pub returns : goal.returns
returns c = one_meaning
