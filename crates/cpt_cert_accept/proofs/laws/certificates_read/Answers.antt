use Rattle.cpt_cert_accept.proofs.OneText as lemmas
use Rattle.cpt_cert_accept.proofs.laws.certificates_read.Goals as goal

pub returns : goal.returns
returns c = lemmas.certificate_read
