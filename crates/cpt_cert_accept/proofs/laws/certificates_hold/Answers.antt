use Rattle.cpt_cert_accept.proofs.Truth as lemmas
use Rattle.cpt_cert_accept.proofs.laws.certificates_hold.Goals as goal

pub returns : goal.returns
returns c = lemmas.certificates_hold
