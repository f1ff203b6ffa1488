use Rattle.cpt_cert_accept.proofs.OneText as lemmas
use Rattle.cpt_cert_accept.proofs.laws.no_fault.Goals as goal

pub returns : goal.returns
returns c = lemmas.no_fault
