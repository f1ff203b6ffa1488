use Rattle.cpt_cert_accept.proofs.OneText as lemmas
use Rattle.cpt_cert_accept.proofs.laws.one_fault.Goals as goal

pub returns : goal.returns
returns c = lemmas.one_fault
