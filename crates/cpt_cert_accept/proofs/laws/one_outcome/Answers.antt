use Rattle.cpt_cert_accept.proofs.OneOutcome as lemmas
use Rattle.cpt_cert_accept.proofs.laws.one_outcome.Goals as goal

pub returns : goal.returns
returns c = lemmas.one_outcome
