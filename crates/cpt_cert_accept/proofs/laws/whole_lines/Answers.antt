use Rattle.cpt_cert_accept.proofs.Back as lemmas
use Rattle.cpt_cert_accept.proofs.laws.whole_lines.Goals as goal

pub returns : goal.returns
returns c = lemmas.whole_lines
