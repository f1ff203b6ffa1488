use Rattle.cpt_cert_accept.proofs.BringBytes as lemmas
use Rattle.cpt_cert_accept.proofs.laws.brings_take_bytes.Goals as goal

pub returns : goal.returns
returns c = lemmas.text_bytes
