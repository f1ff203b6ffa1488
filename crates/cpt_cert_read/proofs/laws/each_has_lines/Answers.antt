use Rattle.cpt_cert_read.proofs.Splits as lemmas
use Rattle.cpt_cert_read.proofs.laws.each_has_lines.Goals as goal

pub returns : goal.returns
returns c = lemmas.each_has_lines
