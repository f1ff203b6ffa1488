use Rattle.cpt_cert_laws.proofs.LineForms as lemmas
use Rattle.cpt_cert_laws.proofs.laws.whole_lines_in_form.Goals as goal

pub returns : goal.returns
returns c = lemmas.whole_lines_in_form
