use Rattle.cpt_cert_laws.proofs.TreeForms as lemmas
use Rattle.cpt_cert_laws.proofs.laws.trees_are_short.Goals as goal

pub returns : goal.returns
returns c = lemmas.trees_are_short
