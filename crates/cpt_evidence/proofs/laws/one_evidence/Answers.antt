use Rattle.cpt_evidence.proofs.SameTexts as lemmas
use Rattle.cpt_evidence.proofs.laws.one_evidence.Goals as goal

pub returns : goal.returns
returns c = lemmas.one_evidence
