use Rattle.cpt_evidence.proofs.EvidenceLemmas as lemmas
use Rattle.cpt_evidence.proofs.laws.evidence_is_whole.Goals as goal

pub returns : goal.returns
returns c = lemmas.evidence_is_whole
