use Rattle.cpt_cert_laws.proofs.Fronts as lemmas
use Rattle.cpt_cert_laws.proofs.laws.faults_stand.Goals as goal

pub returns : goal.returns
returns c = lemmas.faults_stand
