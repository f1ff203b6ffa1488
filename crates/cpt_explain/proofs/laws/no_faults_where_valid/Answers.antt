use Rattle.cpt_explain.proofs.Validity as lemmas
use Rattle.cpt_explain.proofs.laws.no_faults_where_valid.Goals as goal

pub returns : goal.returns
returns c = lemmas.no_faults_where_valid
