use Rattle.cpt_explain.proofs.Only as lemmas
use Rattle.cpt_explain.proofs.laws.one_fault_list.Goals as goal

pub returns : goal.returns
returns c = lemmas.one_fault_list
