use Rattle.cpt_sexp.proofs.OneReading.{no_fault}
use Rattle.cpt_sexp.proofs.laws.no_fault.Goals as goal

pub returns : goal.returns
returns c = no_fault
