use Rattle.cpt_sexp.proofs.OneReading.{one_reading}
use Rattle.cpt_sexp.proofs.laws.one_reading.Goals as goal

pub returns : goal.returns
returns c = one_reading
