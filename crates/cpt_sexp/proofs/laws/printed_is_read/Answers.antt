use Rattle.cpt_sexp.proofs.PrintingLemmas.{printed_spelled}
use Rattle.cpt_sexp.proofs.laws.printed_is_read.Goals as goal

pub returns : goal.returns
returns c = printed_spelled
