use Rattle.cpt_cert_print.proofs.RowLemmas.{dist_within}
use Rattle.cpt_cert_print.proofs.items.dist_row_value.Goals as goal

pub get-requires-clause-atom : goal.get-requires-clause-atom
get-requires-clause-atom c = dist_within c.args.dists.now c.args.act _ c.requires.within
