use Rattle.cpt_cert_print.proofs.RowLemmas.{pair_within}
use Rattle.cpt_cert_print.proofs.items.pair_row_value.Goals as goal

pub value_from-requires : goal.value_from-requires
value_from-requires c = pair_within _ c.args.p _ c.requires
