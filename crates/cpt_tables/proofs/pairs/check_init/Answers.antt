use Rattle.std.proofs.Common.{◌<◌}
use Rattle.std.proofs.lemmas.List.Elements.{All-same}
use Rattle.cpt_tables.proofs.TaskLemmas.{init_below}
use Rattle.cpt_tables.proofs.pairs.check_init.Goals as goal

pub check_product-requires-clause-first : goal.check_product-requires-clause-first
check_product-requires-clause-first c = All-same (λ p. p < c.args.pairs.now.atoms) c.init.result.now c.args.task.now.init c.init.ensures.value (init_below c.args.task.now c.args.pairs.now c.requires.bounds c.requires.fits)

pub check_product-requires-clause-second : goal.check_product-requires-clause-second
check_product-requires-clause-second c = All-same (λ p. p < c.args.pairs.now.atoms) c.init-2.result.now c.args.task.now.init c.init-2.ensures.value (init_below c.args.task.now c.args.pairs.now c.requires.bounds c.requires.fits)
