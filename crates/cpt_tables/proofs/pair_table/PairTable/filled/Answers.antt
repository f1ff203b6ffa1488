use Rattle.std.proofs.Common.{arith}
use Rattle.std.proofs.lemmas.Grind.{common_steps}
use Rattle.cpt_tables.proofs.PlaceLemmas.{filled_pairs}
use Rattle.cpt_tables.proofs.pair_table.PairTable.filled.Goals as goal

pub returns-clause-filled : goal.returns-clause-filled
returns-clause-filled c = filled_pairs c.args.n c.args.value c.resize.new.self.items (grind (arith, common_steps, c.in_ok-resize.ensures.items))
