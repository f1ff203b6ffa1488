use Rattle.std.proofs.Common.{◌+◌, ◌*◌}
use Rattle.cpt_tables.specs.Weights.{reached}
use Rattle.cpt_tables.proofs.SpanLemmas.{below_max}
use Rattle.cpt_h2.proofs.limits.least_beside.Goals as goal

pub after-requires-clause-small : goal.after-requires-clause-small
after-requires-clause-small c = rw c.greater_span.ensures (below_max (100000 * reached c.args.board.now.pairs.values + 1) c.args.own c.args.near c.requires.own c.requires.near)
