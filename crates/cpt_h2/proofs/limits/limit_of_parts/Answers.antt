use Rattle.std.proofs.Common.{◌+◌, ◌*◌}
use Rattle.cpt_tables.specs.Spans.{span_max}
use Rattle.cpt_tables.specs.Weights.{reached}
use Rattle.cpt_tables.proofs.SpanLemmas.{below_max}
use Rattle.cpt_h2.proofs.limits.limit_of_parts.Goals as goal

pub after-both-requires-clause-small : goal.after-both-requires-clause-small
after-both-requires-clause-small c =
    rw (c.greater_span-begin.ensures, c.greater_span.ensures)
    (below_max (100000 * reached c.args.board.now.pairs.values + 1) c.args.own (span_max c.args.other c.args.across) c.requires.own
    (below_max (100000 * reached c.args.board.now.pairs.values + 1) c.args.other c.args.across c.requires.other c.requires.across))
