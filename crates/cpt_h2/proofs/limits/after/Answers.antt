use Rattle.cpt_h2.proofs.LimitLemmas.{small_fits, next_sum}
use Rattle.cpt_tables.specs.Weights.{reached}
use Rattle.cpt_h2.proofs.limits.after.Goals as goal

pub add_spans-requires-clause-first : goal.add_spans-requires-clause-first
add_spans-requires-clause-first c = small_fits c.args.board.now c.args.span c.requires.good c.requires.small

pub returns-clause-next : goal.returns-clause-next
returns-clause-next c = rw c.add_spans.ensures (next_sum c.args.span (reached c.args.board.now.pairs.values) c.args.dur c.requires.small c.requires.duration)
