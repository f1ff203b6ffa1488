use Rattle.cpt_dist.proofs.RowLemmas.{most_fits, limit_next}
use Rattle.cpt_dist.proofs.row.limit_of.Goals as goal

pub add_spans-requires-clause-first : goal.add_spans-requires-clause-first
add_spans-requires-clause-first c = rw (c.farthest-begin.ensures, c.as_slice.ensures.items) (most_fits c.args.row.now c.args.action.now.pre c.requires.few c.requires.atoms.pre c.requires.small)

pub returns-clause-next : goal.returns-clause-next
returns-clause-next c = rw (c.add_spans.ensures, c.farthest-begin.ensures, c.as_slice.ensures.items) (limit_next c.args.row.now c.args.action.now c.requires.atoms c.requires.duration c.requires.small)
