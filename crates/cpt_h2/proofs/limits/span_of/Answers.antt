use Rattle.cpt_h2.proofs.LimitLemmas.{across_small}
use Rattle.cpt_h2.proofs.limits.span_of.Goals as goal

pub returns-clause-small : goal.returns-clause-small
returns-clause-small c = rw (c.set_span.ensures, c.pairs.ensures) (across_small c.args.board.now c.args.atoms.now c.args.atoms.now c.requires.good c.requires.atoms c.requires.atoms)
