use Rattle.cpt_tables.proofs.LimitLemmas.{admissible_from_none, fault_from_some, found_below}
use Rattle.cpt_tables.proofs.PairBounds.{pairs_bound}
use Rattle.cpt_tables.proofs.pairs.admissible_pairs.Goals as goal

pub returns-in-None-clause-answer : goal.returns-in-None-clause-answer
returns-in-None-clause-answer c = admissible_from_none c.args.task.now c.args.pairs.now c.requires.fits c.in-None.ensures.found

pub returns-in-None-clause-bounds : goal.returns-in-None-clause-bounds
returns-in-None-clause-bounds c =
    pairs_bound c.args.task.now c.args.pairs.now c.in-None.ensures.bounds (admissible_from_none c.args.task.now c.args.pairs.now c.requires.fits c.in-None.ensures.found)

pub least_limit-requires-clause-first : goal.least_limit-requires-clause-first
least_limit-requires-clause-first c = (found_below c.args.task.now c.args.pairs.now c.in-Some.field-0 c.in-Some.ensures.bounds c.requires.fits c.in-Some.ensures.found).0

pub least_limit-requires-clause-second : goal.least_limit-requires-clause-second
least_limit-requires-clause-second c = (found_below c.args.task.now c.args.pairs.now c.in-Some.field-0 c.in-Some.ensures.bounds c.requires.fits c.in-Some.ensures.found).1

pub returns-in-Some-clause-answer : goal.returns-in-Some-clause-answer
returns-in-Some-clause-answer c = fault_from_some c.args.task.now c.args.pairs.now c.in-Some.field-0 c.least_limit.result c.in-Some.ensures.bounds c.requires.fits c.in-Some.ensures.found c.least_limit.ensures
