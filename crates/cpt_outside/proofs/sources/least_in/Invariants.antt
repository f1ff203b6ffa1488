use Rattle.cpt_proposal.specs.Least.{IsLeast}
use Rattle.cpt_outside.specs.NoStep.{source_arrival}
use Rattle.cpt_outside.proofs.sources.least_in.Given as goal

abbrev pub invariant-loop-c : goal.invariant-loop-c
invariant-loop-c l = IsLeast 2000000000000000 (source_arrival l.ctx.task.now l.ctx.tables.now l.store.sheet l.a) l.list l.c-index l.least
