use Rattle.cpt_support.specs.NoStep.{IsPassedTo}
use Rattle.cpt_support.proofs.support.pass.Given as goal

abbrev pub invariant-loop-c : goal.invariant-loop-c
invariant-loop-c l = IsPassedTo l.ctx.task.now l.ctx.tables.now l.store.sheet l.x l.p l.list l.c-index l.least
