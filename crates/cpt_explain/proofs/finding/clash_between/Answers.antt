use Rattle.cpt_task.proofs.Tests.{and_then}
use Rattle.cpt_explain.proofs.finding.clash_between.Goals as goal

pub returns-then-overlap : goal.returns-then-overlap
returns-then-overlap c =
    and_then c.interfere.result c.if-overlap.ensures (rw (c.action_at.ensures.action, c.action_at-then-overlap.ensures.action) at c.interfere.ensures)
