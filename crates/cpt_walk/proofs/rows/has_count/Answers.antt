use Rattle.std.proofs.Common.{◌∙◌, sym}
use Rattle.cpt_walk.proofs.Putting.{count_less, count_more, count_end}
use Rattle.cpt_walk.proofs.rows.has_count.Goals as goal

pub returns-then-run-left : goal.returns-then-run-left
returns-then-run-left c = sym (count_less c.args.runs.now c.loop-run.run-index _ c.loop-run.left c.loop-run-test.true c.if-run-left.true) ∙ c.loop-run.invariant

pub loop-run-preserved : goal.loop-run-preserved
loop-run-preserved c = count_more c.args.runs.now c.loop-run.run-index _ c.loop-run.left c.loop-run-test.true c.if-run-left.false ∙ c.loop-run.invariant

pub returns : goal.returns
returns c = sym (count_end c.args.runs.now c.loop-run.run-index c.loop-run.left c.loop-run-test.false) ∙ c.loop-run.invariant
