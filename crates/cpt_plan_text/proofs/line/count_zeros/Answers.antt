use Rattle.cpt_plan_text.proofs.LineLemmas.{zero_more}
use Rattle.cpt_plan_text.proofs.line.count_zeros.Goals as goal

pub loop-i-preserved : goal.loop-i-preserved
loop-i-preserved c = zero_more c.args.bytes.now c.loop-i.i c.loop-i-test.true c.if-b-ne48.false c.loop-i.invariant
