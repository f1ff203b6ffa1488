use Rattle.std.proofs.Common.{arith}
use Rattle.cpt_cert_print.proofs.Runs.{values_more}
use Rattle.cpt_cert_print.proofs.values.push_values.Goals as goal

pub loop-i-preserved : goal.loop-i-preserved
loop-i-preserved c =
    (values_more _ _ _ _ _ _ c.row_value.ensures c.loop-i.invariant.0 c.push_span.ensures.text, omega (arith, c.push_span.ensures.short, c.loop-i.invariant.1))
