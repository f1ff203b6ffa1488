use Rattle.std.proofs.Common.{◌++◌, map, arith}
use Rattle.cpt_cert_form.specs.Forms.{run_word}
use Rattle.cpt_cert_form.specs.Text.{runs_of}
use Rattle.cpt_cert_print.specs.Items.{spaced, row_values}
use Rattle.cpt_cert_print.proofs.Runs.{keep_runs}
use Rattle.cpt_cert_print.proofs.values.push_runs.Goals as goal

pub loop-i-preserved : goal.loop-i-preserved
loop-i-preserved c = record {
  text = keep_runs c.loop-i.line.bytes c.push_value-run.new.line.bytes (c.args.line.now.bytes ++ spaced (map run_word (runs_of (row_values c.args.row))))
      (row_values c.args.row) c.loop-i.i c.loop-i.run c.push_value-run.result c.row_value-in-loop-i.result c.row_value-in-loop-i.ensures
      c.push_value-run.ensures.text c.loop-i.invariant.text;
  room = omega (arith, c.push_value-run.ensures.room, c.loop-i.invariant.room);
  some = c.push_value-run.ensures.some;
}
