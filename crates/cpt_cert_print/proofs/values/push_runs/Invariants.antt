use Rattle.std.proofs.Common.{◌≡◌, ◌+◌, ◌*◌, ◌≤◌, ◌++◌, length, map, drop}
use Rattle.cpt_cert_form.specs.Forms.{run_word}
use Rattle.cpt_cert_form.specs.Text.{runs_of}
use Rattle.cpt_cert_print.specs.Items.{spaced, row_values, merged}
use Rattle.cpt_cert_print.proofs.values.push_runs.Given as goal

abbrev pub invariant-loop-i : goal.invariant-loop-i
invariant-loop-i l = record {
  text : l.line.bytes ++ spaced (map run_word (merged l.run (runs_of (drop l.i (row_values l.row))))) ≡ l.fn.line.bytes ++ spaced (map run_word (runs_of (row_values l.row)));
  room : length l.line.bytes + 21 * l.run.count ≤ 8 + 21 * l.i;
  some : 1 ≤ l.run.count;
}
