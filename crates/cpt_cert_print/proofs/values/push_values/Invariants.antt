use Rattle.std.proofs.Common.{◌≡◌, ◌+◌, ◌*◌, ◌≤◌, ◌++◌, length, map, take}
use Rattle.cpt_cert_form.specs.Forms.{run_word}
use Rattle.cpt_cert_form.specs.Text.{once}
use Rattle.cpt_cert_print.specs.Items.{spaced, row_values}
use Rattle.cpt_cert_print.proofs.values.push_values.Given as goal

abbrev pub invariant-loop-i : goal.invariant-loop-i
invariant-loop-i l =
    (l.line.bytes ≡ l.fn.line.bytes ++ spaced (map run_word (map once (take l.i (row_values l.row))))) × (length l.line.bytes ≤ 8 + 21 * l.i)
