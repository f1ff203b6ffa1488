use Rattle.std.proofs.Common.{◌≡◌, ◌+◌, ◌≤◌, drop}
use Rattle.cpt_sexp.specs.Progress.{empties}
use Rattle.cpt_sexp.specs.Bytes.{plain_from, plain}
use Rattle.cpt_sexp.proofs.bytes.runs_out.Given as goal

abbrev pub invariant-loop-b : goal.invariant-loop-b
invariant-loop-b l = record {
  few : l.depth ≤ l.groups + l.b-index;
  same : empties l.depth (plain_from l.commented (drop l.b-index l.bytes)) ≡ empties l.groups (plain l.bytes);
}
