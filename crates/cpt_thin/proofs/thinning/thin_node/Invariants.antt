use Rattle.std.proofs.Common.{◌≡◌, ◌≤◌, length}
use Rattle.cpt_thin.proofs.thinning.thin_node.Given as goal

abbrev pub invariant-loop-at : goal.invariant-loop-at
invariant-loop-at l = record {
  each : length l.fates ≡ length l.lines;
  within : l.at ≤ length l.lines;
}

abbrev pub decreases-loop-at : goal.decreases-loop-at
decreases-loop-at l = l.at
