use Rattle.std.proofs.Common.{◌≡◌, length}
use Rattle.cpt_thin.specs.Thinner.{AreBegun}
use Rattle.cpt_thin.proofs.thinning.thin_done.Given as goal

abbrev pub invariant-nodes : goal.invariant-nodes
invariant-nodes l = record {
  each : length l.fates ≡ length l.lines;
  nodes : AreBegun l.fn.task l.nodes.items;
}

abbrev pub decreases-nodes : goal.decreases-nodes
decreases-nodes l = length l.nodes.items
