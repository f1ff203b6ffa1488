use Rattle.std.proofs.Common.{◌≡◌, length}
use Rattle.cpt_thin.specs.Thinner.{IsSomeFront, AreBegun}
use Rattle.cpt_thin.proofs.thinning.thin_all.Given as goal

abbrev pub invariant-loop-place : goal.invariant-loop-place
invariant-loop-place l = record {
  each : length l.fates ≡ length l.lines;
  nodes : AreBegun l.fn.task l.nodes.items;
  front : IsSomeFront l.fn.task l.place l.front;
}
