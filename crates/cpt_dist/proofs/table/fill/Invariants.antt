use Rattle.std.proofs.Common.{◌≡◌, length}
use Rattle.cpt_dist.specs.Rows.{HasRows}
use Rattle.cpt_dist.proofs.table.fill.Given as goal

abbrev pub invariant-loop-a : goal.invariant-loop-a
invariant-loop-a l = record {
  actions : l.dists.actions ≡ length l.task.actions;
  atoms : l.dists.atoms ≡ length l.task.atoms;
  rows : HasRows l.task l.pairs l.dists l.a;
}
