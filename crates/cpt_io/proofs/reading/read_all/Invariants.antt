use Rattle.std.proofs.Common.{◌≡◌, ◌-◌, ◌≤◌, IsTrue, length, vec_len}
use Rattle.cpt_io.proofs.Progress.{Remains}
use Rattle.cpt_io.proofs.reading.read_all.Given as goal

abbrev pub invariant-loop-bytes : goal.invariant-loop-bytes
invariant-loop-bytes g l = record {
  same : g.L.Library.holds l.lib ≡ g.L.Library.holds l.fn.lib;
  faults : g.L.Library.faults l.lib ≡ g.L.Library.faults l.fn.lib;
  steady : IsTrue (g.L.Library.steady l.fn.lib) → IsTrue (g.L.Library.steady l.lib);
  room : length l.piece ≡ 4096;
  within : length l.bytes.items ≤ l.most;
  remains : Remains (g.L.Library.holds l.fn.lib) l.name l.bytes.items (g.L.Library.left l.lib);
}

abbrev pub decreases-loop-bytes : goal.decreases-loop-bytes
decreases-loop-bytes g l = l.most - vec_len l.bytes
