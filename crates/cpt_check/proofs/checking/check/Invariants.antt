use Rattle.std.proofs.Common.{◌≡◌, ◌+◌, ℕ, List, IsTrue, length}
use Rattle.cpt_check.specs.Progress.{IsRead, Follows}
use Rattle.cpt_check.proofs.checking.check.Given as goal

abbrev pub invariant-loop-past : goal.invariant-loop-past
invariant-loop-past g l = record {
  same : g.L.Library.holds l.lib ≡ g.L.Library.holds l.fn.lib;
  faults : g.L.Library.faults l.lib ≡ g.L.Library.faults l.fn.lib;
  steady : IsTrue (g.L.Library.steady l.fn.lib) → IsTrue (g.L.Library.steady l.lib);
  size : length l.piece ≡ 4096;
  read : (bytes : List ℕ) × IsRead l.fn.task bytes l.past l.lines × (length bytes + l.room ≡ l.fn.most) × Follows (g.L.Library.left l.fn.lib) bytes (g.L.Library.left l.lib);
}

abbrev pub decreases-loop-past : goal.decreases-loop-past
decreases-loop-past g l = l.room
