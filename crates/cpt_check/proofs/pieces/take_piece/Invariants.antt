use Rattle.std.proofs.Common.{ℕ, ◌-◌, ◌≤◌, List, ◌++◌, length, take}
use Rattle.cpt_check.specs.Progress.{IsRead}
use Rattle.cpt_check.proofs.pieces.take_piece.Given as goal

abbrev pub invariant-loop-past : goal.invariant-loop-past
invariant-loop-past l = record {
  within : l.at ≤ length l.piece;
  read : (bytes : List ℕ) → IsRead l.fn.task bytes l.fn.past l.fn.lines → IsRead l.fn.task (bytes ++ take l.at l.piece) l.past l.lines;
}

abbrev pub decreases-loop-past : goal.decreases-loop-past
decreases-loop-past l = length l.piece - l.at
