use Rattle.std.proofs.Common.{ℕ, ◌-◌, ◌≤◌, List, ◌++◌, length, take}
use Rattle.cpt_cert_read.specs.Texts.{AreFinished}
use Rattle.cpt_cert_read.proofs.pieces.read_piece.Given as goal

abbrev pub invariant-loop-taken : goal.invariant-loop-taken
invariant-loop-taken l = record {
  within : l.at ≤ length l.piece;
  finished : (text : List ℕ) → AreFinished text l.fn.read.items l.fn.lines → AreFinished (text ++ take l.at l.piece) l.read.items l.lines;
}

abbrev pub decreases-loop-taken : goal.decreases-loop-taken
decreases-loop-taken l = length l.piece - l.at
