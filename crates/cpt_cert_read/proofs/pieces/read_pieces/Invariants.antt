use Rattle.std.proofs.Common.{take}
use Rattle.std.specs.List.{flat_map}
use Rattle.cpt_cert_read.specs.Texts.{AreFinished}
use Rattle.cpt_cert_read.proofs.pieces.read_pieces.Given as goal

abbrev pub invariant-loop-piece : goal.invariant-loop-piece
invariant-loop-piece l = AreFinished (flat_map (λ piece. piece.items) (take l.piece-index l.pieces)) l.read.items l.lines
