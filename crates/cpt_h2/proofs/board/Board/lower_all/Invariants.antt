use Rattle.cpt_h2.specs.Board.{LowersRows}
use Rattle.cpt_h2.proofs.board.Board.lower_all.Given as goal

abbrev pub invariant-loop-p : goal.invariant-loop-p
invariant-loop-p l = LowersRows l.ps l.qs l.value l.initial.self l.self l.p-index
