use Rattle.cpt_h2.specs.Board.{LowersRow}
use Rattle.cpt_h2.proofs.board.Board.lower_row.Given as goal

abbrev pub invariant-loop-q : goal.invariant-loop-q
invariant-loop-q l = LowersRow l.p l.qs l.value l.initial.self l.self l.q-index
