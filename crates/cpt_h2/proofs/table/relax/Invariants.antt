use Rattle.std.proofs.Common.{◌≡◌, ◌+◌, cond, false, length}
use Rattle.cpt_tables.specs.Weights.{weight}
use Rattle.cpt_h2.specs.Rows.{IsRoom}
use Rattle.cpt_h2.specs.Rounds.{Sinks, MeetsAll, AllSettled}
use Rattle.cpt_h2.proofs.table.relax.Given as goal

abbrev pub invariant-loop-going : goal.invariant-loop-going
invariant-loop-going l = record {
  sinks : Sinks (MeetsAll l.actions l.initial.board.pairs.atoms) l.initial.board l.board;
  looked : length l.looked.atoms ≡ l.board.pairs.atoms;
  room : IsRoom (length l.actions) l.board.pairs.atoms l.spans l.reach l.tops;
  settled : AllSettled l.actions l.board;
  last : l.going ≡ false → MeetsAll l.actions l.initial.board.pairs.atoms l.board.pairs;
}

abbrev pub decreases-loop-going : goal.decreases-loop-going
decreases-loop-going l = weight l.board.pairs.values + cond l.going 1 0
