use Rattle.std.proofs.Common.{◌≡◌}
use Rattle.cpt_tables.specs.Shapes.{PairShape}
use Rattle.cpt_h2.specs.Board.{Drops}
use Rattle.cpt_h2.specs.Rules.{IsUpTo}
use Rattle.cpt_h2.specs.Rules.Rule.{beside}
use Rattle.cpt_h2.specs.Rows.{IsRead, IsFrom}
use Rattle.cpt_h2.specs.Rounds.{MeetsEach, Settles}
use Rattle.cpt_h2.proofs.rules.apply_atoms.Given as goal

abbrev pub invariant-loop-q : goal.invariant-loop-q
invariant-loop-q l = record {
  read : IsRead l.board l.action l.own l.reach l.tops;
  drops : Drops (MeetsEach (IsUpTo (λ q r. r ≡ beside l.action q) l.q)) l.initial.board l.board;
  settled : (h : PairShape) → IsFrom h l.initial.board.pairs l.action l.own l.reach → Settles (IsUpTo (λ q r. r ≡ beside l.action q) l.q) l.looked h l.board;
}
