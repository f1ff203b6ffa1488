use Rattle.std.proofs.Common.{◌≡◌, suc}
use Rattle.cpt_tables.specs.Shapes.{PairShape}
use Rattle.cpt_tables.specs.Weights.{value_at}
use Rattle.cpt_h2.specs.Board.{Drops}
use Rattle.cpt_h2.specs.Rules.{IsUpTo, action_of}
use Rattle.cpt_h2.specs.Rules.Rule.{two}
use Rattle.cpt_h2.specs.Rows.{IsRead, IsFrom, AreSpansOver, AreSpansUnder}
use Rattle.cpt_h2.specs.Rounds.{MeetsEach, Settles}
use Rattle.cpt_h2.proofs.rules.apply_actions.Given as goal

abbrev pub invariant-loop-j : goal.invariant-loop-j
invariant-loop-j l = record {
  read : IsRead l.board (action_of l.actions l.k) (value_at l.spans l.k) l.reach l.tops;
  over : AreSpansOver l.board l.actions l.spans (suc l.k);
  drops : Drops (MeetsEach (IsUpTo (λ j r. r ≡ two (action_of l.actions l.k) (action_of l.actions j)) l.j)) l.initial.board l.board;
  settled : (h : PairShape) → IsFrom h l.initial.board.pairs (action_of l.actions l.k) (value_at l.spans l.k) l.reach → AreSpansUnder h l.actions l.spans (suc l.k)
      → Settles (IsUpTo (λ j r. r ≡ two (action_of l.actions l.k) (action_of l.actions j)) l.j) l.looked h l.board;
}
