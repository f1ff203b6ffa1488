use Rattle.cpt_h2.specs.Rules.{IsUpTo, IsRuleAt}
use Rattle.cpt_h2.specs.Rows.{IsRoom, AreSpansOver, AreSpansUnder}
use Rattle.cpt_h2.specs.Rounds.{Works}
use Rattle.std.proofs.Common.{length}
use Rattle.cpt_h2.proofs.rules.apply_all.Given as goal

abbrev pub invariant-loop-k : goal.invariant-loop-k
invariant-loop-k l = record {
  works : Works (IsUpTo (IsRuleAt l.actions l.initial.board.pairs.atoms) l.k) l.looked l.initial.board l.board;
  room : IsRoom (length l.actions) l.board.pairs.atoms l.spans l.reach l.tops;
  over : AreSpansOver l.board l.actions l.spans l.k;
  under : AreSpansUnder l.initial.board.pairs l.actions l.spans l.k;
}
