use Rattle.std.proofs.Common.{◌≡◌, ◌≤◌, length, All, subst, sym}
use Rattle.cpt_h2.specs.Rules.{IsUpTo, IsRuleAt}
use Rattle.cpt_h2.specs.Rounds.{MeetsEach, Settles, Works}
use Rattle.cpt_h2.specs.Board.{IsWithin, Drops}
use Rattle.std.proofs.Common.{arith}
use Rattle.cpt_h2.proofs.RuleLemmas.{drops_none, settles_none, drops_more, settles_more}
use Rattle.cpt_h2.proofs.rules.apply_all.Goals as goal

pub loop-k-init : goal.loop-k-init
loop-k-init c = record {
  works = record {
    drops = drops_none (IsRuleAt c.args.actions.now c.args.board.now.pairs.atoms) c.args.board.now c.requires.good;
    settled = settles_none (IsRuleAt c.args.actions.now c.args.board.now.pairs.atoms) c.args.looked.now c.args.board.now.pairs c.args.board.now;
  };
  room = c.requires.room;
  over = λ j lt. absurd (omega arith);
  under = λ j lt. absurd (omega arith);
}

pub loop-k-preserved : goal.loop-k-preserved
loop-k-preserved c =
    let drops : Drops (MeetsEach (IsRuleAt c.args.actions.now c.args.board.now.pairs.atoms c.loop-k.k)) c.loop-k.board c.apply_action.new.board =
    subst (λ n. Drops (MeetsEach (IsRuleAt c.args.actions.now n c.loop-k.k)) c.loop-k.board c.apply_action.new.board) c.loop-k.invariant.works.drops.size c.apply_action.ensures.drops in
    let settled : Settles (IsRuleAt c.args.actions.now c.args.board.now.pairs.atoms c.loop-k.k) c.args.looked.now c.args.board.now.pairs c.apply_action.new.board =
    subst (λ n. Settles (IsRuleAt c.args.actions.now n c.loop-k.k) c.args.looked.now c.args.board.now.pairs c.apply_action.new.board) c.loop-k.invariant.works.drops.size
    (c.apply_action.ensures.settled c.args.board.now.pairs c.loop-k.invariant.works.drops.under c.loop-k.invariant.under) in
    record {
      works = record {
        drops = drops_more (IsRuleAt c.args.actions.now c.args.board.now.pairs.atoms) c.loop-k.k c.args.board.now c.loop-k.board c.apply_action.new.board c.loop-k.invariant.works.drops drops;
        settled = settles_more (IsRuleAt c.args.actions.now c.args.board.now.pairs.atoms) c.loop-k.k c.args.looked.now c.args.board.now.pairs c.loop-k.board c.apply_action.new.board c.loop-k.invariant.works.settled drops settled;
      };
      room = c.apply_action.ensures.room;
      over = λ j lt. c.apply_action.ensures.spans j (omega (arith, lt));
      under = λ j lt. c.apply_action.ensures.under c.args.board.now.pairs c.loop-k.invariant.works.drops.under c.loop-k.invariant.under j (omega (arith, lt));
    }

pub apply_action-requires-clause-good : goal.apply_action-requires-clause-good
apply_action-requires-clause-good c = c.loop-k.invariant.works.drops.good

pub apply_action-requires-clause-actions : goal.apply_action-requires-clause-actions
apply_action-requires-clause-actions c = subst (λ n. All (IsWithin n) c.args.actions.now) (sym c.loop-k.invariant.works.drops.size) c.requires.actions

pub apply_action-requires-clause-room : goal.apply_action-requires-clause-room
apply_action-requires-clause-room c = c.loop-k.invariant.room

pub apply_action-requires-clause-spans : goal.apply_action-requires-clause-spans
apply_action-requires-clause-spans c = c.loop-k.invariant.over

pub returns : goal.returns
returns c =
    let most : c.loop-k.k ≤ length c.args.actions.now = c.loop-k.auto.k-end in
    let least : length c.args.actions.now ≤ c.loop-k.k = c.loop-k-test.false in
    let e : c.loop-k.k ≡ length c.args.actions.now = omega (arith, most, least) in
    record {
      works = subst (λ n. Works (IsUpTo (IsRuleAt c.args.actions.now c.args.board.now.pairs.atoms) n) c.args.looked.now c.args.board.now c.loop-k.board) e c.loop-k.invariant.works;
      room = c.loop-k.invariant.room;
    }
