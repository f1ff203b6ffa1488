use Rattle.std.proofs.Common.{◌≡◌, suc, ◌<◌, length, set, subst, sym, ◌∙◌}
use Rattle.std.proofs.lemmas.List.{length-set}
use Rattle.cpt_tables.specs.Shapes.{set_span_of}
use Rattle.cpt_h2.specs.Rules.{IsRuleAt, action_of}
use Rattle.cpt_h2.specs.Rows.{AreSpansOver}
use Rattle.cpt_h2.specs.Rounds.{MeetsEach, Works}
use Rattle.cpt_h2.proofs.RuleLemmas.{works_never, settles_above}
use Rattle.cpt_h2.proofs.RowLemmas.{span_is, span_now, span_under, spans_more, spans_later, under_more}
use Rattle.cpt_h2.proofs.rules.apply_action.Goals as goal

pub apply_running-requires-clause-room : goal.apply_running-requires-clause-room
apply_running-requires-clause-room c = record {
  each = length-set c.args.spans.now c.args.k c.span_of-own.result ∙ c.requires.room.each;
  first = c.requires.room.first;
  second = c.requires.room.second;
}

pub apply_running-requires-clause-spans : goal.apply_running-requires-clause-spans
apply_running-requires-clause-spans c =
    let lt : c.args.k < length c.args.spans.now = subst (λ n. c.args.k < n) (sym c.requires.room.each) c.requires.within in
    let own : c.span_of-own.result ≡ set_span_of c.args.board.now.pairs (action_of c.args.actions.now c.args.k).pre =
    span_is c.args.board.now.pairs c.as_slice.result.now c.action_at-action.result.now (action_of c.args.actions.now c.args.k) c.span_of-own.result c.span_of-own.ensures.value c.as_slice.ensures.items c.action_at-action.ensures in
    spans_more c.args.board.now c.args.actions.now c.args.spans.now c.args.k c.span_of-own.result lt c.requires.spans
    (span_now c.args.board.now (action_of c.args.actions.now c.args.k).pre c.span_of-own.result own c.span_of-own.ensures.small)

pub returns-then-is_finite : goal.returns-then-is_finite
returns-then-is_finite c =
    let lt : c.args.k < length c.args.spans.now = subst (λ n. c.args.k < n) (sym c.requires.room.each) c.requires.within in
    let own : c.span_of-own.result ≡ set_span_of c.args.board.now.pairs (action_of c.args.actions.now c.args.k).pre =
    span_is c.args.board.now.pairs c.as_slice.result.now c.action_at-action.result.now (action_of c.args.actions.now c.args.k) c.span_of-own.result c.span_of-own.ensures.value c.as_slice.ensures.items c.action_at-action.ensures in
    let over : AreSpansOver c.args.board.now c.args.actions.now (set c.args.spans.now c.args.k c.span_of-own.result) (suc c.args.k) =
    spans_more c.args.board.now c.args.actions.now c.args.spans.now c.args.k c.span_of-own.result lt c.requires.spans
    (span_now c.args.board.now (action_of c.args.actions.now c.args.k).pre c.span_of-own.result own c.span_of-own.ensures.small) in
    record {
      drops = c.apply_running.ensures.drops;
      settled = λ h most under. c.apply_running.ensures.settled h most
          (under_more h c.args.actions.now c.args.spans.now c.args.k c.span_of-own.result lt under (span_under c.args.board.now.pairs h (action_of c.args.actions.now c.args.k).pre c.span_of-own.result most own));
      spans = spans_later (MeetsEach (IsRuleAt c.args.actions.now c.args.board.now.pairs.atoms c.args.k)) c.args.board.now c.apply_running.new.board c.args.actions.now (set c.args.spans.now c.args.k c.span_of-own.result) (suc c.args.k) c.apply_running.ensures.drops over;
      under = λ h most under. under_more h c.args.actions.now c.args.spans.now c.args.k c.span_of-own.result lt under (span_under c.args.board.now.pairs h (action_of c.args.actions.now c.args.k).pre c.span_of-own.result most own);
      room = c.apply_running.ensures.room;
    }

pub returns-else-is_finite : goal.returns-else-is_finite
returns-else-is_finite c =
    let lt : c.args.k < length c.args.spans.now = subst (λ n. c.args.k < n) (sym c.requires.room.each) c.requires.within in
    let own : c.span_of-own.result ≡ set_span_of c.args.board.now.pairs (action_of c.args.actions.now c.args.k).pre =
    span_is c.args.board.now.pairs c.as_slice.result.now c.action_at-action.result.now (action_of c.args.actions.now c.args.k) c.span_of-own.result c.span_of-own.ensures.value c.as_slice.ensures.items c.action_at-action.ensures in
    let works : Works (IsRuleAt c.args.actions.now c.args.board.now.pairs.atoms c.args.k) c.args.looked.now c.args.board.now c.args.board.now =
    works_never c.args.actions.now c.args.board.now.pairs.atoms c.args.k c.args.looked.now c.args.board.now c.requires.good (sym own ∙ c.if-is_finite.ensures) in
    record {
      drops = works.drops;
      settled = λ h most under. settles_above (IsRuleAt c.args.actions.now c.args.board.now.pairs.atoms c.args.k) c.args.looked.now c.args.board.now.pairs h c.args.board.now most works.settled;
      spans = spans_more c.args.board.now c.args.actions.now c.args.spans.now c.args.k c.span_of-own.result lt c.requires.spans
          (span_now c.args.board.now (action_of c.args.actions.now c.args.k).pre c.span_of-own.result own c.span_of-own.ensures.small);
      under = λ h most under. under_more h c.args.actions.now c.args.spans.now c.args.k c.span_of-own.result lt under (span_under c.args.board.now.pairs h (action_of c.args.actions.now c.args.k).pre c.span_of-own.result most own);
      room = record { each = length-set c.args.spans.now c.args.k c.span_of-own.result ∙ c.requires.room.each; first = c.requires.room.first; second = c.requires.room.second };
    }
