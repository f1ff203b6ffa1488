use Rattle.std.proofs.Common.{arith, sym, ◌∙◌, ap, subst, ◌≡◌, ◌==◌, true, List, length, slice_get, unwrap_or}
use Rattle.std.proofs.lemmas.Option.{get_or_from_slice_get}
use Rattle.cpt_sheet.specs.declared.data.Need.{Need}
use Rattle.cpt_sheet.specs.View.{no_need}
use Rattle.cpt_edits.proofs.Takes.{revised_at, not_there}
use Rattle.cpt_sheet.specs.Edits.{without, revised}
use Rattle.cpt_edits.proofs.changing.take_from.Goals as goal

pub returns-then-is_for : goal.returns-then-is_for
returns-then-is_for c =
    revised_at c.args.atom (without c.args.cand) c.loop-i.needs c.loop-i.i c.get_mut-need.result.now c.discard.new.list (omega (arith, ap length c.loop-i.invariant.same, ap length c.as_slice-i-end.ensures)) c.loop-i.invariant.none
    (sym (get_or_from_slice_get c.loop-i.needs c.loop-i.i c.get_mut-need.result.now c.get_mut-need.result.now c.get_mut-need.ensures.item))
    (subst (λ (ns : List Need). ((unwrap_or (slice_get ns c.loop-i.i) no_need).atom == c.args.atom) ≡ true) c.as_slice.ensures (sym c.if-is_for.ensures))
    c.discard.ensures
    ∙ ap (λ z. revised c.args.atom (without c.args.cand) z) c.loop-i.invariant.same

pub returns : goal.returns
returns c = not_there c.args.atom (without c.args.cand) c.loop-i.needs (λ k h. c.loop-i.invariant.none k (omega (arith, ap length c.loop-i.invariant.same, ap length c.as_slice-i-end.ensures))) ∙ ap (λ z. revised c.args.atom (without c.args.cand) z) c.loop-i.invariant.same
