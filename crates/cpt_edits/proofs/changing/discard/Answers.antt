use Rattle.std.proofs.Common.{◌≡◌, true, List, slice_get, arith, ◌∙◌, ap, subst, length}
use Rattle.std.specs.Prelude.{IsSomeAnd}
use Rattle.cpt_sheet.specs.declared.data.Cand.{Cand}
use Rattle.cpt_sheet.specs.View.{same}
use Rattle.cpt_sheet.specs.Edits.{without}
use Rattle.cpt_edits.proofs.Firsts.{removed_at, none_there}
use Rattle.cpt_edits.proofs.changing.discard.Goals as goal

pub returns : goal.returns
returns c = none_there c.args.cand c.loop-i.list (λ k h. c.loop-i.invariant.none k (omega (arith, ap length c.loop-i.invariant.kept, ap length c.as_slice-i-end.ensures))) ∙ ap (λ z. without c.args.cand z) c.loop-i.invariant.kept

pub returns-then-is_here : goal.returns-then-is_here
returns-then-is_here c =
    c.remove.ensures.rest ∙
    (removed_at c.args.cand c.loop-i.list c.loop-i.i (omega (arith, ap length c.loop-i.invariant.kept, ap length c.as_slice-i-end.ensures)) c.loop-i.invariant.none
    (subst (λ (xs : List Cand). IsSomeAnd (slice_get xs c.loop-i.i) (λ d. true ≡ same d c.args.cand)) c.as_slice.ensures c.if-is_here.ensures)
    ∙ ap (λ z. without c.args.cand z) c.loop-i.invariant.kept)
