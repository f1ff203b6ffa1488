use Rattle.std.proofs.Common.{arith, sym, subst, ap, refl, ◌<◌, ◌≤◌, List, length}
use Rattle.std.proofs.lemmas.Option.{get_or_from_slice_get}
use Rattle.cpt_sheet.specs.declared.data.Need.{Need}
use Rattle.cpt_calculus.specs.Places.{IsPlaceFor}
use Rattle.cpt_edits.proofs.Takes.{revised_at, not_there}
use Rattle.cpt_calculus.proofs.applying.put_list.Goals as goal

pub returns-then-place-as_slice : goal.returns-then-place-as_slice
returns-then-place-as_slice c =
    let at : IsPlaceFor c.args.needs.now c.args.atom c.place_for-place.result = subst (λ (ns : List Need). IsPlaceFor ns c.args.atom c.place_for-place.result) c.as_slice.ensures c.place_for-place.ensures in
    let lt : c.place_for-place.result < length c.args.needs.now = omega (arith, ap length c.as_slice-2.ensures, c.if-place-as_slice.true) in
    revised_at c.args.atom (λ x. c.args.cands) c.args.needs.now c.place_for-place.result c.get_mut-need.result.now c.args.cands lt at.none_before
    (sym (get_or_from_slice_get c.args.needs.now c.place_for-place.result c.get_mut-need.result.now c.get_mut-need.result.now c.get_mut-need.ensures.item))
    (at.here lt) refl

pub returns-else-place-as_slice : goal.returns-else-place-as_slice
returns-else-place-as_slice c =
    let at : IsPlaceFor c.args.needs.now c.args.atom c.place_for-place.result = subst (λ (ns : List Need). IsPlaceFor ns c.args.atom c.place_for-place.result) c.as_slice.ensures c.place_for-place.ensures in
    let le : length c.args.needs.now ≤ c.place_for-place.result = omega (arith, ap length c.as_slice-2.ensures, c.if-place-as_slice.false) in
    not_there c.args.atom (λ x. c.args.cands) c.args.needs.now (λ k h. at.none_before k (omega arith))
