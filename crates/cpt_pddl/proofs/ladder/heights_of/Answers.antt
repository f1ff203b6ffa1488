use Rattle.std.proofs.Common.{◌≡◌, ◌∙◌, ◌+◌, ◌^◌, ◌<◌, [], get_or, length, slice_index, arith, ap}
use Rattle.std.proofs.lemmas.List.{get_or_read}
use Rattle.cpt_pddl.proofs.LadderLemmas.{heights_fit, heights_more, row_at}
use Rattle.cpt_pddl.proofs.ladder.heights_of.Goals as goal

pub raised-requires : goal.raised-requires
raised-requires c =
    let parents = c.args.parents.now in
    let i = c.loop-row.row-index in
    let lt : i < length c.args.rows.now = omega arith in
    let row : c.as_slice.result.now ≡ get_or c.args.rows.now i [] = c.as_slice.ensures ∙ get_or_read c.args.rows.now _ _ lt c.row-item.is [] in
    rw c.as_slice-in-loop-row.ensures (λ kind. heights_fit parents (2 ^ i) c.as_slice.result.now c.loop-row.heights kind c.requires.few c.requires.root
    (row_at parents c.args.rows.now i c.as_slice.result.now c.requires.rows lt row) c.loop-row.invariant)

pub loop-row-preserved : goal.loop-row-preserved
loop-row-preserved c =
    let parents = c.args.parents.now in
    let i = c.loop-row.row-index in
    let lt : i < length c.args.rows.now = omega arith in
    let row : c.as_slice.result.now ≡ get_or c.args.rows.now i [] = c.as_slice.ensures ∙ get_or_read c.args.rows.now _ _ lt c.row-item.is [] in
    let heights = c.as_slice-in-loop-row.ensures in
    heights_more parents c.args.rows.now i c.as_slice.result.now c.loop-row.heights c.in_ok-heights-2.heights c.requires.root c.requires.rows lt row c.loop-row.invariant
    (c.in_ok-heights-2.ensures.long ∙ ap length heights)
    (λ k less. c.in_ok-heights-2.ensures.value k (let long = ap length heights in omega (arith, less, long)) ∙ ap (λ hs. slice_index hs k + slice_index hs (slice_index c.as_slice.result.now k)) heights)
