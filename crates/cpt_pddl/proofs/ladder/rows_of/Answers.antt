use Rattle.std.proofs.Common.{◌≡◌, ◌∙◌, map, length, slice_index, ap}
use Rattle.cpt_pddl.proofs.LadderLemmas.{few_more, row_next, rows_more}
use Rattle.cpt_pddl.proofs.ladder.rows_of.Goals as goal

pub loop-left-preserved : goal.loop-left-preserved
loop-left-preserved c =
    let parents = c.args.parents.now in
    let rows = c.loop-left.rows.items in
    let row = c.loop-left.row in
    let next : c.in_ok-next.next ≡ map (λ k. slice_index row k) row = c.in_ok-next.ensures ∙ ap (λ r. map (λ k. slice_index r k) r) c.as_slice.ensures in
    rw c.in_ok-push.ensures.items (record {
      rows = rows_more parents rows row c.loop-left.invariant.rows c.loop-left.invariant.row;
      row = λ k. ap (λ r. slice_index r k) next ∙ row_next parents rows row c.requires c.loop-left.invariant.row k;
      room = few_more (length parents) c.loop-left.left rows row c.loop-left.invariant.room;
    })
