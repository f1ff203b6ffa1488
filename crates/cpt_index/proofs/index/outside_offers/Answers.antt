use Rattle.std.proofs.Common.{ap, arith, length, ◌∙◌}
use Rattle.cpt_sheet.specs.declared.data.Kind.TheVariants.{Act}
use Rattle.cpt_index.specs.Rows.{contents}
use Rattle.cpt_index.proofs.IndexLemmas.{adds_within, increasing_as, outside_all, outside_more, outside_none, rows_within}
use Rattle.cpt_index.proofs.index.outside_offers.Goals as goal

pub loop-a-init : goal.loop-a-init
loop-a-init c = outside_none c.args.task.now (contents c.in_ok-rows.rows) (c.in_ok-rows.ensures.count ∙ ap length c.atoms-atoms.ensures.value) c.in_ok-rows.ensures.each

pub reserve_each-requires : goal.reserve_each-requires
reserve_each-requires c =
    rows_within c.loop-a.rows _ c.adds_of-adds.result.now _ c.loop-a.invariant.count c.adds_of-adds.ensures.value (adds_within c.args.task.now (Act c.loop-a.a) c.actions-a-end.ensures.bounds)

pub push_each-requires-clause-once : goal.push_each-requires-clause-once
push_each-requires-clause-once c = increasing_as c.adds_of-adds.result.now _ c.adds_of-adds.ensures.value c.adds_of-adds.ensures.increasing

pub push_each-requires-clause-room : goal.push_each-requires-clause-room
push_each-requires-clause-room c = c.in_ok-reserve_each.ensures.room

pub loop-a-preserved : goal.loop-a-preserved
loop-a-preserved c =
    outside_more c.args.task.now c.loop-a.a c.adds_of-adds.result.now (contents c.loop-a.rows) (contents c.reserve_each.new.rows) (contents c.push_each.new.rows) (omega (arith, ap length c.actions-a-end.ensures.value))
    c.adds_of-adds.ensures.value c.loop-a.invariant c.reserve_each.ensures.rows c.push_each.ensures

pub returns : goal.returns
returns c = outside_all c.args.task.now c.loop-a.a (contents c.loop-a.rows) (omega (arith, ap length c.actions-a-end.ensures.value)) c.loop-a.invariant
