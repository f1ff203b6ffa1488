use Rattle.std.proofs.Common.{◌<◌, length, map, sym, ap, ◌∙◌, subst, arith}
use Rattle.serde_json.specs.View.{view}
use Rattle.cpt_json_write.proofs.Arrays.{all_written, one_more}
use Rattle.cpt_json_write.proofs.values.array_of.Goals as goal

pub loop-item-preserved : goal.loop-item-preserved
loop-item-preserved g c =
    λ all.
    let xs = c.args.items.now in
    let lt : c.loop-item.item-index < length xs = omega arith in
    let able : g.T.ToJson.has_form c.item-item.result = subst g.T.ToJson.has_form (sym c.item-item.is) (all c.loop-item.item-index c.item-item.result lt) in
    ap (map view) c.in_ok-push.ensures.items ∙ one_more g.T.ToJson.form xs c.loop-item.item-index c.item-item.result c.loop-item.values.items c.in_ok-to_json.field-0 lt c.item-item.is (c.loop-item.invariant all) (c.in_ok-to_json.ensures able)

pub returns : goal.returns
returns g c = λ all. all_written g.T.ToJson.form c.args.items.now c.loop-item.item-index c.loop-item.values (omega arith) (c.loop-item.invariant all)
