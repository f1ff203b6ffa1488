use Rattle.std.proofs.Common.{◌≡◌, ◌<◌, length, Some, map, sym, ap, ◌∙◌, arith}
use Rattle.std.proofs.lemmas.Result.{err_from_is_err_and}
use Rattle.serde_json.specs.Find.{as_array}
use Rattle.serde_json.specs.View.{items_view, view}
use Rattle.cpt_json_form.specs.Values.{list_value}
use Rattle.cpt_json_read.proofs.Lists.{all_read, bad_item, one_more}
use Rattle.cpt_json_read.proofs.values.list_of.Goals as goal

pub returns-in_err-from_value : goal.returns-in_err-from_value
returns-in_err-from_value g c =
    let vs = c.deref-item-items.result.now in
    let found : Some (items_view vs) ≡ as_array (view c.args.value.now) = ap (λ ws. Some (items_view ws)) c.deref-item-items.ensures.value ∙ c.in-Some.ensures in
    let lt : c.loop-item.item-index < length vs = omega arith in
    let p = err_from_is_err_and c.from_residual.result c.from_residual.ensures.1 in
    rw (p.1, p.2) (bad_item g.T.FromValue.form (view c.args.value.now) vs c.loop-item.item-index c.item-item.result c.in_err-from_value.field-0.0 found lt c.item-item.is c.in_err-from_value.ensures)

pub loop-item-preserved : goal.loop-item-preserved
loop-item-preserved g c =
    let vs = c.deref-item-items.result.now in
    let lt : c.loop-item.item-index < length vs = omega arith in
    one_more g.T.FromValue.form vs c.loop-item.item-index c.item-item.result c.loop-item.items.items c.in_ok-from_value.field-0 lt c.item-item.is c.loop-item.invariant c.in_ok-from_value.ensures ∙ ap (map g.T.FromValue.form) (sym c.in_ok-push.ensures.items)

pub returns : goal.returns
returns g c =
    let vs = c.deref-item-items.result.now in
    let found : Some (items_view vs) ≡ as_array (view c.args.value.now) = ap (λ ws. Some (items_view ws)) c.deref-item-items.ensures.value ∙ c.in-Some.ensures in
    all_read g.T.FromValue.form (view c.args.value.now) vs c.loop-item.item-index c.loop-item.items.items found (omega arith) c.loop-item.invariant ∙ ap (list_value g.T.FromValue.form) (sym c.from_vec.ensures)
