use Rattle.std.proofs.Common.{◌≡◌, ◌∙◌, ◌≤◌, ◌+◌, List, ℕ, ap, length, arith}
use Rattle.std.specs.Prelude.{Result, Ok, Err, OnOk}
use Rattle.cpt_instance.specs.Choices.{choices_of, list_total}
use Rattle.cpt_instance.specs.Listing.{Adds, IsChosen, IsOfSchema}
use Rattle.cpt_instance.proofs.InstanceLemmas.{all_places, ways_counted, ways_rise}
use Rattle.cpt_instance.proofs.listing.push_of_schema.Goals as goal

on_ok_map : {T E : Type 0} (r : Result T E) (P Q : Type 0) → (P → Q) → OnOk r P → OnOk r Q
on_ok_map (Ok x) P Q f h = f h
on_ok_map (Err e) P Q f h = h

pub push_chosen-requires-clause-total : goal.push_chosen-requires-clause-total
push_chosen-requires-clause-total c =
    let parents : List ℕ = c.args.types.now in
    let chosen : c.as_slice.result.now ≡ choices_of parents c.args.kinds.now c.args.schema.now.kinds =
    c.as_slice.ensures.value ∙ c.in_ok-choices.ensures ∙ ap (choices_of parents c.args.kinds.now) c.as_slice-wanted.ensures in
    ways_counted parents c.args.kinds.now c.as_slice-wanted.result.now c.args.schema.now.kinds c.as_slice.result.now c.list_count-count.result
    c.as_slice-wanted.ensures chosen c.list_count-count.ensures c.requires.few

pub push_chosen-requires-clause-ordered : goal.push_chosen-requires-clause-ordered
push_chosen-requires-clause-ordered c =
    let parents : List ℕ = c.args.types.now in
    ways_rise parents c.args.kinds.now c.as_slice-wanted.result.now c.as_slice.result.now (c.as_slice.ensures.value ∙ c.in_ok-choices.ensures)

pub returns-clause-adds : goal.returns-clause-adds
returns-clause-adds c =
    let parents : List ℕ = c.args.types.now in
    let chosen : c.as_slice.result.now ≡ choices_of parents c.args.kinds.now c.args.schema.now.kinds =
    c.as_slice.ensures.value ∙ c.in_ok-choices.ensures ∙ ap (choices_of parents c.args.kinds.now) c.as_slice-wanted.ensures in
    on_ok_map c.push_chosen.result
    (Adds (IsChosen c.args.values.now c.args.schema.now c.args.number c.as_slice.result.now c.list_count-count.result) c.args.found.now.items c.push_chosen.new.found.items)
    (Adds (IsOfSchema c.args.values.now c.args.schema.now c.args.number parents c.args.kinds.now) c.args.found.now.items c.push_chosen.new.found.items)
    (λ h. all_places c.args.values.now c.args.schema.now c.args.number parents c.args.kinds.now c.as_slice.result.now c.list_count-count.result
    c.args.found.now.items c.push_chosen.new.found.items chosen
    (ways_counted parents c.args.kinds.now c.as_slice-wanted.result.now c.args.schema.now.kinds c.as_slice.result.now c.list_count-count.result
    c.as_slice-wanted.ensures chosen c.list_count-count.ensures c.requires.few) h)
    c.push_chosen.ensures.adds

pub returns-clause-few : goal.returns-clause-few
returns-clause-few c =
    let parents : List ℕ = c.args.types.now in
    let same : list_total parents c.args.kinds.now c.as_slice-wanted.result.now ≡ list_total parents c.args.kinds.now c.args.schema.now.kinds =
    ap (list_total parents c.args.kinds.now) c.as_slice-wanted.ensures in
    let few : c.list_count-count.result ≤ list_total parents c.args.kinds.now c.args.schema.now.kinds = omega (arith, c.list_count-count.ensures, same) in
    on_ok_map c.push_chosen.result
    (length c.push_chosen.new.found.items ≤ length c.args.found.now.items + c.list_count-count.result)
    (length c.push_chosen.new.found.items ≤ length c.args.found.now.items + list_total parents c.args.kinds.now c.args.schema.now.kinds)
    (λ h. omega arith) c.push_chosen.ensures.few
