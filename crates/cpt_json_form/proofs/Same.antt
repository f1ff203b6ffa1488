-- A value is that of one list, one task and one plan.
use Rattle.std.proofs.Common.{◌≡◌, ℕ, List, [], ◌∷◌, map, Option, None, Some, refl, sym, ap, ap₂, ◌∙◌}
use Rattle.serde_json.specs.Data.{Data, array, string}
use Rattle.serde_json.specs.View.{items_of}
use Rattle.cpt_task.specs.declared.task.Action.{Action}
use Rattle.cpt_task.specs.Shape.{TaskShape}
use Rattle.cpt_json_form.specs.declared.item.PlanItem.{PlanItem}
use Rattle.cpt_json_form.specs.Values.{action_value, item_value, list_value, number_value, numbers_value, plan_value, task_value}

-- values by which no two are mixed up
abbrev pub Tells : {A : Type 0} → (A → Data) → Type 0
Tells {A} value = (x y : A) → value x ≡ value y → x ≡ y

pub same_items : (ds es : List Data) → items_of ds ≡ items_of es → ds ≡ es
same_items [] [] h = refl
same_items [] (e ∷ es) h = absurd cc
same_items (d ∷ ds) [] h = absurd cc
same_items (d ∷ ds) (e ∷ es) h =
    let first : d ≡ e = cc in
    let rest : items_of ds ≡ items_of es = cc in
    ap₂ (λ (x : Data) (xs : List Data). x ∷ xs) first (same_items ds es rest)

pub same_map : {A : Type 0} (value : A → Data) → Tells value → (xs ys : List A) → map value xs ≡ map value ys → xs ≡ ys
same_map value tells [] [] h = refl
same_map value tells [] (y ∷ ys) h = absurd cc
same_map value tells (x ∷ xs) [] h = absurd cc
same_map {A} value tells (x ∷ xs) (y ∷ ys) h =
    let first : value x ≡ value y = cc in
    let rest : map value xs ≡ map value ys = cc in
    ap₂ (λ (z : A) (zs : List A). z ∷ zs) (tells x y first) (same_map value tells xs ys rest)

same_array : (ds es : List Data) → array (items_of ds) ≡ array (items_of es) → ds ≡ es
same_array ds es h = same_items ds es cc

pub same_list : {A : Type 0} (value : A → Data) → Tells value → Tells (list_value value)
same_list value tells xs ys h = same_map value tells xs ys (same_array (map value xs) (map value ys) h)

pub same_number : Tells number_value
same_number x y h = cc

pub same_string : Tells string
same_string x y h = cc

pub same_numbers : Tells numbers_value
same_numbers = same_list number_value same_number

pub same_action : Tells action_value
same_action x y h =
    let adds = same_numbers x.add y.add cc in
    let deletes = same_numbers x.dele y.dele cc in
    let durs : x.dur ≡ y.dur = cc in
    let names : x.name ≡ y.name = cc in
    let pres = same_numbers x.pre y.pre cc in
    λ i. record { name = names i; dur = durs i; pre = pres i; add = adds i; dele = deletes i }

pub same_task : Tells task_value
same_task x y h =
    let actions = same_list action_value same_action x.actions y.actions cc in
    let atoms = same_list string same_string x.atoms y.atoms cc in
    let goals = same_numbers x.goal y.goal cc in
    let inits = same_numbers x.init y.init cc in
    λ i. record { atoms = atoms i; actions = actions i; init = inits i; goal = goals i }

same_parts : (n m : List ℕ) (s t : ℕ) (d e : Option ℕ) → item_value (record { name = n; start = s; dur = d }) ≡ item_value (record { name = m; start = t; dur = e }) → (n ≡ m) × (s ≡ t) × (d ≡ e)
same_parts n m s t None None h = (cc, cc, refl)
same_parts n m s t None (Some e) h = absurd cc
same_parts n m s t (Some d) None h = absurd cc
same_parts n m s t (Some d) (Some e) h = (cc, cc, cc)

pub same_item : Tells item_value
same_item x y h =
    let p = same_parts x.name y.name x.start y.start x.dur y.dur h in
    λ i. record { name = p.0 i; start = p.1 i; dur = p.2 i }

pub same_plan : Tells plan_value
same_plan = same_list item_value same_item
