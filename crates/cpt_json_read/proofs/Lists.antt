-- Arrays of which each item has a form.
use Rattle.std.proofs.Common.{◌≡◌, ◌≢◌, ℕ, zero, suc, ◌+◌, ◌<◌, ◌≤◌, List, [], ◌∷◌, ◌++◌, length, get_or, take, map, Some, Err, sym, ap, ◌∙◌, arith}
use Rattle.std.proofs.lemmas.List.{map-append, take_more, take_all}
use Rattle.serde_json.specs.Data.{Data, Items, array, null, boolean, number, string, object}
use Rattle.serde_json.specs.Find.{as_array}
use Rattle.serde_json.specs.View.{items_of, items_view, view}
use Rattle.serde_json.specs.declared.value.Value.{Value}
use Rattle.cpt_json_form.specs.declared.errors.Misread.{Misread}
use Rattle.cpt_json_form.specs.declared.errors.Misread.TheVariants as misreads
use Rattle.cpt_json_form.specs.Reading.{ReadsForm}
use Rattle.cpt_json_form.specs.Values.{list_value}
use Rattle.cpt_json_form.proofs.Same.{same_items}

pub is_array : (d : Data) (ds : Items) → Some ds ≡ as_array d → d ≡ array ds
is_array null ds e = absurd cc
is_array (boolean b) ds e = absurd cc
is_array (number n) ds e = absurd cc
is_array (string s) ds e = absurd cc
is_array (array es) ds e = let same : es ≡ ds = cc in ap array same
is_array (object ms) ds e = absurd cc

-- each item of an array of a list has the form
has_form : {A : Type 0} (form : A → Data) (vs : List Value) (i : ℕ) (v : Value) → i < length vs → v ≡ get_or vs i v → ((x : A) → view v ≢ form x) → (xs : List A) → map view vs ≡ map form xs → ⊥
has_form form [] i v lt is not xs e = omega (arith, lt)
has_form form (w ∷ vs) i v lt is not [] e = cc
has_form form (w ∷ vs) zero v lt is not (x ∷ xs) e =
    let first : view w ≡ form x = cc in
    not x (ap view is ∙ first)
has_form form (w ∷ vs) (suc i) v lt is not (x ∷ xs) e =
    let rest : map view vs ≡ map form xs = cc in
    has_form form vs i v (omega (arith, lt)) is not xs rest

-- an item that is not read is the fault of the list
pub bad_item : {A : Type 0} (form : A → Data) (d : Data) (vs : List Value) (i : ℕ) (v : Value) (e : Misread) → Some (items_view vs) ≡ as_array d → i < length vs → v ≡ get_or vs i v → ReadsForm form (view v) (Err e) → ReadsForm (list_value form) d (Err e)
bad_item form d vs i v misreads.Shape array_is lt is not = λ xs h.
    let same : array (items_of (map view vs)) ≡ array (items_of (map form xs)) = sym (is_array d (items_view vs) array_is) ∙ h in
    has_form form vs i v lt is not xs (same_items (map view vs) (map form xs) cc)
bad_item form d vs i v misreads.Memory array_is lt is not = tt

-- one more item
pub one_more : {A : Type 0} (form : A → Data) (vs : List Value) (i : ℕ) (v : Value) (xs : List A) (x : A) → i < length vs → v ≡ get_or vs i v → map view (take i vs) ≡ map form xs → view v ≡ form x → map view (take (i + 1) vs) ≡ map form (xs ++ x ∷ [])
one_more form vs i v xs x lt is so new =
    ap (map view) (take_more vs i v lt ∙ ap (λ (w : Value). take i vs ++ w ∷ []) (sym is)) ∙ map-append view (take i vs) (v ∷ []) ∙ ap (λ ds. ds ++ view v ∷ []) so ∙ ap (λ (d : Data). map form xs ++ d ∷ []) new ∙ sym (map-append form xs (x ∷ []))

-- all items
pub all_read : {A : Type 0} (form : A → Data) (d : Data) (vs : List Value) (i : ℕ) (xs : List A) → Some (items_view vs) ≡ as_array d → length vs ≤ i → map view (take i vs) ≡ map form xs → d ≡ list_value form xs
all_read form d vs i xs array_is end so =
    is_array d (items_view vs) array_is ∙ ap (λ ws. array (items_of (map view ws))) (sym (take_all i vs end)) ∙ ap (λ ds. array (items_of ds)) so
