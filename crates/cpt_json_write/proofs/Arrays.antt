-- Arrays of what has a form.
use Rattle.std.proofs.Common.{◌≡◌, ℕ, ◌+◌, ◌<◌, ◌≤◌, List, [], ◌∷◌, ◌++◌, length, get_or, take, map, All, sym, ap, ◌∙◌, subst}
use Rattle.std.proofs.lemmas.List.{map-append, take_all, take_more}
use Rattle.std.proofs.lemmas.List.Elements.{All-cons, All-head, All-nil, All-tail}
use Rattle.serde_json.proofs.Views.{view-Array}
use Rattle.serde_json.specs.Data.{Data, array, string}
use Rattle.serde_json.specs.View.{items_of, view}
use Rattle.serde_json.specs.declared.value.Value.{Value, Array}
use Rattle.std.specs.Prelude.{Vec}
use Rattle.std.specs.declared.alloc.Global.{Global}
use Rattle.cpt_task.specs.declared.task.Action.{Action}
use Rattle.cpt_task.specs.Shape.{TaskShape}
use Rattle.cpt_json_form.specs.Values.{action_object, action_value, list_value, names_value, number_value, numbers_value, task_object, task_value}

-- one more item
pub one_more : {A : Type 0} (form : A → Data) (xs : List A) (i : ℕ) (x : A) (vs : List Value) (v : Value) → i < length xs → x ≡ get_or xs i x → map view vs ≡ map form (take i xs) → view v ≡ form x → map view (vs ++ v ∷ []) ≡ map form (take (i + 1) xs)
one_more form xs i x vs v lt is so new =
    map-append view vs (v ∷ []) ∙ ap (λ (ds : List Data). ds ++ view v ∷ []) so ∙ ap (λ (d : Data). map form (take i xs) ++ d ∷ []) new ∙ sym (map-append form (take i xs) (x ∷ [])) ∙ ap (λ y. map form (take i xs ++ y ∷ [])) is ∙ ap (map form) (sym (take_more xs i x lt))

-- all items
pub all_written : {A : Type 0} (form : A → Data) (xs : List A) (i : ℕ) (v : Vec Value Global) → length xs ≤ i → map view v.items ≡ map form (take i xs) → view (Array v) ≡ list_value form xs
all_written form xs i v end so = view-Array v ∙ ap (λ (ds : List Data). array (items_of ds)) (so ∙ ap (map form) (take_all i xs end))

-- the items by another name
pub written : {A : Type 0} (form : A → Data) (Has : A → Type 0) (xs ys : List A) (d : Data) → xs ≡ ys → (All Has xs → d ≡ list_value form xs) → All Has ys → d ≡ list_value form ys
written form Has xs ys d same f all = f (subst (All Has) (sym same) all) ∙ ap (list_value form) same

pub all_unmapped : {A B : Type 0} (P : B → Type 0) (f : A → B) (xs : List A) → All P (map f xs) → All (λ x. P (f x)) xs
all_unmapped P f [] h = All-nil (λ x. P (f x))
all_unmapped P f (x ∷ xs) h = All-cons (λ y. P (f y)) x xs (All-head P (f x) (map f xs) h) (all_unmapped P f xs (All-tail P (f x) (map f xs) h))

pub action_is : (a : Action) (d add del name pre : Data) → d ≡ action_object add del (number_value a.dur) name pre → add ≡ numbers_value a.add → del ≡ numbers_value a.dele → name ≡ string a.name → pre ≡ numbers_value a.pre → d ≡ action_value a
action_is a d add del name pre is e f g h =
    is ∙ ap (λ x. action_object x del (number_value a.dur) name pre) e ∙ ap (λ x. action_object (numbers_value a.add) x (number_value a.dur) name pre) f
    ∙ ap (λ x. action_object (numbers_value a.add) (numbers_value a.dele) (number_value a.dur) x pre) g ∙ ap (λ x. action_object (numbers_value a.add) (numbers_value a.dele) (number_value a.dur) (string a.name) x) h

pub task_is : (t : TaskShape) (d actions atoms goal init : Data) → d ≡ task_object actions atoms goal init → actions ≡ list_value action_value t.actions → atoms ≡ names_value t.atoms → goal ≡ numbers_value t.goal → init ≡ numbers_value t.init → d ≡ task_value t
task_is t d actions atoms goal init is e f g h =
    is ∙ ap (λ x. task_object x atoms goal init) e ∙ ap (λ x. task_object (list_value action_value t.actions) x goal init) f ∙ ap (λ x. task_object (list_value action_value t.actions) (names_value t.atoms) x init) g
    ∙ ap (λ x. task_object (list_value action_value t.actions) (names_value t.atoms) (numbers_value t.goal) x) h
