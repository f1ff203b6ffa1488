-- Values of tasks and reports have no fractions, and are not deep.
use Rattle.std.proofs.Common.{◌≡◌, ℕ, ◌≤◌, Bool, true, false, ◌||◌, List, [], ◌∷◌, map, refl, ap, ◌∙◌, arith}
use Rattle.serde_json.specs.Data.{Data, string, depth, items_depth}
use Rattle.serde_json.specs.Read.{max_depth}
use Rattle.serde_json.specs.View.{items_of}
use Rattle.serde_json.specs.Written.{has_float, items_have_float}
use Rattle.cpt_task.specs.declared.task.Action.{Action}
use Rattle.cpt_task.specs.declared.plan.Verdict.{Verdict}
use Rattle.cpt_task.specs.declared.plan.Verdict.TheVariants.{Valid, Overlap, Unmet, GoalMissing}
use Rattle.cpt_task.specs.Shape.{TaskShape}
use Rattle.cpt_json_form.specs.Values.{action_value, duration_value, list_value, number_value, numbers_value, report_value, task_value}

whole_items : {A : Type 0} (value : A → Data) → ((x : A) → has_float (value x) ≡ false) → (xs : List A) → items_have_float (items_of (map value xs)) ≡ false
whole_items value h [] = refl
whole_items value h (x ∷ xs) = ap (λ (b : Bool). b || items_have_float (items_of (map value xs))) (h x) ∙ whole_items value h xs

three : (a b c : Bool) → a ≡ false → b ≡ false → c ≡ false → (a || (b || (c || false))) ≡ false
three true b c h k l = absurd cc
three false true c h k l = absurd cc
three false false true h k l = absurd cc
three false false false h k l = refl

four : (a b c d : Bool) → a ≡ false → b ≡ false → c ≡ false → d ≡ false → (a || (b || (c || (d || false)))) ≡ false
four true b c d h k l m = absurd cc
four false true c d h k l m = absurd cc
four false false true d h k l m = absurd cc
four false false false true h k l m = absurd cc
four false false false false h k l m = refl

whole_numbers : (ns : List ℕ) → has_float (numbers_value ns) ≡ false
whole_numbers ns = whole_items number_value (λ n. refl) ns

whole_action : (a : Action) → has_float (action_value a) ≡ false
whole_action a = three (has_float (numbers_value a.add)) (has_float (numbers_value a.dele)) (has_float (numbers_value a.pre)) (whole_numbers a.add) (whole_numbers a.dele) (whole_numbers a.pre)

pub whole_task : (t : TaskShape) → has_float (task_value t) ≡ false
whole_task t =
    four (has_float (list_value action_value t.actions)) (has_float (list_value string t.atoms)) (has_float (numbers_value t.goal)) (has_float (numbers_value t.init))
    (whole_items action_value whole_action t.actions) (whole_items string (λ s. refl) t.atoms) (whole_numbers t.goal) (whole_numbers t.init)

pub whole_report : (t : TaskShape) (v : Verdict) → has_float (report_value t v) ≡ false
whole_report t (Valid m) = refl
whole_report t (Overlap i j) = refl
whole_report t (Unmet i p time) = refl
whole_report t (GoalMissing p) = refl

pub whole_duration : (place dur : ℕ) → has_float (duration_value place dur) ≡ false
whole_duration place dur = refl

flat_items : {A : Type 0} (value : A → Data) (n : ℕ) → ((x : A) → depth (value x) ≤ n) → (xs : List A) → items_depth (items_of (map value xs)) ≤ n
flat_items value n h [] = omega arith
flat_items value n h (x ∷ xs) = omega (arith, h x, flat_items value n h xs)

flat_numbers : (ns : List ℕ) → depth (numbers_value ns) ≤ 1
flat_numbers ns = omega (arith, flat_items number_value 0 (λ n. omega arith) ns)

flat_action : (a : Action) → depth (action_value a) ≤ 2
flat_action a = omega (arith, flat_numbers a.add, flat_numbers a.dele, flat_numbers a.pre)

pub flat_task : (t : TaskShape) → depth (task_value t) ≤ max_depth
flat_task t = omega (arith, flat_items action_value 2 flat_action t.actions, flat_items string 0 (λ s. omega arith) t.atoms, flat_numbers t.goal, flat_numbers t.init)
