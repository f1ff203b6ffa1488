-- Whole readings put together from their parts.
use Rattle.std.proofs.Common.{◌≡◌, ℕ, zero, suc, ◌^◌, ◌<◌, ◌⊎◌, inl, inr, List, [], ◌∷◌, length, get_or, Result, Ok, Err, IfOk, Some, sym, ap, ◌∙◌, subst, arith}
use Rattle.std.specs.Prelude.{slice_get, MatchOption, Option}
use Rattle.serde_json.specs.View.{view}
use Rattle.serde_json.specs.declared.value.Value.{Value}
use Rattle.serde_json.specs.Data.{Data}
use Rattle.cpt_task.specs.declared.plan.Occ.{Occ}
use Rattle.cpt_task.specs.Judgeable.{IsJudgeable}
use Rattle.cpt_task.specs.Shape.{TaskShape}
use Rattle.cpt_json_form.specs.declared.errors.JsonPlanError.{JsonPlanError}
use Rattle.cpt_json_form.specs.declared.errors.JsonPlanError.TheVariants as plan_errors
use Rattle.cpt_json_form.specs.declared.errors.JsonTaskError.{JsonTaskError}
use Rattle.cpt_json_form.specs.declared.errors.JsonTaskError.TheVariants as task_errors
use Rattle.cpt_json_form.specs.declared.item.PlanItem.{PlanItem}
use Rattle.cpt_json_form.specs.Steps.{Finds}
use Rattle.cpt_json_read.specs.Forms.{HasForm}
use Rattle.cpt_json_form.specs.Reading.{AnswersForm, AnswersItems, GivesPlan, GivesTask, IsValueOf, ReadsPlan, ReadsTask}
use Rattle.cpt_json_form.specs.Values.{plan_value, task_value}
use Rattle.cpt_json_form.proofs.Plain.{items_answered}

-- an item by its place
pub same_item_at : {A : Type 0} (xs : List A) (k : ℕ) (x y : A) → x ≡ get_or xs k x → slice_get xs k ≡ Some y → x ≡ y
same_item_at [] k x y is h = absurd cc
same_item_at (z ∷ zs) zero x y is h = let same : z ≡ y = cc in is ∙ same
same_item_at (z ∷ zs) (suc k) x y is h = same_item_at zs k x y is h

-- the value of a text that was found
pub value_found : (text : List ℕ) (o : Option Value) (v : Value) → o ≡ Some v → MatchOption o ((d : Data) → IsValueOf text d → ⊥) (λ w. IsValueOf text (view w)) → IsValueOf text (view v)
value_found text o v is h = subst (λ (p : Option Value). MatchOption p ((d : Data) → IsValueOf text d → ⊥) (λ w. IsValueOf text (view w))) is h

-- ---- plans

pub gives_plan : (r : Result (List Occ) JsonPlanError) (P Q : Result (List Occ) JsonPlanError → Type 0) → ((y : Result (List Occ) JsonPlanError) → P y → Q y) → GivesPlan {X = List Occ} (λ p. p) r P → GivesPlan {X = List Occ} (λ p. p) r Q
gives_plan (Ok x) P Q f g = f (Ok x) g
gives_plan (Err plan_errors.Memory) P Q f g = tt
gives_plan (Err plan_errors.Syntax) P Q f g = f (Err plan_errors.Syntax) g
gives_plan (Err plan_errors.Shape) P Q f g = f (Err plan_errors.Shape) g
gives_plan (Err (plan_errors.Unknown place)) P Q f g = f (Err (plan_errors.Unknown place)) g
gives_plan (Err (plan_errors.Limit which)) P Q f g = f (Err (plan_errors.Limit which)) g
gives_plan (Err (plan_errors.Duration place right)) P Q f g = f (Err (plan_errors.Duration place right)) g

-- the items of a text answer for it
pub plan_read : (t : TaskShape) (text : List ℕ) (d : Data) (items : List PlanItem) (r : Result (List Occ) JsonPlanError) → IsValueOf text d → d ≡ plan_value items → GivesPlan {X = List Occ} (λ p. p) r (AnswersItems t items) → GivesPlan {X = List Occ} (λ p. p) r (ReadsPlan t text)
plan_read t text d items r value is g = gives_plan r (AnswersItems t items) (ReadsPlan t text) (λ y h. inl (d, value, inl (items, is, h))) g

pub plan_is_short : (t : TaskShape) (items : List PlanItem) (r : Result (List Occ) JsonPlanError) → length items < 2 ^ 32 → GivesPlan {X = List Occ} (λ p. p) r (AnswersItems t items) → IfOk r (λ plan. length plan < 2 ^ 32)
plan_is_short t items (Ok plan) short g = omega (arith, short, (items_answered t items plan g).1)
plan_is_short t items (Err e) short g = tt

pub plan_is_judgeable : (t : TaskShape) (items : List PlanItem) (r : Result (List Occ) JsonPlanError) → GivesPlan {X = List Occ} (λ p. p) r (AnswersItems t items) → IfOk r (IsJudgeable t)
plan_is_judgeable t items (Ok plan) g = (items_answered t items plan g).0
plan_is_judgeable t items (Err e) g = tt

-- ---- tasks

found : {A N X E : Type 0} {P R : A → Type 0} {x : X} {e : E} → (((a : A) × P a × R a) ⊎ (N × (Ok x ≡ Err e))) → (a : A) × P a × R a
found h = elim h [ inl good ↦ good | inr bad ↦ absurd (let e = bad.1 in cc) ]

abbrev read_as : TaskShape → Result TaskShape JsonTaskError
read_as t = Ok t

same_task_in : (t u : TaskShape) → read_as t ≡ read_as u → t ≡ u
same_task_in t u e = cc

abbrev refused : {X : Type 0} → JsonTaskError → Result X JsonTaskError
refused e = Err e

gives_task : (r : Result TaskShape JsonTaskError) (P Q : Result TaskShape JsonTaskError → Type 0) → ((y : Result TaskShape JsonTaskError) → P y → Q y) → GivesTask {X = TaskShape} (λ t. t) r P → GivesTask {X = TaskShape} (λ t. t) r Q
gives_task (Ok x) P Q f g = f (Ok x) g
gives_task (Err task_errors.Memory) P Q f g = tt
gives_task (Err task_errors.Syntax) P Q f g = f (Err task_errors.Syntax) g
gives_task (Err task_errors.Shape) P Q f g = f (Err task_errors.Shape) g
gives_task (Err (task_errors.Limit which)) P Q f g = f (Err (task_errors.Limit which)) g
gives_task (Err task_errors.BadName) P Q f g = f (Err task_errors.BadName) g
gives_task (Err task_errors.Atom) P Q f g = f (Err task_errors.Atom) g
gives_task (Err task_errors.Duration) P Q f g = f (Err task_errors.Duration) g

-- a form that is found answers for the text
found_form : (text : List ℕ) (t : TaskShape) → HasForm text (Ok t) → (d : Data) × IsValueOf text d × (d ≡ task_value t)
found_form text t h =
    let d = found h in
    let u = found d.2 in
    let same : t ≡ u.0 = same_task_in t u.0 u.2 in
    (d.0, d.1, u.1 ∙ ap task_value (sym same))

pub form_read : (text : List ℕ) (t : TaskShape) (r : Result TaskShape JsonTaskError) → HasForm text (Ok t) → GivesTask {X = TaskShape} (λ y. y) r (AnswersForm t t) → GivesTask {X = TaskShape} (λ y. y) r (ReadsTask text)
form_read text t r h g = let f = found_form text t h in gives_task r (AnswersForm t t) (ReadsTask text) (λ y a. inl (f.0, f.1, inl (t, f.2, a))) g

no_form : (d : Data) (e : JsonTaskError) → Finds (λ t. d ≡ task_value t) task_errors.Shape (λ t r. r ≡ Ok t) (refused {X = TaskShape} e) → Finds (λ t. d ≡ task_value t) task_errors.Shape (λ t. AnswersForm t t) (refused e)
no_form d e h = elim h [ inl f ↦ absurd (let not = f.2 in cc) | inr none ↦ inr none ]

unread : (text : List ℕ) (e : JsonTaskError) → HasForm text (Err e) → ReadsTask text (Err e)
unread text e h = elim h [ inl f ↦ inl (f.0, f.1, no_form f.0 e f.2) | inr none ↦ inr none ]

-- and where there is none the text is no task
pub form_unread : (text : List ℕ) (e : JsonTaskError) → GivesTask {X = TaskShape} (λ y. y) (Err e) (HasForm text) → GivesTask {X = TaskShape} (λ y. y) (Err e) (ReadsTask text)
form_unread text task_errors.Memory g = tt
form_unread text task_errors.Syntax g = unread text task_errors.Syntax g
form_unread text task_errors.Shape g = unread text task_errors.Shape g
form_unread text (task_errors.Limit which) g = unread text (task_errors.Limit which) g
form_unread text task_errors.BadName g = unread text task_errors.BadName g
form_unread text task_errors.Atom g = unread text task_errors.Atom g
form_unread text task_errors.Duration g = unread text task_errors.Duration g
