-- A text is one task, and one plan over a task, or it is none for one cause.
use Rattle.std.proofs.Common.{◌≡◌, ℕ, zero, suc, inl, inr, List, [], ◌∷◌, Option, Some, Result, Ok, Err, All, map, sym, ap, ◌∙◌, subst, arith}
use Rattle.std.specs.Prelude.{slice_get}
use Rattle.std.proofs.lemmas.Bool.{cases_lt}
use Rattle.std.proofs.lemmas.List.Elements.{All-head, All-tail}
use Rattle.serde_json.specs.Data.{Data}
use Rattle.serde_json.specs.Read.{read}
use Rattle.cpt_task.specs.declared.plan.Occ.{Occ}
use Rattle.cpt_task.specs.Shape.{TaskShape}
use Rattle.cpt_json_form.specs.declared.errors.JsonPlanError.{JsonPlanError}
use Rattle.cpt_json_form.specs.declared.errors.JsonTaskError.{JsonTaskError}
use Rattle.cpt_json_form.specs.declared.item.PlanItem.{PlanItem}
use Rattle.cpt_json_form.specs.Reading.{AnswersForm, AnswersItems, IsValueOf, ReadsPlan, ReadsTask, occ_of}
use Rattle.cpt_json_form.specs.Steps.{Finds, IsFirstNot, Passes, PassesEach}
use Rattle.cpt_json_form.specs.Values.{plan_value, task_value}
use Rattle.cpt_json_form.proofs.Same.{same_plan, same_task}

-- at most one result
abbrev pub Once : {X E : Type 0} → (Result X E → Type 0) → Type 0
Once {X} {E} P = (r s : Result X E) → P r → P s → r ≡ s

pub finds_once : {A X E : Type 0} (P : A → Type 0) (e : E) (rest : A → Result X E → Type 0) → ((a b : A) → P a → P b → a ≡ b) → ((a : A) → Once (rest a)) → Once (Finds P e rest)
finds_once P e rest one each r s h k = elim h [
  | inl found ↦ elim k [
    | inl again ↦ each again.0 r s (subst (λ a. rest a r) (one found.0 again.0 found.1 again.1) found.2) again.2
    | inr none ↦ absurd (none.0 found.0 found.1)
  ]
  | inr none ↦ elim k [ inl found ↦ absurd (none.0 found.0 found.1) | inr again ↦ none.1 ∙ sym again.1 ]
]

pub passes_once : {X E : Type 0} (P : Type 0) (e : E) (rest : Result X E → Type 0) → Once rest → Once (Passes P e rest)
passes_once P e rest each r s h k = elim h [
  | inl passed ↦ elim k [ inl again ↦ each r s passed.1 again.1 | inr not ↦ absurd (not.0 passed.0) ]
  | inr not ↦ elim k [ inl passed ↦ absurd (not.0 passed.0) | inr again ↦ not.1 ∙ sym again.1 ]
]

some_is : {A : Type 0} (o : Option A) (x y : A) → o ≡ Some x → o ≡ Some y → x ≡ y
some_is o x y h k = cc

pub all_get : {A : Type 0} (P : A → Type 0) (xs : List A) (k : ℕ) (x : A) → All P xs → slice_get xs k ≡ Some x → P x
all_get P [] k x all h = absurd cc
all_get P (y ∷ ys) zero x all h = let same : y ≡ x = cc in subst P same (All-head P y ys all)
all_get P (y ∷ ys) (suc k) x all h = all_get P ys k x (All-tail P y ys all) h

one_first : {A : Type 0} (P : A → Type 0) (xs : List A) (j k : ℕ) → IsFirstNot P xs j → IsFirstNot P xs k → j ≡ k
one_first P xs j k a b = elim (cases_lt j k) [
  | inl low ↦ absurd (a.not (b.before j a.first low a.here))
  | inr high ↦ elim (cases_lt k j) [ inl low ↦ absurd (b.not (a.before k b.first low b.here)) | inr other ↦ omega arith ]
]

same_first : {A E : Type 0} (P : A → Type 0) (e : ℕ → A → E) (xs : List A) (j k : ℕ) (a : IsFirstNot P xs j) (b : IsFirstNot P xs k) → e j a.first ≡ e k b.first
same_first P e xs j k a b =
    let place = one_first P xs j k a b in
    let first = some_is (slice_get xs k) a.first b.first (ap (slice_get xs) (sym place) ∙ a.here) b.here in
    ap (λ n. e n a.first) place ∙ ap (e k) first

pub passes_each_once : {A X E : Type 0} (P : A → Type 0) (e : ℕ → A → E) (xs : List A) (rest : Result X E → Type 0) → Once rest → Once (PassesEach P e xs rest)
passes_each_once P e xs rest each r s h k = elim h [
  | inl passed ↦ elim k [ inl again ↦ each r s passed.1 again.1 | inr not ↦ absurd (not.1.not (all_get P xs not.0 not.1.first passed.0 not.1.here)) ]
  | inr not ↦ elim k [
    | inl passed ↦ absurd (not.1.not (all_get P xs not.0 not.1.first passed.0 not.1.here))
    | inr again ↦ not.2 ∙ ap Err (same_first P e xs not.0 again.0 not.1 again.1) ∙ sym again.2
  ]
]

is_once : {X E : Type 0} (y : Result X E) → Once (λ r. r ≡ y)
is_once y r s h k = h ∙ sym k

pub one_value : (text : List ℕ) (c d : Data) → IsValueOf text c → IsValueOf text d → c ≡ d
one_value text c d h k = some_is (read text) c d h.reads k.reads

answers_form_once : {X : Type 0} (t : TaskShape) (x : X) → Once (AnswersForm t x)
answers_form_once t x =
    passes_once _ _ _ (passes_once _ _ _ (passes_once _ _ _ (passes_once _ _ _ (passes_once _ _ _ (passes_once _ _ _ (is_once (Ok x)))))))

pub reads_task_once : (text : List ℕ) → Once (ReadsTask text)
reads_task_once text =
    finds_once (IsValueOf text) _ _ (one_value text) (λ d. finds_once (λ t. d ≡ task_value t) _ _ (λ t u h k. same_task t u (sym h ∙ k)) (λ t. answers_form_once t t))

answers_items_once : (t : TaskShape) (items : List PlanItem) → Once (AnswersItems t items)
answers_items_once t items = passes_each_once _ _ items _ (passes_once _ _ _ (passes_each_once _ _ items _ (is_once (Ok (map (occ_of t) items)))))

pub reads_plan_once : (t : TaskShape) (text : List ℕ) → Once (ReadsPlan t text)
reads_plan_once t text =
    finds_once (IsValueOf text) _ _ (one_value text) (λ d. finds_once (λ items. d ≡ plan_value items) _ _ (λ a b h k. same_plan a b (sym h ∙ k)) (λ items. answers_items_once t items))
