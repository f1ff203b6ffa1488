-- The task that a text is has a spelling, and each task that has one is read from its value.
use Rattle.std.proofs.Common.{◌≡◌, ℕ, ◌<◌, ◌≤◌, ◌^◌, ◌⊎◌, inl, inr, List, length, map, Result, Ok, Err, All, refl, sym, ap, ◌∙◌, subst, arith}
use Rattle.std.specs.Prelude.{slice_index_or}
use Rattle.std.proofs.lemmas.List.Elements.{All-map, All-weaker}
use Rattle.std.proofs.lemmas.List.{length-map}
use Rattle.serde_json.specs.Data.{Data}
use Rattle.cpt_task.specs.declared.memory.Limit.TheVariants.{Atoms, Actions, LongList, Start}
use Rattle.cpt_task.specs.declared.task.Action.{Action}
use Rattle.cpt_task.specs.declared.plan.Occ.{Occ}
use Rattle.cpt_task.specs.Judgeable.{IsJudgeable, IsJudgeableAt}
use Rattle.cpt_task.specs.Shape.{HasAtomsBelow, InBounds, IsDuration, TaskShape}
use Rattle.cpt_task_text.specs.Plain.{IsPlain, IsShortList}
use Rattle.cpt_task_text.specs.Plain as plain
use Rattle.cpt_plan_text.proofs.Finding.{knows_actions}
use Rattle.cpt_json_form.specs.declared.errors.JsonPlanError.{JsonPlanError}
use Rattle.cpt_json_form.specs.declared.errors.JsonTaskError.{JsonTaskError}
use Rattle.cpt_json_form.specs.declared.item.PlanItem.{PlanItem}
use Rattle.cpt_json_form.specs.Reading.{AnswersForm, AnswersItems, AreAtoms, HasAtoms, HasNames, HasShortLists, IsValueOf, NamesAction, NamesAtoms, ReadsPlan, ReadsTask, number_found, occ_of}
use Rattle.cpt_json_form.specs.Steps.{Finds, Passes, PassesEach}
use Rattle.cpt_json_form.specs.Values.{plan_value, task_value}
use Rattle.cpt_json_form.proofs.Counting.{plan_short}

-- what is asked of a form
pub record KeepsForm (t : TaskShape) : Type 0 where
  pub few_atoms : length t.atoms ≤ 2048
  pub few_actions : length t.actions ≤ 4096
  pub lists : All HasShortLists t.actions
  pub names : HasNames t
  pub numbers : NamesAtoms t
  pub durations : All (λ a. IsDuration a.dur) t.actions

passed : {P R N X E : Type 0} {x : X} {e : E} → ((P × R) ⊎ (N × (Ok x ≡ Err e))) → P × R
passed h = elim h [ inl good ↦ good | inr bad ↦ absurd (let e = bad.1 in cc) ]

found : {A N X E : Type 0} {P R : A → Type 0} {x : X} {e : E} → (((a : A) × P a × R a) ⊎ (N × (Ok x ≡ Err e))) → (a : A) × P a × R a
found h = elim h [ inl good ↦ good | inr bad ↦ absurd (let e = bad.1 in cc) ]

abbrev done : {X : Type 0} → X → Result X JsonTaskError
done x = Ok x

same_done : {X : Type 0} (x y : X) → done x ≡ done y → x ≡ y
same_done x y e = cc

-- what is answered of a form
pub form_answered : {X : Type 0} (t : TaskShape) (x y : X) → AnswersForm t x (Ok y) → KeepsForm t × (y ≡ x)
form_answered t x y h =
    let a = passed h in
    let b = passed a.1 in
    let c = passed b.1 in
    let d = passed c.1 in
    let e = passed d.1 in
    let f = passed e.1 in
    (record { few_atoms = a.0; few_actions = b.0; lists = c.0; names = d.0; numbers = e.0; durations = f.0 }, same_done y x f.1)

pub answers_form : {X : Type 0} (t : TaskShape) (x : X) → KeepsForm t → AnswersForm t x (Ok x)
answers_form t x k = inl (k.few_atoms, inl (k.few_actions, inl (k.lists, inl (k.names, inl (k.numbers, inl (k.durations, refl))))))

short_and_increasing : (n : ℕ) (a : Action) → HasShortLists a → HasAtoms n a → plain.HasShortLists a
short_and_increasing n a s h =
    record {
      pre = record { increasing = h.pre.increasing; short = s.pre };
      add = record { increasing = h.add.increasing; short = s.add };
      dele = record { increasing = h.dele.increasing; short = s.dele };
    }

below : (n : ℕ) (a : Action) → HasAtoms n a → HasAtomsBelow n a
below n a h = record { pre = h.pre.within; add = h.add.within; dele = h.dele.within }

pub plain_of : (t : TaskShape) → KeepsForm t → IsPlain t
plain_of t k = record {
  atoms = k.names.atoms;
  actions = k.names.actions;
  few_atoms = k.few_atoms;
  few_actions = k.few_actions;
  lists = (λ i d lt. short_and_increasing (length t.atoms) _ (k.lists i d lt) (k.numbers.actions i d lt));
  init = k.numbers.init.increasing;
  goal = k.numbers.goal.increasing;
  bounds = record {
    few_atoms = omega (arith, k.few_atoms);
    few_actions = omega (arith, k.few_actions);
    actions = All-weaker (HasAtoms (length t.atoms)) (HasAtomsBelow (length t.atoms)) (below (length t.atoms)) t.actions k.numbers.actions;
    durations = k.durations;
    init = k.numbers.init.within;
    goal = k.numbers.goal.within;
  };
}

short_of : (a : Action) → plain.HasShortLists a → HasShortLists a
short_of a h = record { pre = h.pre.short; add = h.add.short; dele = h.dele.short }

atoms_of : (n : ℕ) (a : Action) → plain.HasShortLists a → HasAtomsBelow n a → HasAtoms n a
atoms_of n a s h =
    record {
      pre = record { increasing = s.pre.increasing; within = h.pre };
      add = record { increasing = s.add.increasing; within = h.add };
      dele = record { increasing = s.dele.increasing; within = h.dele };
    }

pub form_of : (t : TaskShape) → IsPlain t → KeepsForm t
form_of t p = record {
  few_atoms = p.few_atoms;
  few_actions = p.few_actions;
  lists = All-weaker plain.HasShortLists HasShortLists short_of t.actions p.lists;
  names = record { atoms = p.atoms; actions = p.actions };
  numbers = record {
    actions = (λ i d lt. atoms_of (length t.atoms) _ (p.lists i d lt) (p.bounds.actions i d lt));
    init = record { increasing = p.init; within = p.bounds.init };
    goal = record { increasing = p.goal; within = p.bounds.goal };
  };
  durations = p.bounds.durations;
}

-- a task that is read is plain, and the text is its value
pub read_is_plain : (text : List ℕ) (t : TaskShape) → ReadsTask text (Ok t) → IsPlain t × IsValueOf text (task_value t)
read_is_plain text t h =
    let d = found h in
    let u = found d.2 in
    let a = form_answered u.0 u.0 t u.2 in
    let same : u.0 ≡ t = sym a.1 in
    (subst IsPlain same (plain_of u.0 a.0), subst (IsValueOf text) (u.1 ∙ ap task_value same) d.1)

-- and a plain task is read from each text of its value
pub plain_is_read : (text : List ℕ) (t : TaskShape) → IsPlain t → IsValueOf text (task_value t) → ReadsTask text (Ok t)
plain_is_read text t p h = inl (task_value t, h, inl (t, refl, answers_form t t (form_of t p)))

-- ---- plans

each_passed : {P R X E : Type 0} {B : ℕ → Type 0} {x : X} {e : (place : ℕ) → B place → E} → ((P × R) ⊎ ((place : ℕ) × (bad : B place) × (Ok x ≡ Err (e place bad)))) → P × R
each_passed h = elim h [ inl good ↦ good | inr bad ↦ absurd (let e = bad.2 in cc) ]

abbrev planned : List Occ → Result (List Occ) JsonPlanError
planned occs = Ok occs

same_planned : (x y : List Occ) → planned x ≡ planned y → x ≡ y
same_planned x y e = cc

judgeable_item : (t : TaskShape) (i : PlanItem) → NamesAction t i → i.start ≤ 1000000000 → IsJudgeableAt t (occ_of t i)
judgeable_item t i named early = (subst (λ f. number_found f < length t.actions) (sym named.1) (knows_actions t i.name named.0 named.1), omega (arith, early))

-- the occurrences of items that are answered can be judged, and are as many as the items
pub items_answered : (t : TaskShape) (items : List PlanItem) (occs : List Occ) → AnswersItems t items (Ok occs) → IsJudgeable t occs × (length occs ≡ length items)
items_answered t items occs h =
    let a = each_passed h in
    let b = passed a.1 in
    let c = each_passed b.1 in
    let same : map (occ_of t) items ≡ occs = sym (same_planned occs (map (occ_of t) items) c.1) in
    (subst (IsJudgeable t) same (All-map (IsJudgeableAt t) (occ_of t) items (λ i d lt. judgeable_item t (slice_index_or items i d) (a.0 i d lt) (b.0 i d lt))), ap length (sym same) ∙ length-map items (occ_of t))

-- and so can those of a plan that is read
pub plan_judgeable : (t : TaskShape) (text : List ℕ) (occs : List Occ) → ReadsPlan t text (Ok occs) → IsJudgeable t occs × (length occs ≤ length text)
plan_judgeable t text occs h =
    let d = found h in
    let u = found d.2 in
    let a = items_answered t u.0 occs u.2 in
    let short = plan_short text u.0 (subst (IsValueOf text) u.1 d.1) in
    (a.0, omega (arith, short, a.1))
