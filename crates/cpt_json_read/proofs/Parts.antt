-- Forms part by part.
use Rattle.std.proofs.Common.{◌≡◌, ℕ, ◌≤◌, Bool, true, false, List, length, All, MatchBool, sym, subst, arith}
use Rattle.std.proofs.lemmas.List.Elements.{All-weaker}
use Rattle.cpt_task.specs.Building.{IsFault, made_of}
use Rattle.cpt_task.specs.Shape.{HasAtomsBelow, InBounds, IsDuration, TaskShape}
use Rattle.cpt_task.specs.declared.task.Action.{Action}
use Rattle.cpt_task.specs.declared.task.BuildError.{BuildError}
use Rattle.cpt_task_text.proofs.Whole.{never_faulty}
use Rattle.cpt_json_form.specs.Reading.{AreAtoms, HasAtoms, NamesAtoms}

-- the actions of a form
pub actions_atoms : (t : TaskShape) (atoms : List (List ℕ)) (actions : List Action) → atoms ≡ t.atoms → actions ≡ t.actions → NamesAtoms t → All (HasAtoms (length atoms)) actions
actions_atoms t atoms actions ea ec h = subst (All (HasAtoms (length atoms))) (sym ec) (subst (λ (xs : List (List ℕ)). All (HasAtoms (length xs)) t.actions) (sym ea) h.actions)

actions_back : (t : TaskShape) (atoms : List (List ℕ)) (actions : List Action) → atoms ≡ t.atoms → actions ≡ t.actions → All (HasAtoms (length atoms)) actions → All (HasAtoms (length t.atoms)) t.actions
actions_back t atoms actions ea ec h = subst (λ (xs : List (List ℕ)). All (HasAtoms (length xs)) t.actions) ea (subst (All (HasAtoms (length atoms))) ec h)

numbers_back : (atoms names : List (List ℕ)) (ns ms : List ℕ) → atoms ≡ names → ns ≡ ms → AreAtoms (length atoms) ns → AreAtoms (length names) ms
numbers_back atoms names ns ms ea en h = subst (λ (xs : List (List ℕ)). AreAtoms (length xs) ms) ea (subst (AreAtoms (length atoms)) en h)

pub init_atoms : (t : TaskShape) (atoms : List (List ℕ)) (init : List ℕ) → atoms ≡ t.atoms → init ≡ t.init → NamesAtoms t → AreAtoms (length atoms) init
init_atoms t atoms init ea ei h = numbers_back t.atoms atoms t.init init (sym ea) (sym ei) h.init

goal_atoms : (t : TaskShape) (atoms : List (List ℕ)) (goal : List ℕ) → atoms ≡ t.atoms → goal ≡ t.goal → NamesAtoms t → AreAtoms (length atoms) goal
goal_atoms t atoms goal ea eg h = numbers_back t.atoms atoms t.goal goal (sym ea) (sym eg) h.goal

-- the goal decides, where the rest is right
pub goal_decides : (t : TaskShape) (atoms : List (List ℕ)) (actions : List Action) (init goal : List ℕ) (r : Bool) → atoms ≡ t.atoms → actions ≡ t.actions → init ≡ t.init → goal ≡ t.goal
    → All (HasAtoms (length atoms)) actions → AreAtoms (length atoms) init → MatchBool r (AreAtoms (length atoms) goal) (AreAtoms (length atoms) goal → ⊥) → MatchBool r (NamesAtoms t) (NamesAtoms t → ⊥)
goal_decides t atoms actions init goal true ea ec ei eg a i g = record { actions = actions_back t atoms actions ea ec a; init = numbers_back atoms t.atoms init t.init ea ei i; goal = numbers_back atoms t.atoms goal t.goal ea eg g }
goal_decides t atoms actions init goal false ea ec ei eg a i g = λ h. g (goal_atoms t atoms goal ea eg h)

-- parts of a form in bounds make a task
pub makes : (t : TaskShape) (atoms : List (List ℕ)) (actions : List Action) (init goal : List ℕ) (e : BuildError) → atoms ≡ t.atoms → actions ≡ t.actions → init ≡ t.init → goal ≡ t.goal → InBounds t → IsFault (made_of atoms actions init goal) e → ⊥
makes t atoms actions init goal e ea ec ei eg bounds fault =
    let same : made_of atoms actions init goal ≡ t = λ i. record { atoms = ea i; actions = ec i; init = ei i; goal = eg i } in
    never_faulty t e bounds (subst (λ (u : TaskShape). IsFault u e) same fault)

below : (n : ℕ) (a : Action) → HasAtoms n a → HasAtomsBelow n a
below n a h = record { pre = h.pre.within; add = h.add.within; dele = h.dele.within }

-- a form within its limits is in bounds
pub bounds_of : (t : TaskShape) → length t.atoms ≤ 2048 → length t.actions ≤ 4096 → NamesAtoms t → All (λ a. IsDuration a.dur) t.actions → InBounds t
bounds_of t few_atoms few_actions h durations = record {
  few_atoms = omega (arith, few_atoms);
  few_actions = omega (arith, few_actions);
  actions = All-weaker (HasAtoms (length t.atoms)) (HasAtomsBelow (length t.atoms)) (below (length t.atoms)) t.actions h.actions;
  durations = durations;
  init = h.init.within;
  goal = h.goal.within;
}
