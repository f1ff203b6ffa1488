use Rattle.std.proofs.Common.{◌≡◌, ℕ, zero, suc, ◌+◌, ◌<◌, Bool, true, false, cond, List, [], ◌∷◌, length, refl, sym, subst, ap, ◌∙◌, arith, add-zero, zero-add}
use Rattle.std.specs.Str.{bytes_eq}
use Rattle.std.proofs.lemmas.Bool.{false≢true}
use Rattle.std.proofs.lemmas.Slice.Eq.{bytes_eq-Decides}
use Rattle.cpt_task.specs.Building.{IsFirst}
use Rattle.cpt_task.specs.declared.task.Action.{Action}
use Rattle.cpt_task.specs.Shape.{TaskShape}
use Rattle.cpt_plan_text.specs.declared.roster.Found.{Found}
use Rattle.cpt_plan_text.specs.declared.roster.Found.TheVariants.{Known, Unreachable, Unknown}
use Rattle.cpt_plan_text.specs.Knowing.{action_named, task_finds, HasName, KnowsActions}

-- what an answer says of actions of which the first has number k
abbrev pub Says : List Action → ℕ → List ℕ → Found → Type 0
Says actions k name (Known act) = (j : ℕ) × (act ≡ k + j) × IsFirst (HasName actions name) j
Says actions k name (Unreachable d) = ⊥
Says actions k name Unknown = (j : ℕ) → HasName actions name j → ⊥

first_says : (a : Action) (more : List Action) (k : ℕ) (name : List ℕ) → bytes_eq a.name name ≡ true → Says (a ∷ more) k name (Known k)
first_says a more k name e = (0, sym (add-zero k), record { here = (omega arith, (bytes_eq-Decides a.name name).0 e); none_before = λ j lt h. omega arith })

not_first : (a : Action) (more : List Action) (name : List ℕ) → bytes_eq a.name name ≡ false → (P : (j : ℕ) → HasName more name j → ⊥) → (j : ℕ) → HasName (a ∷ more) name j → ⊥
not_first a more name e P zero h = false≢true (sym e ∙ (bytes_eq-Decides a.name name).1 h.1)
not_first a more name e P (suc j) h = P j (omega (arith, h.0), h.1)

none_up_to : (a : Action) (more : List Action) (name : List ℕ) (n : ℕ) → bytes_eq a.name name ≡ false → ((j : ℕ) → j < n → HasName more name j → ⊥) → (j : ℕ) → j < suc n → HasName (a ∷ more) name j → ⊥
none_up_to a more name n e P zero lt h = false≢true (sym e ∙ (bytes_eq-Decides a.name name).1 h.1)
none_up_to a more name n e P (suc j) lt h = P j (omega arith) (omega (arith, h.0), h.1)

later_says : (a : Action) (more : List Action) (k : ℕ) (name : List ℕ) (found : Found) → bytes_eq a.name name ≡ false → Says more (k + 1) name found → Says (a ∷ more) k name found
later_says a more k name (Known act) e s =
    let is : act ≡ k + 1 + s.0 = s.1 in
    let first = s.2 in
    let low : s.0 < length more = first.here.0 in
    (suc s.0, omega arith, record { here = (omega arith, first.here.1); none_before = none_up_to a more name s.0 e first.none_before })
later_says a more k name (Unreachable d) e s = absurd s
later_says a more k name Unknown e s = not_first a more name e s

says_by : (a : Action) (more : List Action) (k : ℕ) (name : List ℕ) (t : Bool) (found : Found) → bytes_eq a.name name ≡ t → Says more (k + 1) name found → Says (a ∷ more) k name (cond t (Known k) found)
says_by a more k name true found e s = first_says a more k name e
says_by a more k name false found e s = later_says a more k name found e s

says : (actions : List Action) (k : ℕ) (name : List ℕ) → Says actions k name (action_named actions k name)
says [] k name = λ j h. omega (arith, h.0)
says (a ∷ more) k name = says_by a more k name (bytes_eq a.name name) (action_named more (k + 1) name) refl (says more (k + 1) name)

task_says : (t : TaskShape) (name : List ℕ) (found : Found) → task_finds t name ≡ found → Says t.actions 0 name found
task_says t name found e = subst (Says t.actions 0 name) e (says t.actions 0 name)

-- a known action is the first of its name
pub known_first : (t : TaskShape) (name : List ℕ) (act : ℕ) → task_finds t name ≡ Known act → IsFirst (HasName t.actions name) act
known_first t name act e =
    let s = task_says t name (Known act) e in
    let is : s.0 ≡ act = sym (zero-add s.0) ∙ sym s.1 in
    subst (IsFirst (HasName t.actions name)) is s.2

same_first : (P : ℕ → Type 0) (i j : ℕ) → IsFirst P i → IsFirst P j → (i < j → ⊥) × (j < i → ⊥)
same_first P i j f g = (λ lt. g.none_before i lt f.here, λ lt. f.none_before j lt g.here)

first_says_known : (t : TaskShape) (name : List ℕ) (act : ℕ) (found : Found) → IsFirst (HasName t.actions name) act → Says t.actions 0 name found → found ≡ Known act
first_says_known t name act (Known other) first s =
    let apart = same_first (HasName t.actions name) act s.0 first s.2 in
    let is : other ≡ 0 + s.0 = s.1 in
    ap Known (omega (arith, apart.0, apart.1))
first_says_known t name act (Unreachable d) first s = absurd s
first_says_known t name act Unknown first s = absurd (s act first.here)

-- the first action of a name is known by it
pub first_known : (t : TaskShape) (name : List ℕ) (act : ℕ) → IsFirst (HasName t.actions name) act → task_finds t name ≡ Known act
first_known t name act first = first_says_known t name act (task_finds t name) first (says t.actions 0 name)

-- an unknown name is that of no action
pub unknown_none : (t : TaskShape) (name : List ℕ) → task_finds t name ≡ Unknown → (act : ℕ) → HasName t.actions name act → ⊥
unknown_none t name e = task_says t name Unknown e

none_says_unknown : (t : TaskShape) (name : List ℕ) (found : Found) → ((act : ℕ) → HasName t.actions name act → ⊥) → Says t.actions 0 name found → found ≡ Unknown
none_says_unknown t name (Known act) none s = absurd (none s.0 s.2.here)
none_says_unknown t name (Unreachable d) none s = absurd s
none_says_unknown t name Unknown none s = refl

-- the name of no action is unknown
pub none_unknown : (t : TaskShape) (name : List ℕ) → ((act : ℕ) → HasName t.actions name act → ⊥) → task_finds t name ≡ Unknown
none_unknown t name none = none_says_unknown t name (task_finds t name) none (says t.actions 0 name)

-- a task knows its actions alone
pub knows_actions : (t : TaskShape) → KnowsActions (task_finds t) (length t.actions)
knows_actions t = λ name act e. (known_first t name act e).here.0
