use Rattle.std.proofs.Common.{◌≡◌, ℕ, ◌+◌, ◌<◌, inl, inr, Some, unwrap_or, List, length, get_or, All, Contains, refl, sym, ap, ◌∙◌}
use Rattle.std.specs.List.Sorted.{IsStrictlyIncreasing}
use Rattle.std.proofs.lemmas.List.{get_or-map}
use Rattle.std.proofs.lemmas.List.Elements.{All-contains}
use Rattle.cpt_task.specs.declared.task.Action.{Action}
use Rattle.cpt_task.specs.declared.plan.Occ.{Occ}
use Rattle.cpt_task.specs.Shape.{TaskShape}
use Rattle.cpt_task.specs.Interference.{Shares, Disturbs, Interferes}
use Rattle.cpt_task.specs.Timeline.{action_of, end_of, idle}
use Rattle.cpt_reach.specs.Reached.{IsKeptAtom, IsKeptAction, action_at}
use Rattle.cpt_reach.specs.Kept.{IsListOf, new_number, renumbered, renumbered_action, IsKeptPart}
use Rattle.cpt_reach.specs.Plans.{renumbered_occurrence}
use Rattle.cpt_reach.proofs.Numbering.{new_number-at, new_number-found, at-new_number, is_in-renumbered, renumbered-below, contains_from_in, in_from_contains}
use Rattle.cpt_reach.proofs.Reaching.{reached_is_least}

-- what is in two lists is in their renumbered ones, where one of them is kept
pub shares_new : (kept : List ℕ) → IsStrictlyIncreasing kept → (xs ys : List ℕ) → All (Contains kept) ys → Shares xs ys → Shares (renumbered kept xs) (renumbered kept ys)
shares_new kept inc xs ys all (p, left, right) =
    let found = new_number-found kept inc p (All-contains (Contains kept) ys p all right) in
    let same_in : (zs : List ℕ) → Contains zs p → Contains (renumbered kept zs) found.0 = λ zs has. contains_from_in found.0 (renumbered kept zs) (is_in-renumbered kept p found.0 found.1 zs ∙ in_from_contains p zs has) in
    (found.0, same_in xs left, same_in ys right)

-- what is in two renumbered lists stands for what is in both
pub shares_old : (kept : List ℕ) → IsStrictlyIncreasing kept → (xs ys : List ℕ) → Shares (renumbered kept xs) (renumbered kept ys) → Shares xs ys
shares_old kept inc xs ys (i, left, right) =
    let lt : i < length kept = All-contains (λ j. j < length kept) (renumbered kept xs) i (renumbered-below kept xs) left in
    let p = get_or kept i 0 in
    let e : new_number kept p ≡ Some i = new_number-at kept inc i p lt refl in
    let same_in : (zs : List ℕ) → Contains (renumbered kept zs) i → Contains zs p = λ zs has. contains_from_in p zs (sym (is_in-renumbered kept p i e zs) ∙ in_from_contains i (renumbered kept zs) has) in
    (p, same_in xs left, same_in ys right)

-- what the action needs and adds is kept
pub record IsCovered (kept : List ℕ) (a : Action) : Type 0 where
  pub pre : All (Contains kept) a.pre
  pub add : All (Contains kept) a.add

disturbs_new : (kept : List ℕ) → IsStrictlyIncreasing kept → (a b : Action) → IsCovered kept b → Disturbs a b → Disturbs (renumbered_action kept a) (renumbered_action kept b)
disturbs_new kept inc a b cover (inl h) = inl (shares_new kept inc a.dele b.pre cover.pre h)
disturbs_new kept inc a b cover (inr h) = inr (shares_new kept inc a.dele b.add cover.add h)

disturbs_old : (kept : List ℕ) → IsStrictlyIncreasing kept → (a b : Action) → Disturbs (renumbered_action kept a) (renumbered_action kept b) → Disturbs a b
disturbs_old kept inc a b (inl h) = inl (shares_old kept inc a.dele b.pre h)
disturbs_old kept inc a b (inr h) = inr (shares_old kept inc a.dele b.add h)

-- renumbered actions interfere exactly where the actions do
pub interferes_new : (kept : List ℕ) → IsStrictlyIncreasing kept → (a b : Action) → IsCovered kept a → IsCovered kept b → Interferes a b → Interferes (renumbered_action kept a) (renumbered_action kept b)
interferes_new kept inc a b ca cb (inl h) = inl (disturbs_new kept inc a b cb h)
interferes_new kept inc a b ca cb (inr h) = inr (disturbs_new kept inc b a ca h)

pub interferes_old : (kept : List ℕ) → IsStrictlyIncreasing kept → (a b : Action) → Interferes (renumbered_action kept a) (renumbered_action kept b) → Interferes a b
interferes_old kept inc a b (inl h) = inl (disturbs_old kept inc a b h)
interferes_old kept inc a b (inr h) = inr (disturbs_old kept inc b a h)

-- a kept action is covered
pub kept_is_covered : (old : TaskShape) (atoms : List ℕ) → IsListOf (IsKeptAtom old) atoms → (a : ℕ) → IsKeptAction old a → IsCovered atoms (action_at old a)
kept_is_covered old atoms list a kept = record {
  pre = λ k d lt. list.whole _ (inl (kept.1 k d lt));
  add = λ k d lt. list.whole _ (inl ((reached_is_least old).added a idle kept.0 kept.1 k d lt));
}

-- the new number of a kept action, which is the place of its action
pub place_of_action : (old new : TaskShape) (atoms actions : List ℕ) → IsKeptPart old atoms actions new → (o : Occ) → IsKeptAction old o.act
    → (i : ℕ) × (new_number actions o.act ≡ Some i) × (i < length actions)
place_of_action old new atoms actions part o kept =
    let found = new_number-found actions part.kept_actions.increasing o.act (part.kept_actions.whole o.act kept) in
    (found.0, found.1, (at-new_number actions o.act found.0 found.1).0)

-- the action of a renumbered occurrence is the renumbered action
pub action_of-renumbered : (old new : TaskShape) (atoms actions : List ℕ) → IsKeptPart old atoms actions new → (o : Occ) → IsKeptAction old o.act
    → action_of new (renumbered_occurrence actions o) ≡ renumbered_action atoms (action_of old o)
action_of-renumbered old new atoms actions part o kept =
    let found = place_of_action old new atoms actions part o kept in
    let i = found.0 in
    let number : unwrap_or (new_number actions o.act) 0 ≡ i = ap (λ n. unwrap_or n 0) found.1 in
    let here : get_or actions i 0 ≡ o.act = (at-new_number actions o.act i found.1).1 in
    let f : ℕ → Action = λ a. renumbered_action atoms (action_at old a) in
    ap (λ n. get_or new.actions n idle) number ∙ ap (λ xs. get_or xs i idle) part.new_actions ∙ get_or-map f actions i 0 idle found.2 ∙ ap f here

pub end_of-renumbered : (old new : TaskShape) (atoms actions : List ℕ) → IsKeptPart old atoms actions new → (o : Occ) → IsKeptAction old o.act
    → end_of new (renumbered_occurrence actions o) ≡ end_of old o
end_of-renumbered old new atoms actions part o kept = ap (λ (a : Action). o.start + a.dur) (action_of-renumbered old new atoms actions part o kept)
