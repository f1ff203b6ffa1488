use Rattle.std.proofs.Common.{◌≡◌, ℕ, ◌<◌, ◌^◌, inl, inr, Bool, true, nat_lt, List, length, get_or, map, Result, Ok, Err, IsOk, All, refl, sym, ap, ◌∙◌, subst, arith}
use Rattle.std.proofs.lemmas.Bool.{ltb-true, lt-ltb}
use Rattle.std.proofs.lemmas.List.{length-map}
use Rattle.std.proofs.lemmas.List.Elements.{All-contains, All-map, All-weaker}
use Rattle.cpt_task.specs.declared.task.Action.{Action}
use Rattle.cpt_task.specs.Shape.{TaskShape, InBounds, HasAtomsBelow, IsDuration}
use Rattle.cpt_task.specs.declared.task.BuildError.{BuildError}
use Rattle.cpt_task.specs.declared.task.BuildError.TheVariants.{BadAtom, BadDuration}
use Rattle.cpt_task.specs.Building.{Builds, IsFault, made_of}
use Rattle.cpt_task.specs.Timeline.{idle}
use Rattle.cpt_task.proofs.BuildingLemmas.{none_bad, all_at}
use Rattle.cpt_reach.specs.Reached.{IsKeptAtom, IsKeptAction, action_at}
use Rattle.cpt_reach.specs.Kept.{IsListOf, IsKeptPart, renumbered, renumbered_action, name_at}
use Rattle.cpt_reach.specs.Marking.{is_marked, AllBelow, MarksReached, MarksToo, IsReady}
use Rattle.cpt_reach.proofs.ListLemmas.{list_as}
use Rattle.cpt_reach.proofs.Numbering.{renumbered-below}

-- what is marked with the goal too is the kept atoms
pub list_of_atoms : (t : TaskShape) (m m' : List Bool) (xs : List ℕ) → MarksReached t m → MarksToo t.goal m m' → IsListOf (λ p. is_marked m' p ≡ true) xs → IsListOf (IsKeptAtom t) xs
list_of_atoms t m m' xs reached too list = list_as (λ p. is_marked m' p ≡ true) (IsKeptAtom t) xs
    (λ p shown. elim (too.only p shown) [ inl old ↦ inl (reached.sound p old) | inr has ↦ inr has ])
    (λ p kept. elim kept [ inl r ↦ too.kept p (reached.whole p r) | inr has ↦ All-contains (λ q. is_marked m' q ≡ true) t.goal p too.marked has ])
    list

-- the ready actions are the kept ones
pub list_of_actions : (t : TaskShape) (m : List Bool) (xs : List ℕ) → MarksReached t m → IsListOf (IsReady t m) xs → IsListOf (IsKeptAction t) xs
list_of_actions t m xs reached list = list_as (IsReady t m) (IsKeptAction t) xs
    (λ a ready. (ready.0, λ k d lt. reached.sound _ (ready.1 k d lt)))
    (λ a kept. (kept.0, λ k d lt. reached.whole _ (kept.1 k d lt)))
    list

-- a task in bounds has no fault
no_fault : (t : TaskShape) (e : BuildError) → InBounds t → IsFault t e → ⊥
no_fault t (BadAtom k) fine h = none_bad t k fine.actions fine.init (inr fine.goal) h.here
no_fault t (BadDuration k) fine h = let bad = h.1.here in bad.2 (all_at (λ a. IsDuration a.dur) t.actions k bad.0 fine.durations bad.1)

-- so it is built
pub is_built : (t : TaskShape) (r : Result TaskShape BuildError) → InBounds t → Builds t r → IsOk r
is_built t (Ok built) fine h = refl
is_built t (Err e) fine h = absurd (no_fault t e fine h)

-- the task with these parts is the kept part
pub kept_part : (old : TaskShape) (atoms actions : List ℕ) (names : List (List ℕ)) (acts : List Action) (init goal : List ℕ) → IsListOf (IsKeptAtom old) atoms → IsListOf (IsKeptAction old) actions
    → names ≡ map (name_at old) atoms → acts ≡ map (λ a. renumbered_action atoms (action_at old a)) actions → init ≡ renumbered atoms old.init → goal ≡ renumbered atoms old.goal
    → IsKeptPart old atoms actions (made_of names acts init goal)
kept_part old atoms actions names acts init goal kept_atoms kept_actions a b c d =
    record { kept_atoms = kept_atoms; kept_actions = kept_actions; new_atoms = a; new_actions = b; new_init = c; new_goal = d }

-- the kept part of a task is in bounds
pub kept_in_bounds : (old new : TaskShape) (atoms actions : List ℕ) → InBounds old → IsKeptPart old atoms actions new → length atoms < 2 ^ 31 → length actions < 2 ^ 31 → InBounds new
kept_in_bounds old new atoms actions fine part few_atoms few_actions = record {
  few_atoms = omega (arith, size, few_atoms);
  few_actions = omega (arith, count, few_actions);
  actions = subst (All (HasAtomsBelow (length new.atoms))) (sym part.new_actions)
      (All-map (HasAtomsBelow (length new.atoms)) f actions (λ k d lt. record { pre = below _; add = below _; dele = below _ }));
  durations = subst (All (λ a. IsDuration a.dur)) (sym part.new_actions)
      (All-map (λ a. IsDuration a.dur) f actions (λ k d lt. fine.durations _ idle (part.kept_actions.sound k d lt).0));
  init = subst (AllBelow (length new.atoms)) (sym part.new_init) (below old.init);
  goal = subst (AllBelow (length new.atoms)) (sym part.new_goal) (below old.goal);
} where
  f : ℕ → Action
  f = λ a. renumbered_action atoms (action_at old a)

  size : length new.atoms ≡ length atoms
  size = ap length part.new_atoms ∙ length-map atoms (name_at old)

  count : length new.actions ≡ length actions
  count = ap length part.new_actions ∙ length-map actions (λ a. renumbered_action atoms (action_at old a))

  below : (xs : List ℕ) → AllBelow (length new.atoms) (renumbered atoms xs)
  below xs = subst (λ n. AllBelow n (renumbered atoms xs)) (sym (ap length part.new_atoms ∙ length-map atoms (name_at old))) (renumbered-below atoms xs)

-- kept atoms are atoms
pub atoms_below : (old : TaskShape) (atoms : List ℕ) → InBounds old → IsListOf (IsKeptAtom old) atoms → AllBelow (length old.atoms) atoms
atoms_below old atoms fine list = All-weaker (IsKeptAtom old) (λ p. p < length old.atoms) (kept_below old fine) atoms list.sound where
  in_range : TaskShape → ℕ → Bool
  in_range old p = nat_lt p (length old.atoms)

  all_in : (old : TaskShape) (xs : List ℕ) → AllBelow (length old.atoms) xs → All (λ p. in_range old p ≡ true) xs
  all_in old xs low k d lt = let h : get_or xs k d < length old.atoms = low k d lt in lt-ltb _ _ h

  kept_below : (old : TaskShape) → InBounds old → (p : ℕ) → IsKeptAtom old p → p < length old.atoms
  kept_below old fine p (inl r) = ltb-true p (length old.atoms) (r (in_range old) (record {
    initial = all_in old old.init fine.init;
    added = λ k d lt pre. all_in old _ (fine.actions k d lt).add;
  }))
  kept_below old fine p (inr has) = All-contains (λ q. q < length old.atoms) old.goal p fine.goal has
