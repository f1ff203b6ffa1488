use Rattle.std.proofs.Common.{◌≡◌, ℕ, ◌+◌, ◌<◌, ◌≤◌, ◌^◌, true, List, [], ◌∷◌, length, map, All, Option, None, Some, refl, sym, ap, ◌∙◌, subst, arith}
use Rattle.std.specs.Prelude.{slice_index_or}
use Rattle.std.specs.List.{cons_option}
use Rattle.std.specs.List.Sorted.{IsStrictlyIncreasing}
use Rattle.std.proofs.lemmas.List.{get_or-map, length-map}
use Rattle.std.proofs.lemmas.List.Elements.{All-map, All-weaker}
use Rattle.std.proofs.lemmas.Simd.{map-map}
use Rattle.std.proofs.Math.ListN as ListN
use Rattle.cpt_line.specs.Names.{AreNames, is_name}
use Rattle.cpt_task.specs.declared.task.Action.{Action}
use Rattle.cpt_task.specs.Shape.{TaskShape, InBounds}
use Rattle.cpt_task.specs.Timeline.{idle}
use Rattle.cpt_task_text.specs.Plain.{HasShortLists, IsPlain, IsShortList, names_of}
use Rattle.cpt_reach.specs.Reached.{IsKeptAction, action_at}
use Rattle.cpt_reach.specs.Kept.{IsKeptPart, name_at, new_number, renumbered, renumbered_action}
use Rattle.cpt_reach.proofs.KeptLemmas.{atoms_below, kept_in_bounds}
use Rattle.cpt_reach.proofs.Numbering.{renumbered-increasing, strictly_less}

-- a task that is plain but for the numbers of its atoms and actions
pub record IsTidy (t : TaskShape) : Type 0 where
  pub atoms : AreNames t.atoms
  pub actions : AreNames (names_of t.actions)
  pub lists : All HasShortLists t.actions
  pub init : IsStrictlyIncreasing t.init
  pub goal : IsStrictlyIncreasing t.goal
  pub bounds : InBounds t

-- names that stand at increasing places among legal and different ones
names_kept : (names news : List (List ℕ)) (kept : List ℕ) (f : ℕ → List ℕ) → ((k : ℕ) → f k ≡ slice_index_or names k []) → news ≡ map f kept → IsStrictlyIncreasing kept → All (λ k. k < length names) kept
    → AreNames names → AreNames news
names_kept names news kept f reads made rising below good =
    subst AreNames (sym made)
    (record {
      legal = All-map (λ name. is_name name ≡ true) f kept (λ k d lt. subst (λ name. is_name name ≡ true) (sym (reads (slice_index_or kept k d))) (good.legal (slice_index_or kept k d) [] (below k d lt)));
      distinct = λ i j less lt e.
          let size : length (map f kept) ≡ length kept = length-map kept f in
          let j_lt : j < length kept = omega (arith, size, lt) in
          let i_lt : i < length kept = omega (arith, less, j_lt) in
          let at_i : slice_index_or (map f kept) i [] ≡ slice_index_or names (slice_index_or kept i 0) [] = get_or-map f kept i 0 [] i_lt ∙ reads (slice_index_or kept i 0) in
          let at_j : slice_index_or (map f kept) j [] ≡ slice_index_or names (slice_index_or kept j 0) [] = get_or-map f kept j 0 [] j_lt ∙ reads (slice_index_or kept j 0) in
          good.distinct (slice_index_or kept i 0) (slice_index_or kept j 0) (strictly_less kept rising i j less j_lt) (below j 0 j_lt) (sym at_i ∙ e ∙ at_j);
    })

-- renumbering leaves no more numbers
cons_shorter : (x : Option ℕ) (rest : List ℕ) (n : ℕ) → length rest ≤ n → length (cons_option x rest) ≤ n + 1
cons_shorter None rest n h = omega (arith, h)
cons_shorter (Some y) rest n h = omega (arith, h)

renumbered_shorter : (kept xs : List ℕ) → length (renumbered kept xs) ≤ length xs
renumbered_shorter kept [] = omega arith
renumbered_shorter kept (x ∷ xs) = let h = cons_shorter (new_number kept x) (renumbered kept xs) (length xs) (renumbered_shorter kept xs) in omega (arith, h)

short_kept : (most : ℕ) (kept xs : List ℕ) → IsStrictlyIncreasing kept → IsShortList most xs → IsShortList most (renumbered kept xs)
short_kept most kept xs rising h = record {
  increasing = renumbered-increasing kept rising xs h.increasing;
  short = omega (arith, renumbered_shorter kept xs, h.short);
}

lists_kept : (kept : List ℕ) (a : Action) → IsStrictlyIncreasing kept → HasShortLists a → HasShortLists (renumbered_action kept a)
lists_kept kept a rising h = record {
  pre = short_kept 64 kept a.pre rising h.pre;
  add = short_kept 128 kept a.add rising h.add;
  dele = short_kept 128 kept a.dele rising h.dele;
}

-- the actions of the kept part
kept_actions_named : (old new : TaskShape) (atoms actions : List ℕ) → AreNames (names_of old.actions) → IsKeptPart old atoms actions new → AreNames (names_of new.actions)
kept_actions_named old new atoms actions names part =
    let f : ℕ → List ℕ = λ k. (action_at old k).name in
    let g : Action → List ℕ = λ a. a.name in
    let size : length (names_of old.actions) ≡ length old.actions = length-map old.actions g in
    let below : All (λ k. k < length (names_of old.actions)) actions = All-weaker (IsKeptAction old) (λ k. k < length (names_of old.actions)) (λ k kept. subst (λ n. k < n) (sym size) kept.0) actions part.kept_actions.sound in
    names_kept (names_of old.actions) (names_of new.actions) actions f (λ k. sym (action_name old k))
    (ap names_of part.new_actions ∙ map-map g (λ k. renumbered_action atoms (action_at old k)) actions) part.kept_actions.increasing below names
  where
    action_name : (old : TaskShape) (k : ℕ) → slice_index_or (names_of old.actions) k [] ≡ (action_at old k).name
    action_name old k = ListN.get_or-map (λ (a : Action). a.name) old.actions k idle

-- the kept part of a tidy task is plain, where it is small enough
pub kept_plain : (old new : TaskShape) (atoms actions : List ℕ) → IsTidy old → IsKeptPart old atoms actions new → length atoms ≤ 2048 → length actions ≤ 4096 → IsPlain new
kept_plain old new atoms actions tidy part few_atoms few_actions =
    let many : length atoms < 2 ^ 31 = omega (arith, few_atoms) in
    let much : length actions < 2 ^ 31 = omega (arith, few_actions) in
    let new_size : length new.atoms ≡ length atoms = ap length part.new_atoms ∙ length-map atoms (name_at old) in
    let new_count : length new.actions ≡ length actions = ap length part.new_actions ∙ length-map actions (λ a. renumbered_action atoms (action_at old a)) in
    record {
      atoms = names_kept old.atoms new.atoms atoms (name_at old) (λ k. refl) part.new_atoms part.kept_atoms.increasing (atoms_below old atoms tidy.bounds part.kept_atoms) tidy.atoms;
      actions = kept_actions_named old new atoms actions tidy.actions part;
      few_atoms = omega (arith, new_size, few_atoms);
      few_actions = omega (arith, new_count, few_actions);
      lists = subst (All HasShortLists) (sym part.new_actions)
          (All-map HasShortLists (λ a. renumbered_action atoms (action_at old a)) actions
          (λ k d lt. lists_kept atoms (action_at old (slice_index_or actions k d)) part.kept_atoms.increasing (tidy.lists (slice_index_or actions k d) idle (part.kept_actions.sound k d lt).0)));
      init = subst IsStrictlyIncreasing (sym part.new_init) (renumbered-increasing atoms part.kept_atoms.increasing old.init tidy.init);
      goal = subst IsStrictlyIncreasing (sym part.new_goal) (renumbered-increasing atoms part.kept_atoms.increasing old.goal tidy.goal);
      bounds = kept_in_bounds old new atoms actions tidy.bounds part many much;
    }
