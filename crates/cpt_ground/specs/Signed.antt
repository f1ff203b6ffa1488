use Rattle.std.specs.Prelude.{◌≡◌, ℕ, ◌+◌, ◌<◌, ◌≤◌, ◌⊎◌, max, zero, suc, Bool, true, false, ◌&&◌, ◌||◌, not, nat_eq, ◌==◌, List, [], ◌∷◌, length, All, slice_index_or}
use Rattle.std.specs.List.{list_any}
use Rattle.std.specs.Cmp.Lexicographic.{pointwise}
use Rattle.cpt_facts.specs.declared.problem.Fact.{Fact}
use Rattle.cpt_task.specs.declared.plan.Occ.{Occ}
use Rattle.cpt_task.specs.Timeline.{occurrence_at}
-- actions that need atoms present and atoms absent, and a task of them
pub use Rattle.cpt_ground.specs.declared.signed.SignedAction.{SignedAction}
pub use Rattle.cpt_ground.specs.declared.signed.Signed.{Signed}

-- two ground atoms are one
abbrev pub same_fact : Fact → Fact → Bool
same_fact a b = (a.pred == b.pred) && pointwise nat_eq a.args b.args

-- an atom is in a list
abbrev pub has : List Fact → Fact → Bool
has xs f = list_any (same_fact f) xs

-- an action that does nothing
abbrev pub signed_idle : SignedAction
signed_idle = record { name = []; dur = 0; present = []; absent = []; add = []; dele = [] }

-- the action of an occurrence
abbrev pub signed_action_of : Signed → Occ → SignedAction
signed_action_of s o = slice_index_or s.actions o.act signed_idle

-- when an occurrence ends
abbrev pub signed_end_of : Signed → Occ → ℕ
signed_end_of s o = o.start + (signed_action_of s o).dur

-- an occurrence of an action of the task
abbrev pub IsSignedOccurrence : Signed → Occ → Type 0
IsSignedOccurrence s o = o.act < length s.actions

-- the greatest end, and 0 for the empty plan
abbrev pub signed_makespan : Signed → List Occ → ℕ
signed_makespan s [] = 0
signed_makespan s (o ∷ os) = max (signed_end_of s o) (signed_makespan s os)

-- some atom is in both lists
abbrev pub ShareAtom : List Fact → List Fact → Type 0
ShareAtom xs ys = (f : Fact) × (has xs f ≡ true) × (has ys f ≡ true)

-- a deletes an atom that b needs present or adds, or adds one that b needs absent
abbrev pub SignedDisturbs : SignedAction → SignedAction → Type 0
SignedDisturbs a b = ShareAtom a.dele b.present ⊎ ShareAtom a.dele b.add ⊎ ShareAtom a.add b.absent

-- one of the two disturbs the other
abbrev pub SignedInterferes : SignedAction → SignedAction → Type 0
SignedInterferes a b = SignedDisturbs a b ⊎ SignedDisturbs b a

-- each starts before the other ends
pub record SignedOverlaps (s : Signed) (o q : Occ) : Type 0 where
  pub first : o.start < signed_end_of s q
  pub second : q.start < signed_end_of s o

-- the occurrences at two places overlap and interfere
pub record SignedClashes (s : Signed) (plan : List Occ) (i j : ℕ) : Type 0 where
  pub overlap : SignedOverlaps s (occurrence_at plan i) (occurrence_at plan j)
  pub interfere : SignedInterferes (signed_action_of s (occurrence_at plan i)) (signed_action_of s (occurrence_at plan j))

-- no two occurrences at different places overlap and interfere
abbrev pub SignedApart : Signed → List Occ → Type 0
SignedApart s plan = (i j : ℕ) → i < j → j < length plan → SignedClashes s plan i j → ⊥

-- some occurrence that ends at that moment adds the atom
abbrev pub signed_adds_at : Signed → List Occ → ℕ → Fact → Bool
signed_adds_at s plan time f = list_any (λ o. nat_eq (signed_end_of s o) time && has (signed_action_of s o).add f) plan

-- some occurrence that ends at that moment deletes the atom
abbrev pub signed_deletes_at : Signed → List Occ → ℕ → Fact → Bool
signed_deletes_at s plan time f = list_any (λ o. nat_eq (signed_end_of s o) time && has (signed_action_of s o).dele f) plan

-- The state timeline: whether the atom holds at that moment. At 0 the initial atoms hold. Later what held
-- the moment before, without what the occurrences that end now delete, and then with what they add.
abbrev pub signed_holds_at : Signed → List Occ → ℕ → Fact → Bool
signed_holds_at s plan zero f = has s.init f
signed_holds_at s plan (suc time) f =
    (signed_holds_at s plan time f && not (signed_deletes_at s plan (suc time) f)) || signed_adds_at s plan (suc time) f

-- the atom holds, or does not, at each moment from the first on and before the second
abbrev pub IsThroughout : Signed → List Occ → ℕ → ℕ → Bool → Fact → Type 0
IsThroughout s plan from to value f = (time : ℕ) → from ≤ time → time < to → signed_holds_at s plan time f ≡ value

-- from the start of the occurrence to its end minus 1 each atom that it needs present holds, and none that it needs absent
pub record SignedMet (s : Signed) (plan : List Occ) (o : Occ) : Type 0 where
  pub present : All (IsThroughout s plan o.start (signed_end_of s o) true) (signed_action_of s o).present
  pub absent : All (IsThroughout s plan o.start (signed_end_of s o) false) (signed_action_of s o).absent

-- the plan executes on the state timeline and reaches the goal
pub record IsValidSigned (s : Signed) (plan : List Occ) : Type 0 where
  pub of_task : All (IsSignedOccurrence s) plan
  pub apart : SignedApart s plan
  pub met : All (SignedMet s plan) plan
  pub goal : All (λ f. signed_holds_at s plan (signed_makespan s plan) f ≡ true) s.goal
  pub absent : All (λ f. signed_holds_at s plan (signed_makespan s plan) f ≡ false) s.absent
