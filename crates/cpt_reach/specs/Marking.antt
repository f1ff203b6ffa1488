use Rattle.std.specs.Prelude.{◌≡◌, ℕ, ◌+◌, ◌*◌, ◌<◌, ◌≤◌, ◌⊎◌, Bool, true, false, List, [], ◌∷◌, length, All, Contains, slice_index_or}
use Rattle.cpt_task.specs.declared.task.Action.{Action}
use Rattle.cpt_task.specs.Shape.{TaskShape}
use Rattle.cpt_reach.specs.Reached.{IsReached, action_at}

-- whether the number is marked
abbrev pub is_marked : List Bool → ℕ → Bool
is_marked marks p = slice_index_or marks p false

-- each number of the list is marked
abbrev pub AreMarked : List Bool → List ℕ → Type 0
AreMarked marks xs = All (λ p. is_marked marks p ≡ true) xs

-- some number of the list is not marked
abbrev pub HasUnmarked : List Bool → List ℕ → Type 0
HasUnmarked marks xs = (p : ℕ) × Contains xs p × (is_marked marks p ≡ false)

-- how many numbers are not marked
abbrev pub unmarked : List Bool → ℕ
unmarked [] = 0
unmarked (true ∷ marks) = unmarked marks
unmarked (false ∷ marks) = unmarked marks + 1

-- the work that is left: each number that is not marked counts twice, and each on the agenda once
abbrev pub work : List Bool → List ℕ → ℕ
work marks agenda = 2 * unmarked marks + length agenda

-- the number is not marked, or its users are still to be looked at
abbrev pub IsOpen : List Bool → List ℕ → ℕ → Type 0
IsOpen marks agenda p = (is_marked marks p ≡ false) ⊎ Contains agenda p

-- what the action adds is marked, or some precondition is open
abbrev pub IsSettled : List Bool → List ℕ → Action → Type 0
IsSettled marks agenda a = AreMarked marks a.add ⊎ ((p : ℕ) × Contains a.pre p × IsOpen marks agenda p)

-- only reached atoms are marked
abbrev pub IsSound : TaskShape → List Bool → Type 0
IsSound t marks = (p : ℕ) → is_marked marks p ≡ true → IsReached t p

-- the numbers are below n
abbrev pub AllBelow : ℕ → List ℕ → Type 0
AllBelow n xs = All (λ p. p < n) xs

-- marks stay, what was open stays open, and the work does not grow
pub record Grows (marks : List Bool) (agenda : List ℕ) (marks' : List Bool) (agenda' : List ℕ) : Type 0 where
  pub size : length marks' ≡ length marks
  pub kept : (p : ℕ) → is_marked marks p ≡ true → is_marked marks' p ≡ true
  pub open_still : (p : ℕ) → IsOpen marks agenda p → IsOpen marks' agenda' p
  pub below : AllBelow (length marks) agenda → AllBelow (length marks) agenda'
  pub no_more_work : work marks' agenda' ≤ work marks agenda

-- the numbers of the list are marked, and no other than were marked before
pub record MarksAll (xs : List ℕ) (marks : List Bool) (agenda : List ℕ) (marks' : List Bool) (agenda' : List ℕ) : Type 0 where
  pub grows : Grows marks agenda marks' agenda'
  pub marked : AreMarked marks' xs
  pub only : (p : ℕ) → is_marked marks' p ≡ true → (is_marked marks p ≡ true) ⊎ Contains xs p

-- the actions of these numbers are settled
pub record Settles (t : TaskShape) (among : ℕ → Type 0) (marks : List Bool) (agenda : List ℕ) (marks' : List Bool) (agenda' : List ℕ) : Type 0 where
  pub grows : Grows marks agenda marks' agenda'
  pub sound : IsSound t marks → IsSound t marks'
  pub settled : (a : ℕ) → among a → IsSettled marks' agenda' (action_at t a)

-- the row of a number
abbrev pub row_at : List (List ℕ) → ℕ → List ℕ
row_at rows p = slice_index_or rows p []

-- action a was added to the rows of these numbers
pub record AddsUses (a : ℕ) (xs : List ℕ) (old new : List (List ℕ)) : Type 0 where
  pub size : length new ≡ length old
  pub kept : (p b : ℕ) → Contains (row_at old p) b → Contains (row_at new p) b
  pub added : (p : ℕ) → Contains xs p → Contains (row_at new p) a
  pub only : (p b : ℕ) → Contains (row_at new p) b → Contains (row_at old p) b ⊎ (b ≡ a)

-- the row of an atom has each action before the one of that number that needs the atom, and no other number from there on
pub record IsUsersUpTo (t : TaskShape) (before : ℕ) (rows : List (List ℕ)) : Type 0 where
  pub size : length rows ≡ length t.atoms
  pub whole : (a p : ℕ) → a < before → Contains (action_at t a).pre p → Contains (row_at rows p) a
  pub within : (p a : ℕ) → Contains (row_at rows p) a → a < before

-- the row of an atom has each action that needs it, and only actions
abbrev pub IsUsers : TaskShape → List (List ℕ) → Type 0
IsUsers t rows = IsUsersUpTo t (length t.actions) rows

-- the marked atoms are exactly the reached ones
pub record MarksReached (t : TaskShape) (marks : List Bool) : Type 0 where
  pub size : length marks ≡ length t.atoms
  pub sound : IsSound t marks
  pub whole : (p : ℕ) → IsReached t p → is_marked marks p ≡ true

-- marks stay, only reached atoms are marked, and the marked atoms are closed under the actions
pub record Spreads (t : TaskShape) (marks marks' : List Bool) : Type 0 where
  pub size : length marks' ≡ length marks
  pub kept : (p : ℕ) → is_marked marks p ≡ true → is_marked marks' p ≡ true
  pub sound : IsSound t marks'
  pub closed : (a : ℕ) → a < length t.actions → AreMarked marks' (action_at t a).pre → AreMarked marks' (action_at t a).add

-- this many rows, all empty
pub record IsNoUsers (count : ℕ) (rows : List (List ℕ)) : Type 0 where
  pub size : length rows ≡ count
  pub empty : All (λ row. row ≡ []) rows

-- these numbers are marked too, and else the marks are as they were
pub record MarksToo (xs : List ℕ) (marks marks' : List Bool) : Type 0 where
  pub size : length marks' ≡ length marks
  pub marked : AreMarked marks' xs
  pub kept : (p : ℕ) → is_marked marks p ≡ true → is_marked marks' p ≡ true
  pub only : (p : ℕ) → is_marked marks' p ≡ true → (is_marked marks p ≡ true) ⊎ Contains xs p

-- an action of the task whose preconditions are marked
abbrev pub IsReady : TaskShape → List Bool → ℕ → Type 0
IsReady t marks a = (a < length t.actions) × AreMarked marks (action_at t a).pre
