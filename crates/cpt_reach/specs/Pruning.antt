use Rattle.std.specs.Prelude.{◌≡◌, ℕ, ◌<◌, ◌≤◌, ◌≢◌, ◌↔◌, List, length, Result, Ok, Err}
use Rattle.cpt_task.specs.declared.memory.Limit.TheVariants.{Atoms, Actions}
use Rattle.cpt_task.specs.Shape.{TaskShape}
use Rattle.cpt_reach.specs.declared.pruning.PruneError.{PruneError}
use Rattle.cpt_reach.specs.declared.pruning.PruneError.TheVariants.{Limit, Memory}
use Rattle.cpt_reach.specs.declared.pruning.Pruned.{Pruned}
use Rattle.cpt_reach.specs.Reached.{IsKeptAtom, IsKeptAction}
use Rattle.cpt_reach.specs.Kept.{IsListOf, IsKeptPart}

-- P holds of more than n numbers
abbrev pub HasMoreThan : ℕ → (ℕ → Type 0) → Type 0
HasMoreThan n P = (xs : List ℕ) × IsListOf P xs × (n < length xs)

-- P holds of at most n numbers
abbrev pub HasAtMost : ℕ → (ℕ → Type 0) → Type 0
HasAtMost n P = (xs : List ℕ) × IsListOf P xs × (length xs ≤ n)

-- what pruning answers: the kept part where it is within the limits, else the first limit that it passes
abbrev pub Prunes : TaskShape → Result Pruned PruneError → Type 0
Prunes t (Ok p) = IsKeptPart t p.atoms p.actions p.task × (length p.atoms ≤ 2048) × (length p.actions ≤ 4096)
Prunes t (Err (Limit Atoms)) = HasMoreThan 2048 (IsKeptAtom t)
Prunes t (Err (Limit Actions)) = HasAtMost 2048 (IsKeptAtom t) × HasMoreThan 4096 (IsKeptAction t)
Prunes t (Err (Limit _)) = ⊥
Prunes t (Err Memory) = Unit

-- two answers of which neither is want of memory are one
abbrev pub OnePruning : Type 0
OnePruning = (t : TaskShape) (r s : Result Pruned PruneError) → r ≢ Err Memory → s ≢ Err Memory → Prunes t r → Prunes t s → r ≡ s

-- unless memory is wanting, a limit is answered exactly where the kept part passes it: that of the atoms, else that of the actions
abbrev pub LimitsAreExact : Type 0
LimitsAreExact = (t : TaskShape) (r : Result Pruned PruneError) → r ≢ Err Memory → Prunes t r
    → ((r ≡ Err (Limit Atoms)) ↔ HasMoreThan 2048 (IsKeptAtom t)) × ((r ≡ Err (Limit Actions)) ↔ (HasAtMost 2048 (IsKeptAtom t) × HasMoreThan 4096 (IsKeptAction t)))

-- the lists of the kept atoms and of the kept actions
pub record KeptNumbers (t : TaskShape) (atoms actions : List ℕ) : Type 0 where
  pub kept_atoms : IsListOf (IsKeptAtom t) atoms
  pub kept_actions : IsListOf (IsKeptAction t) actions
