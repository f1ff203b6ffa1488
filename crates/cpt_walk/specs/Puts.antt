use Rattle.std.specs.Prelude.{◌≡◌, ℕ, ◌+◌, ◌<◌, ◌≤◌, List, length, slice_index_or}
use Rattle.cpt_task.specs.declared.span.Span.{Span}
use Rattle.cpt_task.specs.declared.span.Span.TheVariants.{Never}
use Rattle.cpt_tables.specs.Shapes.{PairShape, DistShape, pair_at, dist_at, IsSmallPairs, IsSmallDists}

-- the values of an atom p and the atoms from q on are these, and no others have changed
pub record PutsPairs (old new : PairShape) (p q : ℕ) (vs : List Span) : Type 0 where
  pub size : new.atoms ≡ old.atoms
  pub here : (i : ℕ) → i < length vs → pair_at new p (q + i) ≡ slice_index_or vs i Never
  pub others : (r s : ℕ) → r ≤ s → s < old.atoms → (r ≡ p → q ≤ s → s < q + length vs → ⊥) → pair_at new r s ≡ pair_at old r s
  pub small : IsSmallPairs old → IsSmallPairs new

-- the values of an action and the atoms from q on are these, and no others have changed
pub record PutsDists (old new : DistShape) (a q : ℕ) (vs : List Span) : Type 0 where
  pub actions : new.actions ≡ old.actions
  pub atoms : new.atoms ≡ old.atoms
  pub here : (i : ℕ) → i < length vs → dist_at new a (q + i) ≡ slice_index_or vs i Never
  pub others : (c s : ℕ) → c < old.actions → s < old.atoms → (c ≡ a → q ≤ s → s < q + length vs → ⊥) → dist_at new c s ≡ dist_at old c s
  pub small : IsSmallDists old → IsSmallDists new
