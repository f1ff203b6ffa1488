use Rattle.std.specs.Prelude.{◌≡◌, ℕ, ◌<◌, ◌≤◌, Bool, MatchBool, List, length, All, take, slice_set}
use Rattle.cpt_task.specs.declared.span.Span.{Span}
use Rattle.cpt_tables.specs.Spans.{◌≤ˢ◌, ◌<ˢ◌}
use Rattle.cpt_tables.specs.Weights.{value_at, reached, weight, IsSmall}

-- g is at most the list in every place
abbrev pub IsUnder : (ℕ → Span) → List Span → Type 0
IsUnder g xs = (k : ℕ) → k < length xs → g k ≤ˢ value_at xs k

-- the new values are small again, at most the old ones, and still at least each g of which G holds
pub record Falls (G : (ℕ → Span) → Type 0) (old new : List Span) : Type 0 where
  pub size : length new ≡ length old
  pub small : IsSmall new
  pub more : reached old ≤ reached new
  pub under : (k : ℕ) → value_at new k ≤ˢ value_at old k
  pub above : (g : ℕ → Span) → G g → IsUnder g old → IsUnder g new

-- whether something was lowered, or nothing
abbrev pub Moves : List Span → List Span → Bool → Type 0
Moves old new moved = MatchBool moved (weight new < weight old) (new ≡ old)

-- the value at the place is v now where it was greater
abbrev pub LowersAt : List Span → List Span → ℕ → Span → Bool → Type 0
LowersAt old new p v moved = MatchBool moved ((v <ˢ value_at old p) × (new ≡ slice_set old p v)) ((value_at old p ≤ˢ v) × (new ≡ old))

-- the values at the first n atoms of the list are at most v now
pub record LowersFirst (atoms : List ℕ) (v : Span) (old new : List Span) (n : ℕ) (moved : Bool) : Type 0 where
  pub falls : Falls (λ g. All (λ p. g p ≤ˢ v) atoms) old new
  pub moves : Moves old new moved
  pub met : All (λ p. value_at new p ≤ˢ v) (take n atoms)
