-- Readings put together from steps, each with its own refusal.
use Rattle.std.specs.Prelude.{◌≡◌, ℕ, ◌<◌, ◌⊎◌, List, slice_get, Some, Result, Err, All}

-- There is one of which P holds, and the reading goes on with it; or there is none, and the reading is refused so.
abbrev pub Finds : {A X E : Type 0} → (A → Type 0) → E → (A → Result X E → Type 0) → Result X E → Type 0
Finds {A} P e rest r = ((a : A) × P a × rest a r) ⊎ (((a : A) → P a → ⊥) × (r ≡ Err e))

-- P holds, and the reading goes on; or it does not, and the reading is refused so.
abbrev pub Passes : {X E : Type 0} → Type 0 → E → (Result X E → Type 0) → Result X E → Type 0
Passes P e rest r = (P × rest r) ⊎ ((P → ⊥) × (r ≡ Err e))

-- the first of a list of which P does not hold stands at a place
pub record IsFirstNot {A : Type 0} (P : A → Type 0) (xs : List A) (place : ℕ) : Type 0 where
  pub first : A
  pub here : slice_get xs place ≡ Some first
  pub not : P first → ⊥
  pub before : (k : ℕ) (x : A) → k < place → slice_get xs k ≡ Some x → P x

-- P holds of each of the list, and the reading goes on; or the first of which it does not is refused so, by its place and itself.
abbrev pub PassesEach : {A X E : Type 0} → (A → Type 0) → (ℕ → A → E) → List A → (Result X E → Type 0) → Result X E → Type 0
PassesEach P e xs rest r = (All P xs × rest r) ⊎ ((place : ℕ) × (bad : IsFirstNot P xs place) × (r ≡ Err (e place bad.first)))
