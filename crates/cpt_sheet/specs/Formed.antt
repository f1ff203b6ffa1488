use Rattle.std.specs.Prelude.{◌≡◌, ℕ, ◌<◌, ◌≤◌, ◌≢◌, true, List, [], ◌∷◌, map, length}
use Rattle.cpt_task.specs.Shape.{TaskShape}
use Rattle.cpt_tables.specs.Spans.{IsBelow}
use Rattle.cpt_sheet.specs.declared.data.Cand.{Cand}
use Rattle.cpt_sheet.specs.declared.data.Cand.TheVariants.{Tok, Out}
use Rattle.cpt_sheet.specs.declared.data.Kind.{Kind}
use Rattle.cpt_sheet.specs.declared.data.Kind.TheVariants.{Start, End, Act}
use Rattle.cpt_sheet.specs.declared.data.Sheet.{Sheet}
use Rattle.cpt_sheet.specs.Roles.{needs_of, Adds}
use Rattle.cpt_sheet.specs.View.{token_at, lo, hi, kind_of, has, cands, has_order, before, pair_lt}

-- an action of the task
abbrev pub IsActionOf : TaskShape → Kind → Type 0
IsActionOf t k = (a : ℕ) × (k ≡ Act a) × (a < length t.actions)

-- another token that adds the atom, or an outside action that adds it
abbrev pub CanAdd : TaskShape → Sheet → ℕ → ℕ → Cand → Type 0
CanAdd t s x p (Tok y) = (y < length s.tokens) × (y ≢ x) × Adds t (kind_of s (Tok y)) p
CanAdd t s x p (Out a) = (a < length t.actions) × Adds t (Act a) p

-- tokens ascending, then outside actions ascending
abbrev pub Precedes : Cand → Cand → Type 0
Precedes (Tok x) (Tok y) = x < y
Precedes (Tok x) (Out a) = Unit {0}
Precedes (Out a) (Tok y) = ⊥
Precedes (Out a) (Out b) = a < b

-- each candidate precedes those behind it
abbrev pub IsAscending : List Cand → Type 0
IsAscending [] = Unit {0}
IsAscending (c ∷ cs) = ((d : Cand) → has d cs ≡ true → Precedes c d) × IsAscending cs

-- each order is before all later ones
abbrev pub IsIncreasing : List (ℕ × ℕ) → Type 0
IsIncreasing [] = Unit {0}
IsIncreasing (o ∷ os) = ((x y : ℕ) → has_order x y os ≡ true → pair_lt o.0 o.1 x y ≡ true) × IsIncreasing os

-- two different tokens of the sheet, and not the end before the start
pub record IsPlaced (s : Sheet) (x y : ℕ) : Type 0 where
  pub first : x < length s.tokens
  pub second : y < length s.tokens
  pub different : x ≢ y
  pub forward : ¬ ((x ≡ 1) × (y ≡ 0))

-- a sheet whose parts belong together
pub record IsFormed (t : TaskShape) (s : Sheet) : Type 0 where
  pub two : 2 ≤ length s.tokens
  pub start : kind_of s (Tok 0) ≡ Start
  pub end : kind_of s (Tok 1) ≡ End
  pub actions : (x : ℕ) → 2 ≤ x → x < length s.tokens → IsActionOf t (kind_of s (Tok x))
  pub outs : length s.outs ≡ length t.actions
  pub needs : (x : ℕ) → x < length s.tokens → map (λ n. n.atom) (token_at s x).lists ≡ needs_of t (kind_of s (Tok x))
  pub supply : (x p : ℕ) (c : Cand) → has c (cands s x p) ≡ true → CanAdd t s x p c
  pub ascending : (x p : ℕ) → IsAscending (cands s x p)
  pub bound : s.bound ≤ 1000000
  pub within : (c : Cand) → hi s c ≤ s.bound
  pub outs_below : (a : ℕ) → IsBelow 2000000000000000 (lo s (Out a))
  pub tokens_below : (x : ℕ) → IsBelow 4000000000000000 (lo s (Tok x))
  pub orders : (x y : ℕ) → before s x y ≡ true → IsPlaced s x y
  pub increasing : IsIncreasing s.orders
  pub ends : before s 0 1 ≡ true
  pub after_start : (x : ℕ) → 2 ≤ x → x < length s.tokens → before s 0 x ≡ true
  pub before_end : (x : ℕ) → 2 ≤ x → x < length s.tokens → before s x 1 ≡ true
