use Rattle.std.specs.Prelude.{◌≡◌, ℕ, ◌<◌, true, List, length, All, Contains}
use Rattle.cpt_task.specs.Shape.{TaskShape}
use Rattle.cpt_task.specs.Timeline.{is_in}
use Rattle.cpt_sheet.specs.declared.data.Cand.{Cand}
use Rattle.cpt_sheet.specs.declared.data.Cand.TheVariants.{Tok, Out}
use Rattle.cpt_sheet.specs.declared.data.Kind.TheVariants.{Act}
use Rattle.cpt_sheet.specs.declared.data.Sheet.{Sheet}
use Rattle.cpt_sheet.specs.Roles.{Adds, deletes_of, Clash}
use Rattle.cpt_sheet.specs.View.{kind_of, cands, has, has_need}

-- the list has exactly those of which P holds
pub record Lists {A : Type 0} (P : A → Type 0) (xs : List A) : Type 0 where
  pub sound : All P xs
  pub complete : (x : A) → P x → Contains xs x

-- a token or an outside action that is there and adds the atom
abbrev pub IsOffer : TaskShape → Sheet → ℕ → Cand → Type 0
IsOffer t s p (Tok y) = (y < length s.tokens) × Adds t (kind_of s (Tok y)) p
IsOffer t s p (Out a) = (a < length t.actions) × Adds t (Act a) p

-- a token that deletes the atom
abbrev pub IsDeleter : TaskShape → Sheet → ℕ → ℕ → Type 0
IsDeleter t s p d = is_in p (deletes_of t (kind_of s (Tok d))) ≡ true

-- a token that needs the atom
abbrev pub IsConsumer : Sheet → ℕ → ℕ → Type 0
IsConsumer s p x = has_need s x p ≡ true

-- an atom that the token needs
abbrev pub IsNeed : Sheet → ℕ → ℕ → Type 0
IsNeed s x p = has_need s x p ≡ true

-- a token that interferes with the action
abbrev pub IsRival : TaskShape → Sheet → ℕ → ℕ → Type 0
IsRival t s a z = Clash t (kind_of s (Tok z)) (Act a)

-- each candidate of x for p is in the list
pub record Covers (s : Sheet) (x p : ℕ) (l : List Cand) : Type 0 where
  pub each : (c : Cand) → has c (cands s x p) ≡ true → Contains l c
