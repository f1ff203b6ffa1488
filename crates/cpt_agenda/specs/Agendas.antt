use Rattle.std.specs.Prelude.{◌≡◌, ℕ, ◌<◌, ◌⊎◌, true, List, [], ◌∷◌}
use Rattle.cpt_sheet.specs.declared.data.Cand.{Cand}
use Rattle.cpt_sheet.specs.declared.data.Cand.TheVariants.{Tok, Out}
use Rattle.cpt_sheet.specs.View.{has}

-- what is seen of an agenda: who waits, first in first out, for how many tokens and actions it has marks, and for how
-- many subjects it has room
pub record AgendaShape : Type 0 where
  pub waiting : List Cand
  pub tokens : ℕ
  pub acts : ℕ
  pub room : ℕ

-- the agenda has a mark for the subject
abbrev pub HasMark : AgendaShape → Cand → Type 0
HasMark a (Tok x) = x < a.tokens
HasMark a (Out o) = o < a.acts

-- who waits still waits, with the same marks and the same room
pub record Keeps (old new : AgendaShape) : Type 0 where
  pub kept : (d : Cand) → has d old.waiting ≡ true → has d new.waiting ≡ true
  pub tokens : new.tokens ≡ old.tokens
  pub acts : new.acts ≡ old.acts
  pub room : new.room ≡ old.room

-- the subject waits now, and no one else more
pub record IsPut (c : Cand) (old new : AgendaShape) : Type 0 where
  pub keeps : Keeps old new
  pub here : has c new.waiting ≡ true
  pub only : (d : Cand) → has d new.waiting ≡ true → (d ≡ c) ⊎ (has d old.waiting ≡ true)

-- the first that waited is taken off
pub record IsNext (c : Cand) (old new : AgendaShape) : Type 0 where
  pub waiting : old.waiting ≡ c ∷ new.waiting
  pub tokens : new.tokens ≡ old.tokens
  pub acts : new.acts ≡ old.acts
  pub room : new.room ≡ old.room

-- no one waits
pub record IsIdle (a : AgendaShape) : Type 0 where
  pub idle : a.waiting ≡ []

-- no one waited, and nothing changed
pub record HasNone (old new : AgendaShape) : Type 0 where
  pub idle : old.waiting ≡ []
  pub same : new ≡ old
