use Rattle.std.specs.Prelude.{◌≡◌, ℕ, ◌⊎◌, ◌<◌, true, length}
use Rattle.cpt_task.specs.Shape.{TaskShape}
use Rattle.cpt_sheet.specs.declared.data.Cand.{Cand}
use Rattle.cpt_sheet.specs.declared.data.Cand.TheVariants.{Tok, Out}
use Rattle.cpt_sheet.specs.declared.data.Kind.TheVariants.{Act}
use Rattle.cpt_sheet.specs.declared.data.Sheet.{Sheet}
use Rattle.cpt_sheet.specs.declared.data.Step.{Step}
use Rattle.cpt_sheet.specs.declared.data.Step.TheVariants.{R1, R2, R3, R4, R5, R6, R7, R8, R9After, R9Ahead, R10, R11After, R11Ahead, R12After, R12Ahead, R13}
use Rattle.cpt_sheet.specs.declared.data.Change.{Change}
use Rattle.cpt_sheet.specs.declared.data.Change.TheVariants.{Raise, Lower, Take, Post}
use Rattle.cpt_sheet.specs.Roles.{Adds, Clash}
use Rattle.cpt_sheet.specs.Live.{IsShut}
use Rattle.cpt_sheet.specs.View.{kind_of, cands, has, span_of}
use Rattle.cpt_calculus.specs.Rules.{only}

-- the change raises the lo of this one
abbrev pub Raises : Change → Cand → Type 0
Raises (Raise c v) d = c ≡ d
Raises (Lower c v) d = ⊥
Raises (Take x p c) d = ⊥
Raises (Post x y) d = ⊥

-- the change lowers the hi of this one
abbrev pub Lowers : Change → Cand → Type 0
Lowers (Raise c v) d = ⊥
Lowers (Lower c v) d = c ≡ d
Lowers (Take x p c) d = ⊥
Lowers (Post x y) d = ⊥

-- the change takes a candidate from this list
abbrev pub Takes : Change → ℕ → ℕ → Type 0
Takes (Raise c v) y q = ⊥
Takes (Lower c v) y q = ⊥
Takes (Take x p c) y q = (x ≡ y) × (p ≡ q)
Takes (Post x y) z q = ⊥

-- the change posts this order
abbrev pub Posts : Change → Cand → Cand → Type 0
Posts (Raise c v) d e = ⊥
Posts (Lower c v) d e = ⊥
Posts (Take x p c) d e = ⊥
Posts (Post x y) d e = (Tok x ≡ d) × (Tok y ≡ e)

-- the change bears on whether the first can precede the second: it raises the lo of the first, lowers the hi of the
-- second, or posts the other order
pub data Hinders (ch : Change) (c d : Cand) : Type 0 where
  raised : Raises ch c → Hinders ch c d
  lowered : Lowers ch d → Hinders ch c d
  turned : Posts ch d c → Hinders ch c d

-- the change bears on whether the interval has a moment
abbrev pub Shortens : Change → Cand → Type 0
Shortens ch c = Raises ch c ⊎ Lowers ch c

-- the change bears on a candidate d for q that interferes with c, or on c against d
pub record Parts (t : TaskShape) (s : Sheet) (ch : Change) (x q : ℕ) (c d : Cand) : Type 0 where
  pub listed : has d (cands s x q) ≡ true
  pub clash : Clash t (kind_of s c) (kind_of s d)
  pub hinders : Hinders ch c d ⊎ Hinders ch d c

-- the change raises the lo of a candidate for p
pub record RaisesListed (s : Sheet) (ch : Change) (x p : ℕ) (c : Cand) : Type 0 where
  pub listed : has c (cands s x p) ≡ true
  pub raises : Raises ch c

-- the change raises the lo of a token that adds p
pub record RaisesAdder (t : TaskShape) (s : Sheet) (ch : Change) (p z : ℕ) : Type 0 where
  pub there : z < length s.tokens
  pub adds : Adds t (kind_of s (Tok z)) p
  pub raises : Raises ch (Tok z)

-- the change raises the lo of an outside action that adds p, or lowers its hi so that it has no moment left
pub record LosesAdder (t : TaskShape) (s : Sheet) (ch : Change) (p o : ℕ) : Type 0 where
  pub there : o < length t.actions
  pub adds : Adds t (Act o) p
  pub loses : Raises ch (Out o) ⊎ (Lowers ch (Out o) × IsShut (span_of s (Out o)))

-- What a change touches of what the condition of a step reads beyond where the step lands. The sheet is the one after
-- the change.
abbrev pub Touches : TaskShape → Sheet → Change → Step → Type 0
Touches t s ch (R1 x y v) = Raises ch (Tok x) ⊎ Posts ch (Tok x) (Tok y)
Touches t s ch (R2 x y v) = Lowers ch (Tok y)
Touches t s ch (R3 x y) = Raises ch (Tok y)
Touches t s ch (R4 x p v) = (c : Cand) × RaisesListed s ch x p c
Touches t s ch (R5 x p c) = Raises ch c
Touches t s ch (R6 x p) = Takes ch x p
Touches t s ch (R7 x p a) = Shortens ch (Out a)
Touches t s ch (R8 x p c d) = Hinders ch (Tok d) c ⊎ (Lowers ch (Tok d) ⊎ Posts ch (Tok d) (Tok x))
Touches t s ch (R9After x p d) = Hinders ch (Tok d) (Tok (only (cands s x p)))
Touches t s ch (R9Ahead x p d) = Takes ch x p ⊎ Raises ch (Tok x)
Touches t s ch (R10 a p v) = ((z : ℕ) × RaisesAdder t s ch p z) ⊎ ((o : ℕ) × LosesAdder t s ch p o)
Touches t s ch (R11After x p a v) = Takes ch x p ⊎ (Raises ch (Tok x) ⊎ Lowers ch (Tok (only (cands s x p))))
Touches t s ch (R11Ahead x p a v) = Takes ch x p ⊎ (Raises ch (Tok x) ⊎ Lowers ch (Tok (only (cands s x p))))
Touches t s ch (R12After x a v) = Shortens ch (Tok x)
Touches t s ch (R12Ahead x a v) = Shortens ch (Tok x)
Touches t s ch (R13 x p c q) = (d : Cand) × Parts t s ch x q c d
