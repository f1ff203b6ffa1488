use Rattle.std.specs.Prelude.{ℕ, ◌+◌, ◌≡◌, Bool, true, false, if◌then◌else◌, List, [], ◌∷◌, ◌++◌, Some, All, slice_get, slice_set}
use Rattle.std.specs.List.{AllZip}
use Rattle.cpt_task.specs.Shape.{TaskShape}
use Rattle.cpt_sheet.specs.declared.data.NodeLine.TheVariants.{Narrow}
use Rattle.cpt_cert_form.specs.declared.forms.CertLine.{CertLine}
use Rattle.cpt_cert_form.specs.declared.forms.CertLine.TheVariants as lines
use Rattle.cpt_cert_form.specs.Forms.{IsReadAs}
use Rattle.cpt_cert_read.specs.Lines.{HasNoEnd}
use Rattle.cpt_cert_read.specs.Texts.{ended}
use Rattle.cpt_thin.specs.declared.fates.Fate.{Fate}
use Rattle.cpt_thin.specs.declared.fates.Fate.TheVariants.{Fixed, Kept, Dropped}
use Rattle.cpt_thin.specs.Fates.{is_dropped}
use Rattle.cpt_trim.specs.Without.{SaysStep, IsAccepted}

-- the line is a step line
abbrev pub is_step : CertLine → Bool
is_step (lines.Node (Narrow step)) = true
is_step _ = false

-- the lines that are not dropped
abbrev pub left_of : List Fate → List (List ℕ) → List (List ℕ)
left_of [] bodies = []
left_of (f ∷ fates) [] = []
left_of (f ∷ fates) (b ∷ bodies) = if is_dropped f then left_of fates bodies else b ∷ left_of fates bodies

-- the text of the lines that are not dropped
abbrev pub text_of : List Fate → List (List ℕ) → List ℕ → List ℕ
text_of fates bodies tail = ended (left_of fates bodies) ++ tail

-- the numbers of the lines that are dropped, where the first line has number n
abbrev pub numbers_of : ℕ → List Fate → List ℕ
numbers_of n [] = []
numbers_of n (f ∷ fates) = if is_dropped f then n ∷ numbers_of (n + 1) fates else numbers_of (n + 1) fates

-- how many lines may still be dropped
abbrev pub kept_in : List Fate → ℕ
kept_in [] = 0
kept_in (Fixed ∷ fates) = kept_in fates
kept_in (Kept ∷ fates) = kept_in fates + 1
kept_in (Dropped ∷ fates) = kept_in fates

-- step lines alone are kept or dropped
abbrev pub Befits : Fate → List ℕ → Type 0
Befits Fixed body = SaysStep body → ⊥
Befits Kept body = SaysStep body
Befits Dropped body = SaysStep body

-- without the line at the place the text is no certificate, where that line is a step line that is kept
abbrev pub IsNeeded : TaskShape → List Fate → List (List ℕ) → List ℕ → ℕ → Type 0
IsNeeded t fates bodies tail place = slice_get fates place ≡ Some Kept → IsAccepted t (text_of (slice_set fates place Dropped) bodies tail) → ⊥

-- the line at the place was kept and is dropped, and the text is a certificate without it
pub record Drops (t : TaskShape) (old : List Fate) (bodies : List (List ℕ)) (tail : List ℕ) (place : ℕ) (new : List Fate) : Type 0 where
  pub kept : slice_get old place ≡ Some Kept
  pub set : new ≡ slice_set old place Dropped
  pub accepted : IsAccepted t (text_of new bodies tail)

-- each line has its fate, and the text of those that are not dropped is a certificate
pub record AreTold (t : TaskShape) (fates : List Fate) (bodies : List (List ℕ)) (tail : List ℕ) : Type 0 where
  pub befit : AllZip Befits fates bodies
  pub accepted : IsAccepted t (text_of fates bodies tail)

-- numbers of lines and the text without these lines, by fates with which each line that is left is needed
pub record AreFound (t : TaskShape) (bodies : List (List ℕ)) (tail numbers left : List ℕ) : Type 0 where
  pub fates : List Fate
  pub told : AreTold t fates bodies tail
  pub needed : (place : ℕ) → IsNeeded t fates bodies tail place
  pub numbers_are : numbers ≡ numbers_of 1 fates
  pub left_is : left ≡ text_of fates bodies tail

-- the lines of a text, what stands behind the last line feed, and what the lines are read as
pub record AreLines (bodies : List (List ℕ)) (tail : List ℕ) (ls : List CertLine) : Type 0 where
  pub feedless : All HasNoEnd bodies
  pub last : HasNoEnd tail
  pub each : AllZip IsReadAs bodies ls
