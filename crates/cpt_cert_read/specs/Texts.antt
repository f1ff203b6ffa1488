use Rattle.std.specs.Prelude.{◌≡◌, ℕ, List, [], ◌∷◌, ◌++◌, All}
use Rattle.std.specs.List.{flat_map, AllZip}
use Rattle.cpt_cert_form.specs.declared.forms.CertLine.{CertLine}
use Rattle.cpt_cert_form.specs.declared.forms.CertLine.TheVariants as lines
use Rattle.cpt_cert_form.specs.Forms.{IsReadAs}
use Rattle.cpt_cert_read.specs.Lines.{kept, HasNoEnd}

-- lines, each with its line feed
abbrev pub ended : List (List ℕ) → List ℕ
ended bodies = flat_map (λ body. body ++ 10 ∷ []) bodies

-- the text is these lines, each with its line feed, and what stands behind the last line feed
pub record IsSplit (text : List ℕ) (bodies : List (List ℕ)) (tail : List ℕ) : Type 0 where
  pub whole : text ≡ ended bodies ++ tail
  pub lines : All HasNoEnd bodies
  pub last : HasNoEnd tail

-- bytes behind the last line feed are a line that lacks its line feed, which has no form
abbrev pub unended : List ℕ → List CertLine
unended [] = []
unended (byte ∷ bytes) = lines.Strange ∷ []

-- what the lines of a text are read as
pub record AreLinesOf (text : List ℕ) (ls : List CertLine) : Type 0 where
  pub bodies : List (List ℕ)
  pub tail : List ℕ
  pub read : List CertLine
  pub split : IsSplit text bodies tail
  pub each : AllZip IsReadAs bodies read
  pub all : ls ≡ read ++ unended tail

-- what a reader of lines has read of a text: its whole lines, and what is kept of the bytes behind them
pub record AreFinished (text : List ℕ) (read : List CertLine) (pending : List ℕ) : Type 0 where
  pub bodies : List (List ℕ)
  pub tail : List ℕ
  pub split : IsSplit text bodies tail
  pub each : AllZip IsReadAs bodies read
  pub enough : pending ≡ kept tail

-- each text has lines, and they are read in one way
abbrev pub EachHasLines : Type 0
EachHasLines = (text : List ℕ) → (ls : List CertLine) × AreLinesOf text ls × ((also : List CertLine) → AreLinesOf text also → also ≡ ls)
