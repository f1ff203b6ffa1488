use Rattle.std.specs.Prelude.{◌≡◌, ◌≢◌, ℕ, ◌+◌, List, [], ◌∷◌, ◌++◌, length, take, All, Option, None, Some, Result, Ok, Err}
use Rattle.cpt_task.specs.declared.memory.Memory.{Memory}
use Rattle.cpt_cert_form.specs.declared.forms.CertLine.{CertLine}
use Rattle.cpt_cert_form.specs.Forms.{IsReadAs}

-- what is kept of the bytes since the last line end: at most 65,537, which is enough to know a line that is too long
unfoldable pub kept : List ℕ → List ℕ
kept bytes = take 65537 bytes

-- no line ends in these bytes
abbrev pub HasNoEnd : List ℕ → Type 0
HasNoEnd bytes = All (λ b. b ≢ 10) bytes

-- a line ends in the piece, behind these bytes of it, and is read as this line
pub record Finishes (before piece body : List ℕ) (line : CertLine) : Type 0 where
  pub rest : List ℕ
  pub piece_is : piece ≡ body ++ 10 ∷ rest
  pub unended : HasNoEnd body
  pub read : IsReadAs (kept (before ++ body)) line

-- What a reader of lines does with a piece, where these bytes stand since the last line end before and after: it takes
-- the piece up to the first line end and gives that line, or takes the whole piece where no line ends in it.
abbrev pub Feeds : (before after piece : List ℕ) → Result (ℕ × Option CertLine) Memory → Type 0
Feeds before after piece (Ok (taken, None)) = HasNoEnd piece × (taken ≡ length piece) × (after ≡ kept (before ++ piece))
Feeds before after piece (Ok (taken, Some line)) = (body : List ℕ) × Finishes before piece body line × (taken ≡ length body + 1) × (after ≡ [])
Feeds before after piece (Err e) = after ≡ before
