use Rattle.std.specs.Prelude.{◌≡◌, ℕ, List, All, Result, Ok, Err, Vec, ⊤}
use Rattle.std.specs.Global.{Global}
use Rattle.std.specs.List.Sorted.{IsStrictlyIncreasing}
use Rattle.cpt_task.specs.Shape.{TaskShape}
use Rattle.cpt_cert_form.specs.declared.forms.Version.{Version}
use Rattle.cpt_cert_form.specs.declared.forms.Claim.{Claim}
use Rattle.cpt_cert_accept.specs.Accepting.{Accepts}
use Rattle.cpt_check.specs.Judging.{IsRejected}
use Rattle.cpt_trim.specs.declared.trimmed.Trimmed.{Trimmed}
use Rattle.cpt_trim.specs.declared.trimmed.TrimError.{TrimError}
use Rattle.cpt_trim.specs.declared.trimmed.TrimError.TheVariants as errors
use Rattle.cpt_trim.specs.Without.{without, IsStepLine, IsIrreducible}

-- the most bytes of a text that is trimmed
abbrev pub trim_limit : ℕ
trim_limit = 16777216

-- these are numbers of step lines, in order, and without these lines the text is a certificate that has no needless step line
pub record IsLess (t : TaskShape) (text : List ℕ) (dropped : List ℕ) : Type 0 where
  pub increasing : IsStrictlyIncreasing dropped
  pub steps : All (IsStepLine text) dropped
  pub irreducible : IsIrreducible t (without text dropped)
  pub same : (v w : Version) (claim also : Claim) → Accepts t text v claim → Accepts t (without text dropped) w also → (v ≡ w) × (claim ≡ also)

-- The text is a certificate, these are numbers of step lines of it, in order, and without these lines it is a certificate of
-- the same version and with the same claim that has no needless step line.
pub record IsTrimmed (t : TaskShape) (text : List ℕ) (version : Version) (claim : Claim) (dropped : List ℕ) : Type 0 where
  pub whole : Accepts t text version claim
  pub increasing : IsStrictlyIncreasing dropped
  pub steps : All (IsStepLine text) dropped
  pub accepts : Accepts t (without text dropped) version claim
  pub irreducible : IsIrreducible t (without text dropped)

-- what trimming a text comes to: it is trimmed, or it is no certificate and has a first fault
abbrev pub Trims : TaskShape → List ℕ → Result Trimmed TrimError → Type 0
Trims t text (Ok trimmed) = IsTrimmed t text trimmed.version trimmed.claim trimmed.dropped
Trims t text (Err (errors.Rejected version line why)) = IsRejected t trim_limit text version line why
Trims t text (Err errors.Memory) = ⊤

-- and with the text that is left
abbrev pub TrimsWith : TaskShape → List ℕ → Result (Trimmed × Vec ℕ Global) TrimError → Type 0
TrimsWith t text (Ok (trimmed, left)) = IsTrimmed t text trimmed.version trimmed.claim trimmed.dropped × (left.items ≡ without text trimmed.dropped)
TrimsWith t text (Err e) = Trims t text (Err e)
