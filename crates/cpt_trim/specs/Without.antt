use Rattle.std.specs.Prelude.{◌≡◌, ℕ, ◌+◌, ◌==◌, if◌then◌else◌, List, [], ◌∷◌, ◌++◌, Some, slice_get}
use Rattle.std.specs.List.{list_any}
use Rattle.cpt_task.specs.Shape.{TaskShape}
use Rattle.cpt_line.specs.Lines.{split}
use Rattle.cpt_sheet.specs.declared.data.Step.{Step}
use Rattle.cpt_sheet.specs.declared.data.NodeLine.TheVariants.{Narrow}
use Rattle.cpt_cert_form.specs.declared.forms.Version.{Version}
use Rattle.cpt_cert_form.specs.declared.forms.Claim.{Claim}
use Rattle.cpt_cert_form.specs.declared.forms.CertLine.TheVariants as lines
use Rattle.cpt_cert_form.specs.Forms.{IsReadAs}
use Rattle.cpt_cert_read.specs.Texts.{ended}
use Rattle.cpt_cert_accept.specs.Accepting.{Accepts}

-- the lines without those of these numbers, where the first has number n
abbrev pub without_from : ℕ → List ℕ → List (List ℕ) → List (List ℕ)
without_from n numbers [] = []
without_from n numbers (l ∷ ls) = if list_any (λ m. m == n) numbers then without_from (n + 1) numbers ls else l ∷ without_from (n + 1) numbers ls

-- the text without the lines of these numbers; the first line has number 1
abbrev pub without : List ℕ → List ℕ → List ℕ
without text numbers = ended (without_from 1 numbers (split text).0) ++ (split text).1

-- the bytes of a line are read as a step
abbrev pub SaysStep : List ℕ → Type 0
SaysStep body = (step : Step) × IsReadAs body (lines.Node (Narrow step))

-- the line of this number is a step line
pub record IsStepLine (text : List ℕ) (number : ℕ) : Type 0 where
  pub place : ℕ
  pub number_is : number ≡ place + 1
  pub body : List ℕ
  pub line : slice_get (split text).0 place ≡ Some body
  pub step : SaysStep body

-- the text is a certificate of the task, of some version and with some claim
abbrev pub IsAccepted : TaskShape → List ℕ → Type 0
IsAccepted t text = (v : Version) × (claim : Claim) × Accepts t text v claim

-- it is a certificate, and no text that is made from it by leaving out one step line is one
pub record IsIrreducible (t : TaskShape) (text : List ℕ) : Type 0 where
  pub accepted : IsAccepted t text
  pub least : (number : ℕ) → IsStepLine text number → IsAccepted t (without text (number ∷ [])) → ⊥
