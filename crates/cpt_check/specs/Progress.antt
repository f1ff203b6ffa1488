use Rattle.std.specs.Prelude.{◌≡◌, ℕ, ◌+◌, ◌<◌, ◌≤◌, List, [], ◌∷◌, ◌++◌, length, Option, Some, None, Result, Ok, Err, ⊤}
use Rattle.std.specs.List.{AllZip}
use Rattle.cpt_task.specs.Shape.{TaskShape}
use Rattle.cpt_cert_form.specs.declared.forms.Version.{Version}
use Rattle.cpt_cert_form.specs.declared.forms.Claim.{Claim}
use Rattle.cpt_cert_form.specs.declared.forms.CertLine.{CertLine}
use Rattle.cpt_cert_form.specs.Forms.{IsReadAs}
use Rattle.cpt_cert_accept.specs.declared.faults.Why.{Why}
use Rattle.cpt_cert_accept.specs.declared.faults.Why.TheVariants as whys
use Rattle.cpt_cert_accept.specs.Reading.{Outcome}
use Rattle.cpt_cert_accept.specs.Reading.Outcome.{went, faulted}
use Rattle.cpt_cert_accept.specs.Descent.{ReadsAll}
use Rattle.cpt_cert_read.specs.Texts.{IsSplit, AreLinesOf, AreFinished}
use Rattle.cpt_cert_accept.specs.Texts.{FirstFault, brings_in}
use Rattle.cpt_sections.specs.Stages.{LeftOf, IsStage, HasFewAt, version_in, version_at}
use Rattle.cpt_check.specs.declared.past.Past.{Past}
use Rattle.cpt_check.specs.declared.past.Fault.{Fault}
use Rattle.cpt_check.specs.declared.past.Found.{Found}
use Rattle.cpt_check.specs.declared.past.Found.TheVariants as founds
use Rattle.cpt_check.specs.declared.judged.CheckError.{CheckError}
use Rattle.cpt_check.specs.declared.judged.CheckError.TheVariants as errors
use Rattle.cpt_check.specs.Judging.{StandsIn}

-- in no front of these lines a fault stands
abbrev pub IsFaultless : TaskShape → List CertLine → Type 0
IsFaultless t read = (front more : List CertLine) → read ≡ front ++ more → (line : ℕ) (why : Why) → StandsIn t front line why → ⊥

-- These lines are read, and no fault stands in them. No sheet has more tokens than they bring, and the two of each root.
pub record IsPast (t : TaskShape) (read : List CertLine) (p : Past) : Type 0 where
  pub count : p.count ≡ length read
  pub stage : IsStage t (length read + 1) p.stage
  pub version : version_at p.stage ≡ version_in read
  pub few : HasFewAt (brings_in read) p.stage
  pub reads : (ls : List CertLine) (x : Outcome (Version × Claim)) → LeftOf t p.stage (length read + 1) ls x → ReadsAll t (read ++ ls) x
  pub faultless : IsFaultless t read

-- from the last line on this is known to be the first fault, and not before
pub record IsFoundIn (t : TaskShape) (read : List CertLine) (last : CertLine) (f : Fault) : Type 0 where
  pub version : f.version ≡ version_in (read ++ last ∷ [])
  pub within : f.line ≤ length read + 1
  pub reads : (ls : List CertLine) → ReadsAll t (read ++ last ∷ ls) (faulted f.line f.why)
  pub faultless : IsFaultless t read

-- what one line more leads to
abbrev pub Leads : TaskShape → List CertLine → CertLine → Found → Type 0
Leads t read line (founds.On new) = IsPast t (read ++ line ∷ []) new
Leads t read line (founds.Fault f) = IsFoundIn t read line f

-- these bytes are read: their whole lines are past, and what stands behind the last line feed is kept
pub record IsRead (t : TaskShape) (bytes : List ℕ) (p : Past) (pending : List ℕ) : Type 0 where
  pub read : List CertLine
  pub finished : AreFinished bytes read pending
  pub past : IsPast t read p

-- these bytes are whole lines, and the fault is known from the last of them on
pub record IsFoundAt (t : TaskShape) (bytes : List ℕ) (f : Fault) : Type 0 where
  pub bodies : List (List ℕ)
  pub read : List CertLine
  pub last : CertLine
  pub split : IsSplit bytes bodies []
  pub each : AllZip IsReadAs bodies (read ++ last ∷ [])
  pub found : IsFoundIn t read last f

-- what a piece behind these bytes leads to
abbrev pub Takes : TaskShape → List ℕ → List ℕ → List ℕ → Found → Type 0
Takes t bytes piece pending (founds.On new) = IsRead t (bytes ++ piece) new pending
Takes t bytes piece pending (founds.Fault f) = (front : List ℕ) × (more : List ℕ) × (piece ≡ front ++ more) × IsFoundAt t (bytes ++ front) f

-- what a piece behind these bytes leads to, of which at most so many bytes are taken
abbrev pub TakesFront : TaskShape → List ℕ → List ℕ → ℕ → List ℕ → Result Found CheckError → Type 0
TakesFront t bytes piece room pending (Ok (founds.On new)) = (length piece ≤ room) × IsRead t (bytes ++ piece) new pending
TakesFront t bytes piece room pending (Ok (founds.Fault f)) = (front : List ℕ) × (more : List ℕ) × (piece ≡ front ++ more) × (length front ≤ room) × IsFoundAt t (bytes ++ front) f
TakesFront t bytes piece room pending (Err errors.TooLong) =
    (front : List ℕ) × (more : List ℕ) × (new : Past) × (piece ≡ front ++ more) × (length front ≡ room) × (room < length piece) × IsRead t (bytes ++ front) new pending
TakesFront t bytes piece room pending (Err errors.Failed) = ⊥
TakesFront t bytes piece room pending (Err errors.Memory) = ⊤

-- how a text that is read to its end stands
abbrev pub Concludes : TaskShape → List ℕ → ℕ → Option (Version × Claim) → Type 0
Concludes t text count None = FirstFault t text (count + 1) whys.Grammar
Concludes t text count (Some claimed) = (ls : List CertLine) × AreLinesOf text ls × ((m : ℕ) × ReadsAll t ls (went claimed [] m))

-- these bytes came, and what is left follows them, where the library tells
abbrev pub Follows : Option (List ℕ) → List ℕ → Option (List ℕ) → Type 0
Follows None bytes left = ⊤
Follows (Some text) bytes left = (rest : List ℕ) × (left ≡ Some rest) × (text ≡ bytes ++ rest)
