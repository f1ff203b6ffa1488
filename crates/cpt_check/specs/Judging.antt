use Rattle.std.specs.Prelude.{◌≡◌, ℕ, ◌+◌, ◌<◌, ◌≤◌, ◌⊎◌, List, [], ◌++◌, length, All, Option, Some, Result, Ok, Err, ⊤}
use Rattle.std.specs.List.{AllZip}
use Rattle.cpt_task.specs.Shape.{TaskShape}
use Rattle.cpt_cert_form.specs.declared.forms.Version.{Version}
use Rattle.cpt_cert_form.specs.declared.forms.Claim.{Claim}
use Rattle.cpt_cert_form.specs.declared.forms.CertLine.{CertLine}
use Rattle.cpt_cert_form.specs.Forms.{IsReadAs}
use Rattle.cpt_cert_read.specs.Lines.{HasNoEnd}
use Rattle.cpt_cert_form.specs.Text.{Parts}
use Rattle.cpt_cert_accept.specs.declared.faults.Why.{Why}
use Rattle.cpt_cert_accept.specs.Accepting.{IsCertificate, Accepts}
use Rattle.cpt_cert_accept.specs.Reading.Outcome.{faulted}
use Rattle.cpt_cert_accept.specs.Descent.{ReadsAll}
use Rattle.cpt_cert_read.specs.Texts.{ended, AreLinesOf}
use Rattle.cpt_cert_accept.specs.Texts.{FirstFault}
use Rattle.cpt_cert_accept.specs.Laws.{HoldsOf}
use Rattle.cpt_sections.specs.Stages.{version_in}
use Rattle.cpt_check.specs.declared.judged.Judged.{Judged}
use Rattle.cpt_check.specs.declared.judged.Ruling.{Ruling}
use Rattle.cpt_check.specs.declared.judged.Ruling.TheVariants.{Accepted, Rejected}
use Rattle.cpt_check.specs.declared.judged.CheckError.{CheckError}
use Rattle.cpt_check.specs.declared.judged.CheckError.TheVariants as errors

-- whole lines at the front of a text: what they are read as, and how many bytes they have with their line feeds
pub record IsFront (text : List ℕ) (bytes : ℕ) (ls : List CertLine) : Type 0 where
  pub bodies : List (List ℕ)
  pub rest : List ℕ
  pub whole : text ≡ ended bodies ++ rest
  pub lines : All HasNoEnd bodies
  pub each : AllZip IsReadAs bodies ls
  pub size : bytes ≡ length (ended bodies)

-- The fault stands in these lines: read as a text of their own they have it first, at one of them. So it is not that they
-- end too early.
pub record StandsIn (t : TaskShape) (ls : List CertLine) (line : ℕ) (why : Why) : Type 0 where
  pub fault : ReadsAll t ls (faulted line why)
  pub within : line ≤ length ls

-- the fault stands in lines that end within the first `most` bytes of the text
abbrev pub StandsWithin : TaskShape → ℕ → List ℕ → ℕ → Why → Type 0
StandsWithin t most text line why = (bytes : ℕ) × ((ls : List CertLine) × IsFront text bytes ls × (bytes ≤ most) × StandsIn t ls line why)

-- the version is the one that the first line of the text names
abbrev pub IsVersionOf : List ℕ → Option Version → Type 0
IsVersionOf text version = (ls : List CertLine) × AreLinesOf text ls × (version ≡ version_in ls)

-- the text has a first fault, and it has at most `most` bytes or the fault stands in lines that end within them
pub record IsRejected (t : TaskShape) (most : ℕ) (text : List ℕ) (version : Option Version) (line : ℕ) (why : Why) : Type 0 where
  pub version_is : IsVersionOf text version
  pub first : FirstFault t text line why
  pub known : (length text ≤ most) ⊎ StandsWithin t most text line why

-- the text has at most `most` bytes, and it is a certificate of the task with this claim
pub record IsAccepted (t : TaskShape) (most : ℕ) (text : List ℕ) (version : Option Version) (claim : Claim) : Type 0 where
  pub size : length text ≤ most
  pub named : Version
  pub version_is : version ≡ Some named
  pub accepts : Accepts t text named claim

-- the text has more than `most` bytes, and no fault stands in the lines that end within them
pub record IsTooLong (t : TaskShape) (most : ℕ) (text : List ℕ) : Type 0 where
  pub size : most < length text
  pub faultless : (line : ℕ) (why : Why) → StandsWithin t most text line why → ⊥

-- the ruling on a text
abbrev pub RulesOf : TaskShape → ℕ → List ℕ → Option Version → Ruling → Type 0
RulesOf t most text version (Accepted claim) = IsAccepted t most text version claim
RulesOf t most text version (Rejected line why) = IsRejected t most text version line why

-- what is said of a text, of which at most `most` bytes are taken
abbrev pub Rules : TaskShape → ℕ → List ℕ → Result Judged CheckError → Type 0
Rules t most text (Ok judged) = RulesOf t most text judged.version judged.ruling
Rules t most text (Err errors.TooLong) = IsTooLong t most text
Rules t most text (Err errors.Failed) = ⊤
Rules t most text (Err errors.Memory) = ⊤

-- these bytes of the text came, and the rest of it is left
pub record Came (text : List ℕ) (left : Option (List ℕ)) (bytes : List ℕ) : Type 0 where
  pub rest : List ℕ
  pub parts : text ≡ bytes ++ rest
  pub left_is : left ≡ Some rest

-- of a text that is accepted nothing is left, and of one that is rejected at most 65,536 bytes came behind each front of
-- whole lines in which the fault stands
abbrev pub LeavesOf : TaskShape → List ℕ → Option (List ℕ) → Ruling → Type 0
LeavesOf t text left (Accepted claim) = left ≡ Some []
LeavesOf t text left (Rejected line why) =
    (came : List ℕ) × Came text left came × ((bytes : ℕ) (ls : List CertLine) → IsFront text bytes ls → StandsIn t ls line why → length came ≤ bytes + 65536)

-- what is left of a text; where it is too long, at most 65,536 bytes came behind those that are taken
abbrev pub Leaves : TaskShape → ℕ → List ℕ → Option (List ℕ) → Result Judged CheckError → Type 0
Leaves t most text left (Ok judged) = LeavesOf t text left judged.ruling
Leaves t most text left (Err errors.TooLong) = (came : List ℕ) × Came text left came × (length came ≤ most + 65536)
Leaves t most text left (Err errors.Failed) = ⊤
Leaves t most text left (Err errors.Memory) = ⊤

-- the claim of an accepted text holds, with the plan of a certificate that the text is
abbrev pub RulingHolds : TaskShape → List ℕ → Option Version → Ruling → Type 0
RulingHolds t text version (Accepted claim) =
    (named : Version) × (version ≡ Some named) × ((c : Parts) × IsCertificate t text named claim c × HoldsOf t claim c.plan)
RulingHolds t text version (Rejected line why) = ⊤

-- where there is a ruling, it holds
abbrev pub Holds : TaskShape → List ℕ → Result Judged CheckError → Type 0
Holds t text (Ok judged) = RulingHolds t text judged.version judged.ruling
Holds t text (Err e) = ⊤

-- all that is said of a text
abbrev pub SaysOf : TaskShape → ℕ → List ℕ → Result Judged CheckError → Type 0
SaysOf t most text result = Rules t most text result × Holds t text result
