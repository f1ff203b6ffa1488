use Rattle.std.specs.Prelude.{◌≡◌, ◌↔◌, ◌≤◌, ◌*◌, ◌^◌, ℕ, List, [], ◌∷◌, length}
use Rattle.cpt_task.specs.declared.plan.Occ.{Occ}
use Rattle.cpt_task.specs.Shape.{TaskShape, InBounds}
use Rattle.cpt_task.specs.Timeline.{makespan}
use Rattle.cpt_task.specs.Optimal.{IsOptimal, IsRefuted, HasNoPlan}
use Rattle.cpt_soundness.specs.Sets.{HasSets}
use Rattle.cpt_cert_form.specs.declared.forms.Version.{Version}
use Rattle.cpt_cert_form.specs.declared.forms.Claim.{Claim}
use Rattle.cpt_cert_form.specs.declared.forms.Claim.TheVariants as claims
use Rattle.cpt_cert_form.specs.declared.forms.CertLine.{CertLine}
use Rattle.cpt_cert_form.specs.declared.forms.CertLine.TheVariants as lines
use Rattle.cpt_cert_form.specs.declared.forms.Run.{Run}
use Rattle.cpt_cert_form.specs.Text.{Parts, cert_lines}
use Rattle.cpt_cert_accept.specs.Accepting.{IsInOrder, Proves, IsCertificate, Accepts}
use Rattle.cpt_cert_accept.specs.Reading.{Outcome}
use Rattle.cpt_cert_accept.specs.Reading.Outcome.{went}
use Rattle.cpt_cert_accept.specs.Descent.{ReadsAll}
use Rattle.cpt_cert_read.specs.Texts.{AreLinesOf}
use Rattle.cpt_cert_accept.specs.Texts.{FirstFault, brings_in}
use Rattle.cpt_cert_accept.specs.declared.faults.Why.{Why}

-- what a claim says of a task, where it comes with a plan
abbrev pub HoldsOf : TaskShape → Claim → List Occ → Type 0
HoldsOf t (claims.Optimal m) plan = IsOptimal t plan × (makespan t plan ≡ m)
HoldsOf t (claims.NoneUpTo m) plan = IsRefuted t m
HoldsOf t claims.Never plan = HasNoPlan t
HoldsOf t (claims.Spent refuted nodes) plan = IsRefuted t refuted

-- Whatever text is a certificate, its claim holds. The premises are what each task gives.
abbrev pub CertificatesHold : Type 0
CertificatesHold =
    (t : TaskShape) (text : List ℕ) (v : Version) (claim : Claim) (c : Parts) → InBounds t → HasSets t → IsCertificate t text v claim c → HoldsOf t claim c.plan

-- The reading of lines has at most one outcome: at most one fault is the first one, and lines that are read whole have
-- none.
abbrev pub OneOutcome : Type 0
OneOutcome = (t : TaskShape) (ls : List CertLine) (o o' : Outcome (Version × Claim)) → ReadsAll t ls o → ReadsAll t ls o' → o ≡ o'

-- each run has a value
abbrev pub AreFilled : List Run → Type 0
AreFilled [] = Unit {0}
AreFilled (run ∷ runs) = (1 ≤ run.count) × AreFilled runs

-- the runs of a row have values, as those of every line that is read have
abbrev pub IsFilledLine : CertLine → Type 0
IsFilledLine (lines.PairRow runs) = AreFilled runs
IsFilledLine (lines.DistRow runs) = AreFilled runs
IsFilledLine _ = Unit {0}

-- each of the lines has values in its runs
abbrev pub AllFilled : List CertLine → Type 0
AllFilled [] = Unit {0}
AllFilled (l ∷ ls) = IsFilledLine l × AllFilled ls

-- the lines are those of a certificate with these parts
pub record IsMadeOf (t : TaskShape) (v : Version) (claim : Claim) (ls : List CertLine) (c : Parts) : Type 0 where
  pub claims : c.claim ≡ claim
  pub ordered : IsInOrder c.plan
  pub proves : Proves t claim c
  pub same : ls ≡ cert_lines v t c

-- lines are those of a certificate exactly where they are read whole, without a fault
abbrev pub WholeLines : Type 0
WholeLines =
    (t : TaskShape) (v : Version) (claim : Claim) (ls : List CertLine) → AllFilled ls → ((c : Parts) × IsMadeOf t v claim ls c) ↔ ((m : ℕ) × ReadsAll t ls (went (v, claim) [] m))

-- a text of at most 2^36 bytes whose lines are read whole is a certificate
abbrev pub WholeTexts : Type 0
WholeTexts =
    (t : TaskShape) (text : List ℕ) (ls : List CertLine) (v : Version) (claim : Claim) (m : ℕ) → InBounds t → length text ≤ 2 ^ 36 → AreLinesOf text ls → ReadsAll t ls (went (v, claim) [] m) → Accepts t text v claim

-- the lines of a certificate of at most 2^36 bytes are read whole
abbrev pub CertificatesRead : Type 0
CertificatesRead =
    (t : TaskShape) (text : List ℕ) (v : Version) (claim : Claim) → InBounds t → length text ≤ 2 ^ 36 → Accepts t text v claim → (ls : List CertLine) × AreLinesOf text ls × ((m : ℕ) × ReadsAll t ls (went (v, claim) [] m))

-- a text has at most one first fault
abbrev pub OneFault : Type 0
OneFault = (t : TaskShape) (text : List ℕ) (line also : ℕ) (why other : Why) → FirstFault t text line why → FirstFault t text also other → (line ≡ also) × (why ≡ other)

-- a certificate of at most 2^36 bytes has no fault
abbrev pub NoFault : Type 0
NoFault = (t : TaskShape) (text : List ℕ) (v : Version) (claim : Claim) (line : ℕ) (why : Why) → InBounds t → length text ≤ 2 ^ 36 → Accepts t text v claim → FirstFault t text line why → ⊥

-- a text has at most one version and claim
abbrev pub OneClaim : Type 0
OneClaim = (t : TaskShape) (text : List ℕ) (v w : Version) (claim also : Claim) → InBounds t → Accepts t text v claim → Accepts t text w also → (v ≡ w) × (claim ≡ also)

-- A text has 18 bytes for each token that its lines bring. So fewer than 2^32 - 3 are brought in a text of 2^36 bytes.
abbrev pub BringsTakeBytes : Type 0
BringsTakeBytes = (text : List ℕ) (ls : List CertLine) → AreLinesOf text ls → 18 * brings_in ls ≤ length text
