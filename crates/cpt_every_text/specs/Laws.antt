use Rattle.std.specs.Prelude.{◌≤◌, ◌^◌, ◌⊎◌, ℕ, List, length}
use Rattle.cpt_task.specs.Shape.{TaskShape, InBounds}
use Rattle.cpt_cert_form.specs.declared.forms.Version.{Version}
use Rattle.cpt_cert_form.specs.declared.forms.Claim.{Claim}
use Rattle.cpt_cert_form.specs.declared.forms.CertLine.{CertLine}
use Rattle.cpt_cert_read.specs.Texts.{AreLinesOf}
use Rattle.cpt_cert_accept.specs.declared.faults.Why.{Why}
use Rattle.cpt_cert_accept.specs.Accepting.{Accepts}
use Rattle.cpt_cert_accept.specs.Reading.{Outcome}
use Rattle.cpt_cert_accept.specs.Descent.{ReadsAll}
use Rattle.cpt_cert_accept.specs.Texts.{FirstFault}

-- the text is a certificate of the task, in some version, with some claim
abbrev pub IsACertificate : TaskShape → List ℕ → Type 0
IsACertificate t text = (v : Version) × (claim : Claim) × Accepts t text v claim

-- the text has a first fault
abbrev pub HasAFault : TaskShape → List ℕ → Type 0
HasAFault t text = (line : ℕ) × (why : Why) × FirstFault t text line why

-- the lines of each text are read to an outcome: behind them, or at the first fault
abbrev pub EachTextIsRead : Type 0
EachTextIsRead = (t : TaskShape) (text : List ℕ) (ls : List CertLine) → AreLinesOf text ls → (o : Outcome (Version × Claim)) × ReadsAll t ls o

-- each text of at most 2^36 bytes is a certificate of the task, or it has a first fault
abbrev pub EachTextIsRuled : Type 0
EachTextIsRuled = (t : TaskShape) (text : List ℕ) → InBounds t → length text ≤ 2 ^ 36 → IsACertificate t text ⊎ HasAFault t text
