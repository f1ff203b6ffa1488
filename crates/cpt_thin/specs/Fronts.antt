use Rattle.std.specs.Prelude.{◌≡◌, ◌+◌, if◌then◌else◌, List, [], ◌∷◌, ◌++◌, length, Option, None, Some, ⊤}
use Rattle.cpt_task.specs.Shape.{TaskShape}
use Rattle.cpt_cert_form.specs.declared.forms.Version.{Version}
use Rattle.cpt_cert_form.specs.declared.forms.Claim.{Claim}
use Rattle.cpt_cert_form.specs.declared.forms.CertLine.{CertLine}
use Rattle.cpt_cert_accept.specs.Reading.{Outcome}
use Rattle.cpt_cert_accept.specs.Descent.{ReadsAll}
use Rattle.cpt_sections.specs.Stages.{LeftOf, IsStage, HasFewAt}
use Rattle.cpt_thin.specs.declared.fates.Fate.{Fate}
use Rattle.cpt_thin.specs.declared.fronts.Front.{Front}
use Rattle.cpt_thin.specs.Fates.{is_dropped}

-- what the lines are read as that are not dropped
abbrev pub read_of : List Fate → List CertLine → List CertLine
read_of [] ls = []
read_of (f ∷ fates) [] = []
read_of (f ∷ fates) (l ∷ ls) = if is_dropped f then read_of fates ls else l ∷ read_of fates ls

-- the lines are read, and this is what is still to be read behind them
pub record IsFrontOf (t : TaskShape) (read : List CertLine) (f : Front) : Type 0 where
  pub count : f.count ≡ length read
  pub stage : IsStage t (length read + 1) f.stage
  pub few : HasFewAt (length read) f.stage
  pub reads : (ls : List CertLine) (x : Outcome (Version × Claim)) → LeftOf t f.stage (length read + 1) ls x → ReadsAll t (read ++ ls) x

-- where it is known what is still to be read, it is known of these lines
abbrev pub MayBeFrontOf : TaskShape → List CertLine → Option Front → Type 0
MayBeFrontOf t read None = ⊤
MayBeFrontOf t read (Some f) = IsFrontOf t read f
