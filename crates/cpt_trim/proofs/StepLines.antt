-- lines that say steps
use Rattle.std.proofs.Common.{◌≡◌, ℕ, Bool, true, false, List, refl, sym, ap, subst}
use Rattle.std.specs.Prelude.{MatchBool}
use Rattle.cpt_sheet.specs.declared.data.Step.{Step}
use Rattle.cpt_sheet.specs.declared.data.NodeLine.TheVariants.{Narrow}
use Rattle.cpt_cert_form.specs.declared.forms.CertLine.{CertLine}
use Rattle.cpt_cert_form.specs.declared.forms.CertLine.TheVariants as lines
use Rattle.cpt_cert_form.specs.Forms.{IsReadAs}
use Rattle.cpt_cert_read.proofs.Meaning.{one_meaning}
use Rattle.cpt_trim.specs.Fates.{is_step}
use Rattle.cpt_trim.specs.Without.{SaysStep}

step_of : (line : CertLine) → is_step line ≡ true → (step : Step) × (line ≡ lines.Node (Narrow step))
step_of (lines.Node (Narrow step)) e = (step, refl)
step_of _ e = absurd (cc)

step_says : (body : List ℕ) (line : CertLine) → IsReadAs body line → is_step line ≡ true → SaysStep body
step_says body line read e = let k = step_of line e in (k.0, subst (IsReadAs body) k.1 read)

other_says : (body : List ℕ) (line : CertLine) → IsReadAs body line → is_step line ≡ false → SaysStep body → ⊥
other_says body line read e (step, also) = let same = one_meaning body line (lines.Node (Narrow step)) read also in let no : is_step line ≡ true = ap is_step same in cc

pub says : (body : List ℕ) (line : CertLine) (step : Bool) → IsReadAs body line → step ≡ is_step line → MatchBool step (SaysStep body) (SaysStep body → ⊥)
says body line true read e = step_says body line read (sym e)
says body line false read e = other_says body line read (sym e)
