use Rattle.std.specs.Prelude.{ℕ, ◌+◌, List, [], ◌∷◌}
use Rattle.cpt_task.specs.Shape.{TaskShape}
use Rattle.cpt_cert_form.specs.declared.forms.CertLine.{CertLine}
use Rattle.cpt_cert_form.specs.declared.forms.CertLine.TheVariants as lines
use Rattle.cpt_cert_read.specs.Texts.{AreLinesOf}
use Rattle.cpt_cert_accept.specs.declared.faults.Why.{Why}
use Rattle.cpt_cert_accept.specs.Trees.{bring_of}
use Rattle.cpt_cert_accept.specs.Reading.Outcome.{faulted}
use Rattle.cpt_cert_accept.specs.Descent.{ReadsAll}

-- the first fault of a text: the line and the reason
abbrev pub FirstFault : TaskShape → List ℕ → ℕ → Why → Type 0
FirstFault t text line why = (ls : List CertLine) × AreLinesOf text ls × ReadsAll t ls (faulted line why)

-- 1 where the line is a child for which a token is brought
abbrev pub bring_in : CertLine → ℕ
bring_in (lines.Node l) = bring_of l
bring_in _ = 0

-- how many of the lines are children for which a token is brought
abbrev pub brings_in : List CertLine → ℕ
brings_in [] = 0
brings_in (l ∷ ls) = bring_in l + brings_in ls
