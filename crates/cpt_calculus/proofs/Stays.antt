-- what stays after a call
use Rattle.std.proofs.Common.{◌≡◌, Result, Ok, Err, sym, ◌∙◌, ap, subst}
use Rattle.std.specs.Prelude.{OnOk}
use Rattle.cpt_sheet.specs.declared.data.Sheet.{Sheet}
use Rattle.cpt_sheet.specs.declared.data.Step.{Step}
use Rattle.cpt_sheet.specs.declared.data.Change.{Change}
use Rattle.cpt_sheet.specs.Edits.{changed}
use Rattle.cpt_sheet.specs.Formed.{IsFormed}
use Rattle.cpt_calculus.specs.Rules.{change_of}
use Rattle.cpt_calculus.specs.Closing.{StaysFormed}
use Rattle.cpt_calculus.proofs.Keeps.{step_formed}

pub ok_more : {T E : Type 0} (r : Result T E) (P Q : Type 0) → (P → Q) → OnOk r P → OnOk r Q
ok_more (Ok x) P Q f h = f h
ok_more (Err e) P Q f h = h

pub stays_formed : (s u : Sheet) (ch : Change) (step : Step) → ch ≡ change_of s step → u ≡ changed s ch → StaysFormed s step u
stays_formed s u ch step h e = λ t b f l. subst (λ (z : Sheet). IsFormed t z) (sym (e ∙ ap (λ k. changed s k) h)) (step_formed t b s step f l)
