-- the turn of an engine
use Rattle.std.proofs.Common.{◌<◌, inl, inr, refl, sym, subst}
use Rattle.std.proofs.lemmas.List.Elements.{length_all_zip}
use Rattle.cpt_task.specs.Shape.{TaskShape}
use Rattle.cpt_tables.specs.declared.tables.Tables.{Tables}
use Rattle.cpt_sheet.specs.declared.data.Cand.{Cand}
use Rattle.cpt_sheet.specs.declared.data.Cand.TheVariants.{Tok, Out}
use Rattle.cpt_sheet.specs.declared.data.Sheet.{Sheet}
use Rattle.cpt_sheet.specs.declared.data.Step.{Step}
use Rattle.cpt_sheet.specs.Below.{TokenBelow}
use Rattle.cpt_calculus.specs.Rules.{IsLegal, change_of, narrowed}
use Rattle.cpt_calculus.proofs.Confluence.{down}
use Rattle.cpt_steps.specs.Landing.{IsThere}
use Rattle.cpt_waking.specs.Waking.{StepSettles}

-- who is there after a step was there before it
there_before : (t : TaskShape) (w : Tables) (s : Sheet) (step : Step) (c : Cand) → IsLegal t w s step → IsThere t (narrowed s step) c → IsThere t s c
there_before t w s step (Tok x) legal h =
    subst (λ n. x < n) (sym (length_all_zip TokenBelow s.tokens (narrowed s step).tokens (down s (change_of s step) legal.moves).tokens)) h
there_before t w s step (Out a) legal h = h

pub step_settles : StepSettles
step_settles rules t w s step old new f legal settled more stays c there =
    elim (stays c there) [
      | inl k ↦ inl k
      | inr k ↦ elim (settled c (there_before t w s step c legal there)) [
        | inl m ↦ inl (more c m)
        | inr m ↦ inr (k s f legal refl m)
      ]
    ]
