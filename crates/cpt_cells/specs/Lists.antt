use Rattle.std.specs.Prelude.{◌≡◌, ℕ, List, Option, Some, None, length, map}
use Rattle.cpt_task.specs.Shape.{TaskShape}
use Rattle.cpt_tables.specs.declared.tables.Tables.{Tables}
use Rattle.cpt_sheet.specs.declared.data.Cand.{Cand}
use Rattle.cpt_sheet.specs.declared.data.Cand.TheVariants.{Tok, Out}
use Rattle.cpt_sheet.specs.declared.data.Sheet.{Sheet}
use Rattle.cpt_sheet.specs.declared.data.Step.{Step}
use Rattle.cpt_sheet.specs.Edits.{with_list}
use Rattle.cpt_sheet.specs.Formed.{IsFormed}
use Rattle.cpt_sheet.specs.View.{has}
use Rattle.cpt_calculus.specs.Rules.{IsLegal}
use Rattle.cpt_layout.specs.Places.{kept, table}

-- the two sheets are the same but for the list of x for p
pub record IsSameBut (s t : Sheet) (x p : ℕ) : Type 0 where
  pub same : (cs : List Cand) → with_list t x p (λ ds. cs) ≡ with_list s x p (λ ds. cs)
  pub tokens : length t.tokens ≡ length s.tokens

-- the tokens below n of a list, and those of these outside actions that are in it
abbrev pub tokens_in : List Cand → ℕ → List Cand
tokens_in cs n = kept (λ c. has c cs) (table Tok 0 n)

-- the outside actions of these that stand in a list
abbrev pub outs_in : List Cand → List ℕ → List Cand
outs_in cs bs = kept (λ c. has c cs) (map Out bs)

-- the number of a token, and 0 for anything else
abbrev pub token_of : Option Cand → ℕ
token_of (Some (Tok y)) = y
token_of (Some (Out a)) = 0
token_of None = 0

-- the step is legal for some task and its tables, and the sheet is formed for the task
pub record IsStepOf (s : Sheet) (step : Step) : Type 0 where
  pub task : TaskShape
  pub tables : Tables
  pub formed : IsFormed task s
  pub legal : IsLegal task tables s step
