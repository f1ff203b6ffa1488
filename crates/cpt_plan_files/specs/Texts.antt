use Rattle.std.specs.Prelude.{◌≡◌, ℕ, List, ◌++◌, codes}
use Rattle.std.specs.Fmt.{decimal}
use Rattle.std.specs.List.{flat_map}
use Rattle.cpt_task.specs.declared.plan.Occ.{Occ}
use Rattle.cpt_task.specs.Shape.{TaskShape}
use Rattle.cpt_task.specs.Timeline.{action_of, makespan, occurrence_at}
use Rattle.cpt_plan_text.specs.Spelling.{IsTextOf}
use Rattle.cpt_answer.specs.Lines.{line_of}
use Rattle.cpt_tighten.specs.Chains.{IsChain}
use Rattle.cpt_tighten.specs.Schedules.{IsEarliest}

-- the line of a makespan
abbrev pub makespan_line : ℕ → List ℕ
makespan_line m = line_of (codes "; makespan " ++ decimal m)

-- the line of an occurrence of the chain: its start and its name
abbrev pub critical_line : TaskShape → Occ → List ℕ
critical_line t o = codes "; critical " ++ decimal o.start ++ codes ": " ++ (action_of t o).name ++ codes "\n"

-- a line for each place of the chain
abbrev pub critical_lines : TaskShape → List Occ → List ℕ → List ℕ
critical_lines t plan chain = flat_map (λ k. critical_line t (occurrence_at plan k)) chain

-- the text of the plan at its earliest: its lines, its makespan, and its chain
pub record IsTightText (t : TaskShape) (plan : List Occ) (text : List ℕ) : Type 0 where
  pub tight : List Occ
  pub chain : List ℕ
  pub lines : List ℕ
  pub earliest : IsEarliest t plan tight
  pub links : IsChain t plan tight chain
  pub spelled : IsTextOf t tight lines
  pub is : text ≡ lines ++ makespan_line (makespan t tight) ++ critical_lines t tight chain
