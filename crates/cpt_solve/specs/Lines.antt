use Rattle.std.specs.Prelude.{ℕ, List, ◌++◌, codes}
use Rattle.std.specs.Fmt.{decimal}
use Rattle.cpt_task.specs.Shape.{TaskShape}
use Rattle.cpt_task.specs.declared.plan.Occ.{Occ}
use Rattle.cpt_plan_text.specs.Spelling.{plan_spelling}
use Rattle.cpt_answer.specs.Endings.{Answer}
use Rattle.cpt_answer.specs.Lines.{line_of}
use Rattle.cpt_outcome.specs.Outcomes.{SearchOutcome, budget_spent, never, none_up_to, optimal}
use Rattle.cpt_options.specs.declared.options.Budget.{Budget}

-- the line of a makespan
abbrev pub makespan_line : ℕ → List ℕ
makespan_line m = line_of (codes "; makespan " ++ decimal m)

-- the lines of a plan and that of its makespan
abbrev pub plan_lines : TaskShape → List Occ → ℕ → List ℕ
plan_lines t plan m = plan_spelling t plan ++ makespan_line m

-- that there is no plan
abbrev pub no_plan_line : List ℕ
no_plan_line = line_of (codes "; no plan")

-- that there is no plan up to a makespan
abbrev pub no_plan_up_to_line : ℕ → List ℕ
no_plan_up_to_line b = line_of (codes "; no plan up to " ++ decimal b)

-- that there is none up to a makespan, and that so many nodes of the next bound are spent
abbrev pub refuted_line : ℕ → List ℕ
refuted_line b = line_of (codes "; refuted " ++ decimal b)

-- the line of the number of nodes
abbrev pub nodes_line : ℕ → List ℕ
nodes_line n = line_of (codes "; nodes " ++ decimal n)

-- the lines of a refuted bound
abbrev pub refuted_lines : ℕ → ℕ → List ℕ
refuted_lines b n = refuted_line b ++ nodes_line n

-- the exit status at an outcome
abbrev pub outcome_status : SearchOutcome → ℕ
outcome_status (optimal m plan) = 0
outcome_status none_up_to = 2
outcome_status never = 2
outcome_status (budget_spent refuted) = 3

-- what is written of an outcome
abbrev pub outcome_text : TaskShape → Budget → SearchOutcome → List ℕ
outcome_text t budget (optimal m plan) = plan_lines t plan m
outcome_text t budget none_up_to = no_plan_up_to_line budget.max
outcome_text t budget never = no_plan_line
outcome_text t budget (budget_spent refuted) = refuted_lines refuted budget.nodes

-- what is answered at an outcome
abbrev pub outcome_answer : TaskShape → Budget → SearchOutcome → Answer
outcome_answer t budget o = record { status = outcome_status o; text = outcome_text t budget o }
