use Rattle.std.specs.Prelude.{◌≡◌, ◌≢◌, ◌<◌, ◌≤◌, ℕ, suc, ◌⊎◌, List, Result, Ok}
use Rattle.std.specs.Io.KnownBytes.{append_known}
use Rattle.cpt_io.specs.Meaning.{Files}
use Rattle.cpt_task.specs.Optimal.{HasNoPlan, IsOptimal, IsRefuted}
use Rattle.cpt_task.specs.Shape.{TaskShape}
use Rattle.cpt_task.specs.Timeline.{makespan}
use Rattle.cpt_task.specs.declared.plan.Occ.{Occ}
use Rattle.cpt_domain.specs.declared.domain.Domain.{Domain}
use Rattle.cpt_facts.specs.declared.problem.Problem.{Problem}
use Rattle.cpt_ground.specs.Reading.{IsReading}
use Rattle.cpt_ground.specs.Signed.{IsValidSigned, signed_makespan}
use Rattle.cpt_ground.specs.declared.signed.Signed.{Signed}
use Rattle.cpt_reach.specs.declared.pruning.Pruned.{Pruned}
use Rattle.cpt_reach.specs.Plans.{older_plan}
use Rattle.cpt_plan_text.specs.Knowing.{task_finds}
use Rattle.cpt_plan_text.specs.Meaning.{plan_of}
use Rattle.cpt_plan_text.specs.Spelling.{in_lines, plan_spelling}
use Rattle.cpt_answer.specs.declared.ending.Ending.{Ending}
use Rattle.cpt_answer.specs.Endings.{Answer}
use Rattle.cpt_answer.specs.Giving.{ThenBy}
use Rattle.cpt_answer.specs.Promise.{Call, IsAnswerOf, IsUndisturbed}
use Rattle.cpt_files.specs.Accepted.{AcceptsTask, IsAccepted}
use Rattle.cpt_outcome.specs.Enough.{enough}
use Rattle.cpt_outcome.specs.Outcomes.{SearchOutcome, budget_spent, never, none_up_to, optimal}
use Rattle.cpt_options.specs.declared.options.Budget.{Budget}
use Rattle.cpt_solve.specs.Lines.{no_plan_line, no_plan_up_to_line, outcome_answer, plan_lines, refuted_lines}
use Rattle.cpt_solve.specs.Searches.{HasLargeTree, HasSmallTrees, IsOutcome}

-- what solving a task comes to: the answer is that of the outcome
abbrev pub AnswersOutcome : TaskShape → Budget → Result Answer Ending → Type 0
AnswersOutcome t budget r = (o : SearchOutcome) × IsOutcome t budget o × (r ≡ Ok (outcome_answer t budget o))

-- what solving the domain and the problem of two files comes to: the kept part of their ground task is searched
abbrev pub SolvesFiles : Files → (domain_name problem_name : List ℕ) → Budget → Result Answer Ending → Type 0
SolvesFiles files domain_name problem_name budget = ThenBy (AcceptsTask files domain_name problem_name) (λ a. AnswersOutcome a.kept.task budget)

-- the two files hold a domain and a problem of it with this kept part of their ground task, and a search for a plan of the kept part
-- has this outcome
pub record HoldOutcome (files : Files) (domain_name problem_name : List ℕ) (budget : Budget) (o : SearchOutcome) : Type 0 where
  pub domain : Domain
  pub problem : Problem
  pub task : TaskShape
  pub kept : Pruned
  pub accepted : IsAccepted files domain_name problem_name domain problem task kept
  pub outcome : IsOutcome kept.task budget o

-- Lines that are written of a plan, whose actions have the numbers of the kept part, tell a best plan of this makespan. They are read
-- as that plan; with the actions' numbers in the ground task it is valid, and no valid plan of the ground task, of any number of
-- occurrences, has a smaller makespan; and this is so of the domain and the problem as they are read with absence.
pub record TellBestPlan (d : Domain) (p : Problem) (task : TaskShape) (kept : Pruned) (plan : List Occ) (m : ℕ) : Type 0 where
  pub read : plan_of (task_finds kept.task) kept.task (plan_spelling kept.task plan) ≡ Ok (in_lines plan)
  pub optimal : IsOptimal task (older_plan kept.actions plan)
  pub is : makespan task (older_plan kept.actions plan) ≡ m
  pub reading : Signed
  pub reads : IsReading d p reading
  pub valid_with_absence : IsValidSigned reading (older_plan kept.actions plan)
  pub is_with_absence : signed_makespan reading (older_plan kept.actions plan) ≡ m
  pub least_with_absence : (other : List Occ) → IsValidSigned reading other → m ≤ signed_makespan reading other

-- no valid plan of the ground task, of any number of occurrences, has a makespan of at most b, and none that is valid with absence has
pub record HaveNoneUpTo (d : Domain) (p : Problem) (task : TaskShape) (b : ℕ) : Type 0 where
  pub refuted : IsRefuted task b
  pub reading : Signed
  pub reads : IsReading d p reading
  pub with_absence : (other : List Occ) → IsValidSigned reading other → signed_makespan reading other ≤ b → ⊥

-- the ground task has no valid plan, and none is valid with absence
pub record HaveNone (d : Domain) (p : Problem) (task : TaskShape) : Type 0 where
  pub none : HasNoPlan task
  pub reading : Signed
  pub reads : IsReading d p reading
  pub with_absence : (other : List Occ) → IsValidSigned reading other → ⊥

-- the statuses where a search ends, and want of memory
abbrev pub IsDecided : ℕ → Type 0
IsDecided status = (status ≡ 0) ⊎ (status ≡ 2) ⊎ (status ≡ 3) ⊎ (status ≡ 9)

-- the call answered this status and wrote this text, or memory was refused
abbrev pub Answered : Call → ℕ → List ℕ → Type 0
Answered x status text = (x.status ≡ 9) ⊎ ((x.status ≡ status) × (x.new.written ≡ append_known x.old.written text))

-- what `solve` promises of a call, over the files
pub record SolvesProblem (files : Files) (domain_name problem_name : List ℕ) (budget : Budget) (x : Call) : Type 0 where
  -- It answers 0 only with the lines of a best plan.
  pub solved : x.status ≡ 0
      → (plan : List Occ) × (m : ℕ) × (held : HoldOutcome files domain_name problem_name budget (optimal m plan)) × TellBestPlan held.domain held.problem held.task held.kept plan m
      × (x.new.written ≡ append_known x.old.written (plan_lines held.kept.task plan m))
  -- It answers 2 only where there is no plan, or none up to the greatest makespan, and says which.
  pub refuted : x.status ≡ 2
      → ((held : HoldOutcome files domain_name problem_name budget never) × HaveNone held.domain held.problem held.task × (x.new.written ≡ append_known x.old.written no_plan_line))
      ⊎ ((held : HoldOutcome files domain_name problem_name budget none_up_to) × HaveNoneUpTo held.domain held.problem held.task budget.max × (x.new.written ≡ append_known x.old.written (no_plan_up_to_line budget.max)))
  -- It answers 3 only where there is none up to the makespan that it says, and the tree of the next one has more nodes than the budget,
  -- which is below the number that is enough for it.
  pub spent : x.status ≡ 3
      → (b : ℕ) × (held : HoldOutcome files domain_name problem_name budget (budget_spent b)) × HaveNoneUpTo held.domain held.problem held.task b × HasLargeTree held.kept.task budget.nodes (suc b)
      × (budget.nodes < enough held.kept.task (suc b)) × (x.new.written ≡ append_known x.old.written (refuted_lines b budget.nodes))
  -- Each outcome has its answer, which is given, unless a call fails or memory is refused.
  pub answers : (o : SearchOutcome) (held : HoldOutcome files domain_name problem_name budget o) → IsUndisturbed x
      → Answered x (outcome_answer held.kept.task budget o).status (outcome_answer held.kept.task budget o).text
  -- The files have one answer, which is given, unless a call fails or memory is refused.
  pub complete : (a : Answer) → IsAnswerOf (SolvesFiles files domain_name problem_name budget) a → a.status ≢ 7 → IsUndisturbed x → Answered x a.status a.text
  -- Where the domain and the problem are accepted it answers 0, 2 or 3, unless a call fails or memory is refused.
  pub decides : (d : Domain) (p : Problem) (task : TaskShape) (kept : Pruned) → IsAccepted files domain_name problem_name d p task kept → IsUndisturbed x → IsDecided x.status
  -- And it answers 0 where there is an optimal plan within the greatest makespan and no tree up to its makespan has more nodes than the
  -- budget.
  pub finds : (d : Domain) (p : Problem) (task : TaskShape) (kept : Pruned) (plan : List Occ) → IsAccepted files domain_name problem_name d p task kept → IsOptimal task plan → makespan task plan ≤ budget.max
      → HasSmallTrees kept.task budget.nodes (makespan task plan) → IsUndisturbed x → (x.status ≡ 9) ⊎ (x.status ≡ 0)
  -- And 2 where there is none and no tree up to the greatest makespan has more nodes than the budget.
  pub finds_none : (d : Domain) (p : Problem) (task : TaskShape) (kept : Pruned) → IsAccepted files domain_name problem_name d p task kept → IsRefuted task budget.max → HasSmallTrees kept.task budget.nodes budget.max
      → IsUndisturbed x → (x.status ≡ 9) ⊎ (x.status ≡ 2)
