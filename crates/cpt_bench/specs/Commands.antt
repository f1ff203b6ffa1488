use Rattle.std.specs.Prelude.{◌≡◌, ◌<◌, ◌≤◌, ℕ, suc, ◌⊎◌, List, length, Result, Ok, Err}
use Rattle.std.specs.Io.KnownBytes.{append_known}
use Rattle.cpt_task.specs.Optimal.{IsOptimal}
use Rattle.cpt_task.specs.Shape.{TaskShape}
use Rattle.cpt_task.specs.Timeline.{makespan}
use Rattle.cpt_task.specs.declared.memory.Limit.{Limit}
use Rattle.cpt_task.specs.declared.memory.Limit.TheVariants.{Certificate}
use Rattle.cpt_task.specs.declared.plan.Occ.{Occ}
use Rattle.cpt_domain.specs.declared.domain.Domain.{Domain}
use Rattle.cpt_facts.specs.declared.problem.Problem.{Problem}
use Rattle.cpt_ground.specs.Reading.{IsReading}
use Rattle.cpt_ground.specs.Signed.{IsValidSigned, signed_makespan}
use Rattle.cpt_ground.specs.declared.signed.Signed.{Signed}
use Rattle.cpt_reach.specs.declared.pruning.Pruned.{Pruned}
use Rattle.cpt_answer.specs.declared.ending.Cause.TheVariants.{Passed}
use Rattle.cpt_answer.specs.declared.ending.Ending.{Ending}
use Rattle.cpt_answer.specs.declared.ending.Ending.TheVariants.{Because}
use Rattle.cpt_answer.specs.Endings.{Answer, answer, answer_of}
use Rattle.cpt_answer.specs.Giving.{ThenBy}
use Rattle.cpt_answer.specs.Promise.{Call, IsUndisturbed}
use Rattle.cpt_files.specs.Accepted.{AcceptsTask, IsAccepted}
use Rattle.cpt_cert_form.specs.declared.forms.Claim.TheVariants as claims
use Rattle.cpt_cert_form.specs.declared.forms.Version.TheVariants.{Two}
use Rattle.cpt_check_files.specs.Rulings.{cert_limit}
use Rattle.cpt_outcome.specs.Enough.{enough}
use Rattle.cpt_outcome.specs.Outcomes.{SearchOutcome, budget_spent, never, none_up_to, optimal}
use Rattle.cpt_options.specs.declared.options.Budget.{Budget}
use Rattle.cpt_solve.specs.Commands.{HaveNone, HaveNoneUpTo, HoldOutcome}
use Rattle.cpt_solve.specs.Lines.{no_plan_line, no_plan_up_to_line, outcome_answer, refuted_lines}
use Rattle.cpt_solve.specs.Searches.{HasLargeTree, IsOutcome}
use Rattle.cpt_prove.specs.Commands.{HoldProof, IsCheckable, IsFound, IsProof}
use Rattle.cpt_bench.specs.Lines.{summary_lines}
use Rattle.cpt_bench.specs.Made.{default_budget, domain_name, made_files, problem_name}

-- the summary, or that the certificate with this text is too long
abbrev pub AnswersSummary : ℕ → TaskShape → ℕ → List ℕ → Result Answer Ending → Type 0
AnswersSummary n t m text (Ok a) = (length text ≤ cert_limit) × (a ≡ answer 0 (summary_lines n t m))
AnswersSummary n t m text (Err e) = (cert_limit < length text) × (e ≡ Because (Passed Certificate))

-- What the made problem of size n comes to at an outcome over its kept task: at a plan the summary, unless a certificate of the
-- outcome is too long, and else the answer of `solve`. Which steps a certificate has is free, and so is whether it is too long.
abbrev pub AnswersBench : ℕ → TaskShape → Budget → SearchOutcome → Result Answer Ending → Type 0
AnswersBench n t budget (optimal m plan) r = (text : List ℕ) × IsProof t budget (optimal m plan) Two text × AnswersSummary n t m text r
AnswersBench n t budget none_up_to r = r ≡ Ok (outcome_answer t budget none_up_to)
AnswersBench n t budget never r = r ≡ Ok (outcome_answer t budget never)
AnswersBench n t budget (budget_spent b) r = r ≡ Ok (outcome_answer t budget (budget_spent b))

-- what the made problem of size n comes to, where this is its kept task
abbrev pub BenchesTask : ℕ → TaskShape → Result Answer Ending → Type 0
BenchesTask n t r = (o : SearchOutcome) × IsOutcome t default_budget o × AnswersBench n t default_budget o r

-- what the made problem of size n comes to: its texts are read, grounded and pruned as those of files are
abbrev pub BenchesMade : ℕ → Result Answer Ending → Type 0
BenchesMade n = ThenBy (AcceptsTask (made_files n) domain_name problem_name) (λ a. BenchesTask n a.kept.task)

-- this is the makespan of an optimal plan of the ground task, among plans of any number of occurrences; and so it is of the domain
-- and the problem as they are read with absence
pub record IsLeastMakespan (d : Domain) (p : Problem) (task : TaskShape) (m : ℕ) : Type 0 where
  pub plan : List Occ
  pub optimal : IsOptimal task plan
  pub is : makespan task plan ≡ m
  pub reading : Signed
  pub reads : IsReading d p reading
  pub valid_with_absence : IsValidSigned reading plan
  pub is_with_absence : signed_makespan reading plan ≡ m
  pub least_with_absence : (other : List Occ) → IsValidSigned reading other → m ≤ signed_makespan reading other

-- a search for a plan of the kept part of the made problem's ground task has this outcome
abbrev pub MadeHasOutcome : ℕ → SearchOutcome → Type 0
MadeHasOutcome n o = HoldOutcome (made_files n) domain_name problem_name default_budget o

-- and this is a certificate of the outcome, of the second version and not too long
abbrev pub MadeHasProof : ℕ → SearchOutcome → List ℕ → Type 0
MadeHasProof n o text = HoldProof (made_files n) domain_name problem_name default_budget Two o text

-- a search finds a plan, and this certificate of it is too long
abbrev pub HasLongProof : ℕ → Type 0
HasLongProof n = (plan : List Occ) × (m : ℕ) × (held : MadeHasOutcome n (optimal m plan)) × ((text : List ℕ) × IsProof held.kept.task default_budget (optimal m plan) Two text × (cert_limit < length text))

-- the made texts or their task pass a limit
abbrev pub PassesLimit : ℕ → Type 0
PassesLimit n = (which : Limit) × AcceptsTask (made_files n) domain_name problem_name (Err (Because (Passed which)))

-- what `bench` promises of a call
pub record BenchesProblem (n : ℕ) (x : Call) : Type 0 where
  -- It answers 0 only with the summary: how many atoms and actions the kept task has, the makespan of an optimal plan, and the line
  -- that `check` writes of a certificate that this is so.
  pub solved : x.status ≡ 0
      → (plan : List Occ) × (m : ℕ) × (text : List ℕ) × (held : MadeHasProof n (optimal m plan) text) × IsLeastMakespan held.domain held.problem held.task m
      × IsCheckable (made_files n) domain_name problem_name Two (claims.Optimal m) text × (x.new.written ≡ append_known x.old.written (summary_lines n held.kept.task m))
  -- It answers 2 only where there is no plan, or none up to the greatest makespan, and says which.
  pub refuted : x.status ≡ 2
      → ((held : MadeHasOutcome n never) × HaveNone held.domain held.problem held.task × (x.new.written ≡ append_known x.old.written no_plan_line))
      ⊎ ((held : MadeHasOutcome n none_up_to) × HaveNoneUpTo held.domain held.problem held.task default_budget.max × (x.new.written ≡ append_known x.old.written (no_plan_up_to_line default_budget.max)))
  -- It answers 3 only where there is none up to the makespan that it says, and the tree of the next one has more nodes than the budget,
  -- which is below the number that is enough for it.
  pub spent : x.status ≡ 3
      → (b : ℕ) × (held : MadeHasOutcome n (budget_spent b)) × HaveNoneUpTo held.domain held.problem held.task b × HasLargeTree held.kept.task default_budget.nodes (suc b)
      × (default_budget.nodes < enough held.kept.task (suc b)) × (x.new.written ≡ append_known x.old.written (refuted_lines b default_budget.nodes))
  -- It answers 6 only where a certificate of the plan is too long, or the made texts or their task pass a limit.
  pub limited : x.status ≡ 6 → HasLongProof n ⊎ PassesLimit n
  -- Where a search has an outcome it answers what the made problem comes to at that outcome, unless a call fails or memory is refused.
  pub answers : (o : SearchOutcome) (held : MadeHasOutcome n o) → IsUndisturbed x
      → (x.status ≡ 9) ⊎ ((r : Result Answer Ending) × AnswersBench n held.kept.task default_budget o r × (x.status ≡ (answer_of r).status) × (x.new.written ≡ append_known x.old.written (answer_of r).text))
  -- Where the made problem is accepted it answers 0, 2, 3, or 6, unless a call fails or memory is refused.
  pub decides : (d : Domain) (p : Problem) (task : TaskShape) (kept : Pruned) → IsAccepted (made_files n) domain_name problem_name d p task kept → IsUndisturbed x
      → (x.status ≡ 9) ⊎ (x.status ≡ 6) ⊎ IsFound x.status
