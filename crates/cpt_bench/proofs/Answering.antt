-- what is answered at what a search found
use Rattle.std.proofs.Common.{◌≡◌, ◌≢◌, ℕ, Bool, List, Option, None, Some, Result, Ok, Err, IfSome, refl, sym, ap, ◌∙◌, subst}
use Rattle.cpt_io.specs.Meaning.{Files}
use Rattle.cpt_task.specs.Shape.{TaskShape}
use Rattle.cpt_task.specs.declared.plan.Occ.{Occ}
use Rattle.cpt_tables.specs.declared.tables.Tables.{Tables}
use Rattle.cpt_answer.specs.declared.ending.Ending.{Ending}
use Rattle.cpt_answer.specs.declared.ending.Ending.TheVariants.{Because, Read, Memory}
use Rattle.cpt_answer.specs.declared.ending.Reply.{Reply}
use Rattle.cpt_answer.specs.Endings.{Answer, answer, reply_answer}
use Rattle.cpt_answer.specs.Giving.{Gives}
use Rattle.cpt_answer.proofs.Giving.{gives_weaker, then_by_error, then_by_ok}
use Rattle.cpt_cert_form.specs.declared.forms.Claim.TheVariants as claims
use Rattle.cpt_check.specs.declared.judged.Judged.{Judged}
use Rattle.cpt_check.specs.declared.judged.Ruling.{Ruling}
use Rattle.cpt_check.specs.declared.judged.Ruling.TheVariants as rulings
use Rattle.cpt_evidence.specs.Evidence.{claim_of}
use Rattle.cpt_files.specs.declared.accepted.Accepted.{Accepted}
use Rattle.cpt_files.specs.Accepted.{AcceptsTask}
use Rattle.cpt_options.specs.declared.options.Budget.{Budget}
use Rattle.cpt_outcome.specs.Outcomes.{HasOutcome, SearchOutcome, budget_spent, never, none_up_to, optimal}
use Rattle.cpt_solve.specs.Lines.{outcome_answer, outcome_status}
use Rattle.cpt_solve.specs.Searches.{AreBestTables, IsOutcome, full_search}
use Rattle.cpt_bench.specs.Commands.{AnswersBench, BenchesMade, BenchesTask}
use Rattle.cpt_bench.specs.Judging.{JudgesProof}
use Rattle.cpt_bench.specs.Lines.{summary_lines}
use Rattle.cpt_bench.specs.Made.{default_budget, domain_name, made_files, problem_name}

-- a status of 0 is that of a plan
pub record IsOfPlan (o : SearchOutcome) : Type 0 where
  pub makespan : ℕ
  pub plan : List Occ
  pub is : o ≡ optimal makespan plan

pub plan_of_zero : (o : SearchOutcome) → outcome_status o ≡ 0 → IsOfPlan o
plan_of_zero (optimal m plan) zero = record { makespan = m; plan = plan; is = refl }
plan_of_zero none_up_to zero = absurd (cc)
plan_of_zero never zero = absurd (cc)
plan_of_zero (budget_spent b) zero = absurd (cc)

-- the checker accepted a plan as optimal
pub optimal_accepted : (most n : ℕ) (o : SearchOutcome) (ruling : Ruling) → outcome_status o ≡ 0 → ruling ≡ rulings.Accepted (claim_of most n o) → (m : ℕ) × (ruling ≡ rulings.Accepted (claims.Optimal m))
optimal_accepted most n o ruling zero is = let k = plan_of_zero o zero in (k.makespan, is ∙ ap (λ o. rulings.Accepted (claim_of most n o)) k.is)

pub ruling_judged : (t : TaskShape) (b : Tables) (budget : Budget) (o : SearchOutcome) (judged : Judged) → JudgesProof t b budget o (Ok judged) → judged.ruling ≡ rulings.Accepted (claim_of budget.max budget.nodes o)
ruling_judged t b budget o judged (text, proof, size, is) = is

same_claim : (m k : ℕ) (ruling : Ruling) → ruling ≡ rulings.Accepted (claims.Optimal m) → ruling ≡ rulings.Accepted (claims.Optimal k) → m ≡ k
same_claim m k ruling h l = let e : rulings.Accepted (claims.Optimal m) ≡ rulings.Accepted (claims.Optimal k) = sym h ∙ l in cc

module _ (n : ℕ) (t : TaskShape) (b : Tables) (budget : Budget) (best : AreBestTables t b) where
  at_plan : (m : ℕ) (plan : List Occ) → HasOutcome (full_search t b) budget.max budget.nodes (optimal m plan) → (judged : Judged) (k : ℕ) (a : Answer) → JudgesProof t b budget (optimal m plan) (Ok judged) → judged.ruling ≡ rulings.Accepted (claims.Optimal k)
      → a ≡ answer 0 (summary_lines n t k) → AnswersBench n t budget (optimal m plan) (Ok a)
  at_plan m plan has judged k a (text, proof, size, ruling) accepted is =
      let same : k ≡ m = same_claim k m judged.ruling accepted ruling in
      (text, record { tables = b; best = best; has = has; proof = proof }, (size, is ∙ ap (λ m. answer 0 (summary_lines n t m)) same))

  -- the summary is answered
  pub summary_answers : (o : SearchOutcome) → outcome_status o ≡ 0 → HasOutcome (full_search t b) budget.max budget.nodes o → (judged : Judged) (k : ℕ) (a : Answer) → JudgesProof t b budget o (Ok judged) → judged.ruling ≡ rulings.Accepted (claims.Optimal k)
      → a ≡ answer 0 (summary_lines n t k) → AnswersBench n t budget o (Ok a)
  summary_answers (optimal m plan) zero has judged k a proof accepted is = at_plan m plan has judged k a proof accepted is
  summary_answers none_up_to zero has judged k a proof accepted is = absurd (cc)
  summary_answers never zero has judged k a proof accepted is = absurd (cc)
  summary_answers (budget_spent r) zero has judged k a proof accepted is = absurd (cc)

  long_plan : (m : ℕ) (plan : List Occ) → HasOutcome (full_search t b) budget.max budget.nodes (optimal m plan) → (e : Ending) → JudgesProof t b budget (optimal m plan) (Err e) → AnswersBench n t budget (optimal m plan) (Err e)
  long_plan m plan has e (text, proof, long, is) = (text, record { tables = b; best = best; has = has; proof = proof }, (long, is))

  long_answers : (o : SearchOutcome) → outcome_status o ≡ 0 → HasOutcome (full_search t b) budget.max budget.nodes o → (e : Ending) → JudgesProof t b budget o (Err e) → AnswersBench n t budget o (Err e)
  long_answers (optimal m plan) zero has e proof = long_plan m plan has e proof
  long_answers none_up_to zero has e proof = absurd (cc)
  long_answers never zero has e proof = absurd (cc)
  long_answers (budget_spent r) zero has e proof = absurd (cc)

  -- how it ends where the certificate is not judged
  pub unjudged_answers : (o : SearchOutcome) → outcome_status o ≡ 0 → HasOutcome (full_search t b) budget.max budget.nodes o → (steady : Bool) (e : Ending) → Gives steady (λ (j : Judged). j) (Err e) (JudgesProof t b budget o)
      → Gives steady reply_answer (Err e) (AnswersBench n t budget o)
  unjudged_answers o zero has steady (Because cause) g = long_answers o zero has (Because cause) g
  unjudged_answers o zero has steady Read g = λ always. long_answers o zero has Read (g always)
  unjudged_answers o zero has steady Memory g = tt

-- where there is no plan the answer is that of `solve`
pub solved_answers : (n : ℕ) (t : TaskShape) (budget : Budget) (o : SearchOutcome) (a : Answer) → outcome_status o ≢ 0 → a ≡ outcome_answer t budget o → AnswersBench n t budget o (Ok a)
solved_answers n t budget (optimal m plan) a not is = absurd (not refl)
solved_answers n t budget none_up_to a not is = ap Ok is
solved_answers n t budget never a not is = ap Ok is
solved_answers n t budget (budget_spent b) a not is = ap Ok is

-- what is answered at the outcome is answered of the task
pub task_answers : (n : ℕ) (t : TaskShape) (b : Tables) (budget : Budget) (o : SearchOutcome) → budget ≡ default_budget → AreBestTables t b → HasOutcome (full_search t b) budget.max budget.nodes o → (steady : Bool) (r : Result Reply Ending)
    → Gives steady reply_answer r (AnswersBench n t budget o) → Gives steady reply_answer r (BenchesTask n t)
task_answers n t b budget o same best has steady r g =
    let has_default : HasOutcome (full_search t b) default_budget.max default_budget.nodes o = subst (λ (budget : Budget). HasOutcome (full_search t b) budget.max budget.nodes o) same has in
    let is : IsOutcome t default_budget o = record { tables = b; best = best; has = has_default } in
    gives_weaker steady reply_answer r (AnswersBench n t default_budget o) (BenchesTask n t) (λ y k. (o, is, k)) (subst (λ (budget : Budget). Gives steady reply_answer r (AnswersBench n t budget o)) same g)

-- and of the made problem
pub made_answers : (n : ℕ) (a : Accepted) (steady : Bool) (r : Result Reply Ending) → AcceptsTask (made_files n) domain_name problem_name (Ok a) → Gives steady reply_answer r (BenchesTask n a.kept.task) → Gives steady reply_answer r (BenchesMade n)
made_answers n a steady r h g = then_by_ok steady reply_answer (AcceptsTask (made_files n) domain_name problem_name) a r (λ a. BenchesTask n a.kept.task) h g

pub made_ends : (n : ℕ) (steady : Bool) (e : Ending) → Gives steady (λ (a : Accepted). a) (Err e) (AcceptsTask (made_files n) domain_name problem_name) → Gives steady reply_answer (Err e) (BenchesMade n)
made_ends n steady e g = then_by_error steady (λ (a : Accepted). a) reply_answer (AcceptsTask (made_files n) domain_name problem_name) e (λ a. BenchesTask n a.kept.task) g

-- what is so beside any files
pub beside : (o : Option Files) (Z : Type 0) → Z → IfSome o (λ files. Z)
beside None Z z = tt
beside (Some files) Z z = z
