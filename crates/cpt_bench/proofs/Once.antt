-- a made problem has one answer, but that a certificate of its plan may be too long
use Rattle.std.proofs.Common.{◌≡◌, ℕ, ◌⊎◌, inl, inr, List, Result, Ok, Err, sym, ap, ◌∙◌, subst}
use Rattle.cpt_task.specs.Shape.{TaskShape}
use Rattle.cpt_answer.specs.declared.ending.Ending.{Ending}
use Rattle.cpt_answer.specs.Endings.{Answer, answer_of}
use Rattle.cpt_answer.specs.Giving.{Then}
use Rattle.cpt_files.specs.declared.accepted.Accepted.{Accepted}
use Rattle.cpt_files.proofs.Once.{accepts_once}
use Rattle.cpt_options.specs.declared.options.Budget.{Budget}
use Rattle.cpt_outcome.specs.Outcomes.{SearchOutcome, budget_spent, never, none_up_to, optimal}
use Rattle.cpt_solve.proofs.Outcomes.{outcome_once}
use Rattle.cpt_bench.specs.Commands.{AnswersBench, AnswersSummary, BenchesMade, BenchesTask}
use Rattle.cpt_bench.specs.Laws.{OneBench}
use Rattle.cpt_bench.specs.Made.{default_budget, domain_name, made_files, problem_name}

-- two answers are the same, or one is a summary and the other that a certificate is too long
abbrev AreOne : Answer → Answer → Type 0
AreOne a b = (a ≡ b) ⊎ ((a.status ≡ 0) × (b.status ≡ 6)) ⊎ ((a.status ≡ 6) × (b.status ≡ 0))

same_one : (a b : Answer) → a ≡ b → AreOne a b
same_one a b e = inl e

summaries_once : (n : ℕ) (t : TaskShape) (m : ℕ) (text other : List ℕ) (r s : Result Answer Ending) → AnswersSummary n t m text r → AnswersSummary n t m other s → AreOne (answer_of r) (answer_of s)
summaries_once n t m text other (Ok a) (Ok b) (size, h) (small, k) = inl (h ∙ sym k)
summaries_once n t m text other (Ok a) (Err e) (size, h) (long, k) = inr (inl (ap (λ (a : Answer). a.status) h, ap (λ (e : Ending). (answer_of (Err e)).status) k))
summaries_once n t m text other (Err e) (Ok b) (long, h) (size, k) = inr (inr (ap (λ (e : Ending). (answer_of (Err e)).status) h, ap (λ (a : Answer). a.status) k))
summaries_once n t m text other (Err e) (Err f) (long, h) (longer, k) = inl (ap (λ (e : Ending). answer_of (Err e)) (h ∙ sym k))

answers_once : (n : ℕ) (t : TaskShape) (budget : Budget) (o : SearchOutcome) (r s : Result Answer Ending) → AnswersBench n t budget o r → AnswersBench n t budget o s → AreOne (answer_of r) (answer_of s)
answers_once n t budget (optimal m plan) r s (text, proof, h) (other, also, k) = summaries_once n t m text other r s h k
answers_once n t budget none_up_to r s h k = inl (ap answer_of (h ∙ sym k))
answers_once n t budget never r s h k = inl (ap answer_of (h ∙ sym k))
answers_once n t budget (budget_spent b) r s h k = inl (ap answer_of (h ∙ sym k))

task_once : (n : ℕ) (t : TaskShape) (r s : Result Answer Ending) → BenchesTask n t r → BenchesTask n t s → AreOne (answer_of r) (answer_of s)
task_once n t r s (o, has, h) (p, also, k) =
    let same : p ≡ o = outcome_once t default_budget p o also has in
    answers_once n t default_budget o r s h (subst (λ p. AnswersBench n t default_budget p s) same k)

stage_once : (n : ℕ) (x : Result Accepted Ending) (r s : Result Answer Ending) → Then x (λ a. BenchesTask n a.kept.task) r → Then x (λ a. BenchesTask n a.kept.task) s → AreOne (answer_of r) (answer_of s)
stage_once n (Ok a) r s h k = task_once n a.kept.task r s h k
stage_once n (Err e) r s h k = inl (ap answer_of (h ∙ sym k))

pub benches_once : (n : ℕ) (r s : Result Answer Ending) → BenchesMade n r → BenchesMade n s → AreOne (answer_of r) (answer_of s)
benches_once n r s (x, is, h) (y, also, k) =
    let same : y ≡ x = accepts_once (made_files n) domain_name problem_name y x also is in
    stage_once n x r s h (subst (λ y. Then y (λ (a : Accepted). BenchesTask n a.kept.task) s) same k)

pub one_bench : OneBench
one_bench n a b (r, h, is) (s, k, also) = subst (λ a. AreOne a b) (sym is) (subst (AreOne (answer_of r)) (sym also) (benches_once n r s h k))
