use Rattle.std.proofs.Common.{◌≡◌, ℕ, inl, inr, List, ◌++◌, Result, Ok, sym, ap, ◌∙◌, subst, arith}
use Rattle.cpt_io.specs.Meaning.{Files}
use Rattle.cpt_task.specs.declared.plan.Occ.{Occ}
use Rattle.cpt_task.specs.declared.plan.Verdict.{Verdict}
use Rattle.cpt_task.specs.declared.plan.Verdict.TheVariants.{Valid, Overlap, Unmet, GoalMissing}
use Rattle.cpt_task.specs.Shape.{InBounds, TaskShape}
use Rattle.cpt_task.specs.Timeline.{makespan, IsPlan}
use Rattle.cpt_task.specs.Judging.{Judges}
use Rattle.cpt_task.proofs.OneVerdict.{one_verdict}
use Rattle.cpt_plan_text.specs.declared.reading.PlanText.{PlanText}
use Rattle.cpt_plan_text.specs.Spelling.{IsTextOf}
use Rattle.cpt_plan_text.proofs.OneText.{one_text}
use Rattle.cpt_answer.specs.declared.ending.Ending.{Ending}
use Rattle.cpt_answer.specs.Endings.{Answer, answer}
use Rattle.cpt_answer.specs.Giving.{Then}
use Rattle.cpt_answer.proofs.Giving.{then_by_once, then_once}
use Rattle.cpt_explain.proofs.Only.{one_fault_list}
use Rattle.cpt_files.specs.declared.accepted.Accepted.{Accepted}
use Rattle.cpt_files.specs.Accepted.{AcceptsTask}
use Rattle.cpt_files.proofs.Accepting.{is_accepted}
use Rattle.cpt_files.proofs.Once.{accepts_once}
use Rattle.cpt_kept.proofs.Standing.{stands_for}
use Rattle.cpt_tighten.specs.Chains.{IsChain}
use Rattle.cpt_tighten.proofs.Only.{one_chain, one_earliest}
use Rattle.cpt_validate.specs.Verdicts.{accepted_plan}
use Rattle.cpt_plan_files.specs.Explaining.{faults_answer, AnswersFaults, ExplainsPlan}
use Rattle.cpt_plan_files.specs.Texts.{critical_lines, makespan_line, IsTightText}
use Rattle.cpt_plan_files.specs.Tightening.{AnswersAt, AnswersTightly, TightensPlan}

-- a valid plan has one text at its earliest
text_once : (t : TaskShape) (plan : List Occ) (a b : List ℕ) → InBounds t → IsPlan t plan → IsTightText t plan a → IsTightText t plan b → a ≡ b
text_once t plan a b bounds of_task x y =
    let tight : x.tight ≡ y.tight = one_earliest t plan x.tight y.tight x.earliest y.earliest in
    let chain : x.chain ≡ y.chain = one_chain t plan y.tight x.chain y.chain bounds of_task y.earliest.schedule (subst (λ p. IsChain t plan p x.chain) tight x.links) y.links in
    let lines : x.lines ≡ y.lines = one_text t y.tight x.lines y.lines (subst (λ p. IsTextOf t p x.lines) tight x.spelled) y.spelled in
    x.is ∙ ap (λ p. x.lines ++ makespan_line (makespan t p) ++ critical_lines t p x.chain) tight ∙ ap (λ c. x.lines ++ makespan_line (makespan t y.tight) ++ critical_lines t y.tight c) chain
    ∙ ap (λ l. l ++ makespan_line (makespan t y.tight) ++ critical_lines t y.tight y.chain) lines ∙ sym y.is

at_once : (t : TaskShape) (plan : PlanText) (v : Verdict) (r s : Result Answer Ending) → InBounds t → Judges t plan.occs v → AnswersAt t plan v r → AnswersAt t plan v s → r ≡ s
at_once t plan (Valid m) r s bounds j a b = a.2 ∙ ap (λ text. Ok (answer 0 text)) (text_once t plan.occs a.0 b.0 bounds j.0.of_task a.1 b.1) ∙ sym b.2
at_once t plan (Overlap i k) r s bounds j a b = a ∙ sym b
at_once t plan (Unmet i p time) r s bounds j a b = a ∙ sym b
at_once t plan (GoalMissing p) r s bounds j a b = a ∙ sym b

tightly_once : (t : TaskShape) (plan : PlanText) (r s : Result Answer Ending) → InBounds t → AnswersTightly t plan r → AnswersTightly t plan s → r ≡ s
tightly_once t plan r s bounds a b =
    at_once t plan b.0 r s bounds b.1 (subst (λ v. AnswersAt t plan v r) (one_verdict t plan.occs a.0 b.0 a.1 b.1) a.2) b.2

bounds_of : (files : Files) (d p : List ℕ) (a : Accepted) → AcceptsTask files d p (Ok a) → InBounds a.kept.task
bounds_of files d p a ok = let holds = is_accepted files d p a ok in (stands_for files d p a.domain a.problem holds.0 a.kept holds.1).plain.bounds

-- a domain, a problem and a plan come to one end
pub tightens_once : (files : Files) (d p n : List ℕ) (r s : Result Answer Ending) → TightensPlan files d p n r → TightensPlan files d p n s → r ≡ s
tightens_once files d p n r s =
    then_by_once (AcceptsTask files d p) (λ a. Then (accepted_plan files a n) (AnswersTightly a.kept.task)) (accepts_once files d p)
    (λ a x y ok. then_once (accepted_plan files a n) (AnswersTightly a.kept.task) (λ plan u v _. tightly_once a.kept.task plan u v (bounds_of files d p a ok)) x y) r s

faults_once : (t : TaskShape) (plan : PlanText) (r s : Result Answer Ending) → AnswersFaults t plan r → AnswersFaults t plan s → r ≡ s
faults_once t plan r s (inl a) (inl b) = a.1 ∙ sym b.1
faults_once t plan r s (inl a) (inr b) = absurd (omega (arith, a.0, b.0))
faults_once t plan r s (inr a) (inl b) = absurd (omega (arith, a.0, b.0))
faults_once t plan r s (inr a) (inr b) = a.1.2 ∙ ap (λ faults. Ok (faults_answer t plan faults)) (one_fault_list t plan.occs a.1.0 b.1.0 a.1.1 b.1.1) ∙ sym b.1.2

-- and so where the plan is explained
pub explains_once : (files : Files) (d p n : List ℕ) (r s : Result Answer Ending) → ExplainsPlan files d p n r → ExplainsPlan files d p n s → r ≡ s
explains_once files d p n r s =
    then_by_once (AcceptsTask files d p) (λ a. Then (accepted_plan files a n) (AnswersFaults a.kept.task)) (accepts_once files d p)
    (λ a x y _. then_once (accepted_plan files a n) (AnswersFaults a.kept.task) (λ plan u v _. faults_once a.kept.task plan u v) x y) r s
