use Rattle.std.proofs.Common.{◌≡◌, ◌≢◌, ℕ, ◌⊎◌, inl, inr, List, [], ◌∷◌, ◌++◌, Option, Result, Ok, Err, IfSome, refl, sym, ap, ◌∙◌, subst, arith}
use Rattle.std.specs.Io.KnownBytes.{append_known}
use Rattle.cpt_io.specs.Meaning.{Files}
use Rattle.cpt_task.specs.declared.plan.Verdict.{Verdict}
use Rattle.cpt_task.specs.Shape.{TaskShape}
use Rattle.cpt_task.specs.Timeline.{makespan, IsPlan, IsValid}
use Rattle.cpt_plan_text.specs.declared.reading.PlanText.{PlanText}
use Rattle.cpt_answer.specs.declared.ending.Ending.{Ending}
use Rattle.cpt_answer.specs.Endings.{Answer, answer_of, ending_answer, read_answer}
use Rattle.cpt_answer.specs.Giving.{Then}
use Rattle.cpt_answer.specs.Lines.{valid_line}
use Rattle.cpt_answer.specs.Promise.{AnswersOver, Call, IsAnswerOf, Performs}
use Rattle.cpt_answer.proofs.Giving.{if_some_weaker}
use Rattle.cpt_answer.proofs.Promise.{given, performs_over, told_of, undisturbed}
use Rattle.cpt_explain.proofs.Validity.{no_faults_where_valid}
use Rattle.cpt_files.specs.declared.accepted.Accepted.{Accepted}
use Rattle.cpt_files.specs.Accepted.{accepted}
use Rattle.cpt_files.proofs.Accepting.{accepted_is}
use Rattle.cpt_files.proofs.Once.{accepts_once}
use Rattle.cpt_reach.specs.declared.pruning.Pruned.{Pruned}
use Rattle.cpt_validate.specs.Verdicts.{AnswersVerdict, JudgesPlan, accepted_plan}
use Rattle.cpt_plan_files.specs.Commands.{ExplainsProblem, HoldReadPlan}
use Rattle.cpt_plan_files.specs.Explaining.{faults_answer, faults_line, too_many_answer, AnswersFaults, ExplainsPlan}
use Rattle.cpt_plan_files.proofs.Holding.{zero_is_held}

-- where the files hold a plan that is read, what is come to is that of this plan
at_read : (files : Files) (dn pn n : List ℕ) (kept : Pruned) (plan : PlanText) (r : Result Answer Ending) → HoldReadPlan files dn pn n kept plan → ExplainsPlan files dn pn n r → AnswersFaults kept.task plan r
at_read files dn pn n kept plan r h p =
    let a = accepted h.domain h.problem kept in
    let same : p.0 ≡ Ok a = accepts_once files dn pn p.0 (Ok a) p.1 (accepted_is files dn pn h.domain h.problem h.task kept h.accepted) in
    let later : Then (accepted_plan files a n) (AnswersFaults kept.task) r = subst (λ (x : Result Accepted Ending). Then x (λ b. Then (accepted_plan files b n) (AnswersFaults b.kept.task)) r) same p.2 in
    subst (λ (y : Result PlanText Ending). Then y (AnswersFaults kept.task) r) h.plan_file later

-- the statuses at faults
status_of : (task : TaskShape) (plan : PlanText) (faults : List Verdict) → ((faults_answer task plan faults).status ≡ 0) ⊎ ((faults_answer task plan faults).status ≡ 1)
status_of task plan [] = inl refl
status_of task plan (v ∷ vs) = inr refl

not_seven : (task : TaskShape) (plan : PlanText) (r : Result Answer Ending) → AnswersFaults task plan r → (answer_of r).status ≢ 7
not_seven task plan r (inl many) seven = let z : 6 ≡ 7 = sym (ap (λ x. (answer_of x).status) many.1) ∙ seven in cc z
not_seven task plan r (inr some) seven =
    let same : (answer_of r).status ≡ (faults_answer task plan some.1.0).status = ap (λ x. (answer_of x).status) some.1.2 in
    elim (status_of task plan some.1.0) [
      | inl zero ↦ omega (arith, same, zero, seven)
      | inr one ↦ omega (arith, same, one, seven)
    ]

no_faults : (task : TaskShape) (plan : PlanText) (faults : List Verdict) → (faults_answer task plan faults).status ≡ 0 → faults ≡ []
no_faults task plan [] zero = refl
no_faults task plan (v ∷ vs) zero = cc

zero_valid : (task : TaskShape) (plan : PlanText) (r : Result Answer Ending) → IsPlan task plan.occs → AnswersFaults task plan r → (answer_of r).status ≡ 0 → IsValid task plan.occs
zero_valid task plan r of_task (inl many) zero = absurd (let z : 6 ≡ 0 = sym (ap (λ x. (answer_of x).status) many.1) ∙ zero in let w : ⊥ = cc z in w)
zero_valid task plan r of_task (inr some) zero =
    (no_faults_where_valid task plan.occs some.1.0 of_task some.1.1).0 (no_faults task plan some.1.0 (sym (ap (λ x. (answer_of x).status) some.1.2) ∙ zero))

zero_text : (task : TaskShape) (plan : PlanText) (r : Result Answer Ending) → AnswersFaults task plan r → (answer_of r).status ≡ 0 → (answer_of r).text ≡ valid_line (makespan task plan.occs) ++ faults_line 0
zero_text task plan r (inl many) zero = absurd (let z : 6 ≡ 0 = sym (ap (λ x. (answer_of x).status) many.1) ∙ zero in let w : ⊥ = cc z in w)
zero_text task plan r (inr some) zero =
    let none : some.1.0 ≡ [] = no_faults task plan some.1.0 (sym (ap (λ x. (answer_of x).status) some.1.2) ∙ zero) in
    ap (λ x. (answer_of x).text) some.1.2 ∙ ap (λ fs. (faults_answer task plan fs).text) none

-- where judging the plan ends before the plan is read, so does explaining it
ends_so : (files : Files) (dn pn n : List ℕ) (e : Ending) (r : Result Answer Ending) → JudgesPlan files dn pn n (Err e) → ExplainsPlan files dn pn n r → r ≡ Err e
ends_so files dn pn n e r j p =
    let same : j.0 ≡ p.0 = accepts_once files dn pn j.0 p.0 j.1 p.1 in
    by_accepted p.0 (subst (λ (x : Result Accepted Ending). Then x (λ a. Then (accepted_plan files a n) (AnswersVerdict a.kept.task)) (Err e)) same j.2) p.2
  where
    by_text : (task : TaskShape) (y : Result PlanText Ending) → Then y (AnswersVerdict task) (Err e) → Then y (AnswersFaults task) r → r ≡ Err e
    by_text task (Ok plan) v q = absurd (let z : ⊥ = cc v.2 in z)
    by_text task (Err f) v q = q ∙ sym v

    by_accepted : (x : Result Accepted Ending) → Then x (λ a. Then (accepted_plan files a n) (AnswersVerdict a.kept.task)) (Err e) → Then x (λ a. Then (accepted_plan files a n) (AnswersFaults a.kept.task)) r → r ≡ Err e
    by_accepted (Ok a) v q = by_text a.kept.task (accepted_plan files a n) v q
    by_accepted (Err f) v q = q ∙ sym v

not_read : (files : Files) (dn pn n : List ℕ) (kept : Pruned) (plan : PlanText) → HoldReadPlan files dn pn n kept plan → IsAnswerOf (ExplainsPlan files dn pn n) read_answer → ⊥
not_read files dn pn n kept plan h is = not_seven kept.task plan is.0 (at_read files dn pn n kept plan is.0 h is.1) (sym (ap (λ (a : Answer). a.status) is.2))

problem_kept : (files : Files) (d p n : List ℕ) (x : Call) → Performs (IsAnswerOf (ExplainsPlan files d p n)) x → ExplainsProblem files d p n x
problem_kept files d p n x h = record {
  valid = (λ zero.
      let at = told_of (ExplainsPlan files d p n) x 0 (omega arith) h zero in
      let held = zero_is_held AnswersFaults zero_valid files d p n at.0 at.1 at.2 in
      (held.m, held.holds, at.3 ∙ ap (append_known x.old.written) (zero_text held.holds.kept.task held.holds.plan at.0 held.comes at.2)));
  explains = (λ kept plan read few quiet.
      elim (given (IsAnswerOf (ExplainsPlan files d p n)) x h (undisturbed (IsAnswerOf (ExplainsPlan files d p n) read_answer → ⊥) x (not_read files d p n kept plan read) quiet)) [
        | inl memory ↦ inl memory
        | inr g ↦ elim (at_read files d p n kept plan g.1.0 read g.1.1) [
          | inl many ↦ absurd (omega (arith, few, many.0))
          | inr some ↦
              let same : g.0 ≡ faults_answer kept.task plan some.1.0 = g.1.2 ∙ ap answer_of some.1.2 in
              inr (some.1.0, some.1.1, g.3 ∙ ap (λ (a : Answer). a.status) same, g.4 ∙ ap (λ (a : Answer). append_known x.old.written a.text) same)
        ]
      ]);
  limits = (λ kept plan read long quiet.
      elim (given (IsAnswerOf (ExplainsPlan files d p n)) x h (undisturbed (IsAnswerOf (ExplainsPlan files d p n) read_answer → ⊥) x (not_read files d p n kept plan read) quiet)) [
        | inl memory ↦ inl memory
        | inr g ↦ elim (at_read files d p n kept plan g.1.0 read g.1.1) [
          | inl many ↦ let same : g.0 ≡ too_many_answer = g.1.2 ∙ ap answer_of many.1 in inr (g.3 ∙ ap (λ (a : Answer). a.status) same, g.4 ∙ ap (λ (a : Answer). append_known x.old.written a.text) same)
          | inr some ↦ absurd (omega (arith, long, some.0))
        ]
      ]);
  otherwise = (λ e judged seven quiet.
      elim (given (IsAnswerOf (ExplainsPlan files d p n)) x h (undisturbed (IsAnswerOf (ExplainsPlan files d p n) read_answer → ⊥) x
      (λ is. seven (sym (ap (λ (a : Answer). a.status) (is.2 ∙ ap answer_of (ends_so files d p n e is.0 judged is.1))))) quiet)) [
        | inl memory ↦ inl memory
        | inr g ↦
            let same : g.0 ≡ ending_answer e = g.1.2 ∙ ap answer_of (ends_so files d p n e g.1.0 judged g.1.1) in
            inr (g.3 ∙ ap (λ (a : Answer). a.status) same, g.4 ∙ ap (λ (a : Answer). append_known x.old.written a.text) same)
      ]);
}

pub keeps_explained : (o : Option Files) (d p n : List ℕ) (x : Call) → Performs (AnswersOver o (λ files. ExplainsPlan files d p n)) x → IfSome o (λ files. ExplainsProblem files d p n x)
keeps_explained o d p n x h =
    if_some_weaker o (λ files. Performs (IsAnswerOf (ExplainsPlan files d p n)) x) (λ files. ExplainsProblem files d p n x) (λ files. problem_kept files d p n x) (performs_over o (λ files. ExplainsPlan files d p n) x h)
