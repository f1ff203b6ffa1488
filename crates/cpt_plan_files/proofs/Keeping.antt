use Rattle.std.proofs.Common.{◌≡◌, ◌≢◌, ℕ, ◌⊎◌, inl, inr, List, Option, Result, Ok, Err, IfSome, refl, sym, ap, ◌∙◌, arith}
use Rattle.std.specs.Io.KnownBytes.{append_known}
use Rattle.cpt_io.specs.Meaning.{Files}
use Rattle.cpt_task.specs.declared.plan.Verdict.{Verdict}
use Rattle.cpt_task.specs.declared.plan.Verdict.TheVariants.{Valid, Overlap, Unmet, GoalMissing}
use Rattle.cpt_task.specs.Shape.{TaskShape}
use Rattle.cpt_task.specs.Timeline.{makespan, IsPlan, IsValid}
use Rattle.cpt_task.specs.Judging.{Judges}
use Rattle.cpt_task.proofs.Exact.{refuted}
use Rattle.cpt_plan_text.specs.declared.reading.PlanText.{PlanText}
use Rattle.cpt_answer.specs.declared.ending.Ending.{Ending}
use Rattle.cpt_answer.specs.Endings.{Answer, answer, answer_of, read_answer}
use Rattle.cpt_answer.specs.Giving.{Then}
use Rattle.cpt_answer.specs.Promise.{AnswersOver, Call, IsAnswerOf, Performs}
use Rattle.cpt_answer.proofs.Giving.{if_some_weaker}
use Rattle.cpt_answer.proofs.Promise.{given, one_answer, performs_over, told_of, undisturbed}
use Rattle.cpt_reach.specs.Plans.{older_plan}
use Rattle.cpt_files.specs.declared.accepted.Accepted.{Accepted}
use Rattle.cpt_kept.specs.Kept.{IsValidWithAbsence}
use Rattle.cpt_kept.proofs.Standing.{older_makespan, older_valid, stands_for, with_absence}
use Rattle.cpt_tighten.proofs.Turning.{schedules_are_valid}
use Rattle.cpt_validate.specs.Valid.{HoldJudgedPlan}
use Rattle.cpt_validate.specs.Verdicts.{AnswersVerdict, JudgesPlan, accepted_plan, verdict_answer}
use Rattle.cpt_validate.proofs.Once.{judges_plan_once}
use Rattle.cpt_plan_files.specs.Commands.{TightensProblem}
use Rattle.cpt_plan_files.specs.Texts.{IsTightText}
use Rattle.cpt_plan_files.specs.Tightening.{AnswersAt, AnswersTightly, TightensPlan}
use Rattle.cpt_plan_files.proofs.Holding.{at_held, by_plan, kept_valid, zero_is_held, PlanBy}

-- a text of a valid plan at its earliest, with status 0
abbrev pub Tightened : TaskShape → PlanText → Result Answer Ending → Type 0
Tightened task plan r = (text : List ℕ) × IsTightText task plan.occs text × (r ≡ Ok (answer 0 text))

-- that, or the verdict
abbrev EitherWay : TaskShape → PlanText → Result Answer Ending → Type 0
EitherWay task plan r = (IsValid task plan.occs × Tightened task plan r) ⊎ (AnswersVerdict task plan r × ((answer_of r).status ≢ 0))

either_way : (task : TaskShape) (plan : PlanText) (v : Verdict) (r : Result Answer Ending) → Judges task plan.occs v → AnswersAt task plan v r → EitherWay task plan r
either_way task plan (Valid m) r j a = inl (j.0, a)
either_way task plan (Overlap i k) r j a = inr ((Overlap i k, j, a), λ zero. let z : 1 ≡ 0 = sym (ap (λ x. (answer_of x).status) a) ∙ zero in cc z)
either_way task plan (Unmet i p time) r j a = inr ((Unmet i p time, j, a), λ zero. let z : 1 ≡ 0 = sym (ap (λ x. (answer_of x).status) a) ∙ zero in cc z)
either_way task plan (GoalMissing p) r j a = inr ((GoalMissing p, j, a), λ zero. let z : 1 ≡ 0 = sym (ap (λ x. (answer_of x).status) a) ∙ zero in cc z)

either_of : (task : TaskShape) (plan : PlanText) (r : Result Answer Ending) → AnswersTightly task plan r → EitherWay task plan r
either_of task plan r h = either_way task plan h.0 r h.1 h.2

zero_valid : (task : TaskShape) (plan : PlanText) (r : Result Answer Ending) → IsPlan task plan.occs → EitherWay task plan r → (answer_of r).status ≡ 0 → IsValid task plan.occs
zero_valid task plan r of_task h zero = elim h [ inl t ↦ t.0 | inr v ↦ absurd (v.1 zero) ]

valid_tight : (task : TaskShape) (plan : PlanText) (r : Result Answer Ending) → IsValid task plan.occs → EitherWay task plan r → Tightened task plan r
valid_tight task plan r valid h = elim h [ inl t ↦ t.1 | inr v ↦ absurd (v.1 (valid_zero v.0.0 v.0.1 v.0.2)) ]
  where
    valid_zero : (v : Verdict) → Judges task plan.occs v → r ≡ Ok (verdict_answer task plan v) → (answer_of r).status ≡ 0
    valid_zero v j e = ap (λ x. (answer_of x).status) (e ∙ ap (λ w. Ok (verdict_answer task plan w)) (refuted task plan.occs v j valid))

-- a verdict in place of the text
abbrev Judged : TaskShape → PlanText → Result Answer Ending → Type 0
Judged task plan r = (s : Result Answer Ending) × AnswersVerdict task plan s × ((r ≡ s) ⊎ (((answer_of s).status ≡ 0) × ((answer_of r).status ≡ 0)))

judged_of : (task : TaskShape) (plan : PlanText) (r : Result Answer Ending) → EitherWay task plan r → Judged task plan r
judged_of task plan r h = elim h [
  | inl t ↦ (Ok (verdict_answer task plan (Valid (makespan task plan.occs))), (Valid (makespan task plan.occs), (t.0, refl), refl), inr (refl, ap (λ x. (answer_of x).status) t.1.2))
  | inr v ↦ (r, v.0, inl refl)
]

-- the verdict on the plan in the files, in place of the text
with_verdict : (files : Files) (dn pn n : List ℕ) (r : Result Answer Ending) → PlanBy EitherWay files dn pn n r
    → (s : Result Answer Ending) × JudgesPlan files dn pn n s × ((r ≡ s) ⊎ (((answer_of s).status ≡ 0) × ((answer_of r).status ≡ 0)))
with_verdict files dn pn n r h = let b = by_accepted h.0 h.2 in (b.0, (h.0, h.1, b.1), b.2)
  where
    by_text : (task : TaskShape) (y : Result PlanText Ending) → Then y (EitherWay task) r → (s : Result Answer Ending) × Then y (AnswersVerdict task) s × ((r ≡ s) ⊎ (((answer_of s).status ≡ 0) × ((answer_of r).status ≡ 0)))
    by_text task (Ok plan) q = judged_of task plan r q
    by_text task (Err e) q = (Err e, refl, inl q)

    by_accepted : (x : Result Accepted Ending) → Then x (λ a. Then (accepted_plan files a n) (EitherWay a.kept.task)) r
        → (s : Result Answer Ending) × Then x (λ a. Then (accepted_plan files a n) (AnswersVerdict a.kept.task)) s × ((r ≡ s) ⊎ (((answer_of s).status ≡ 0) × ((answer_of r).status ≡ 0)))
    by_accepted (Ok a) q = by_text a.kept.task (accepted_plan files a n) q
    by_accepted (Err e) q = (Err e, refl, inl q)

-- where judging the plan does not end with status 0, tightening it ends so too
verdict_given : (files : Files) (dn pn n : List ℕ) (a : Answer) → IsAnswerOf (JudgesPlan files dn pn n) a → a.status ≢ 0 → (b : Answer) → IsAnswerOf (TightensPlan files dn pn n) b → b ≡ a
verdict_given files dn pn n a is nonzero b h =
    let w = with_verdict files dn pn n h.0 (by_plan AnswersTightly EitherWay either_of files dn pn n h.0 h.1) in
    let same : answer_of w.0 ≡ a = one_answer (JudgesPlan files dn pn n) (judges_plan_once files dn pn n) (answer_of w.0) a (w.0, w.1, refl) is in
    elim w.2 [
      | inl e ↦ h.2 ∙ ap answer_of e ∙ same
      | inr z ↦ absurd (nonzero (sym (ap (λ (x : Answer). x.status) same) ∙ z.0))
    ]

-- where the files hold a valid plan, its text at its earliest is come to
tight_at : (files : Files) (dn pn n : List ℕ) (m : ℕ) (r : Result Answer Ending) (held : HoldJudgedPlan files dn pn n m) → TightensPlan files dn pn n r → Tightened held.kept.task held.plan r
tight_at files dn pn n m r held h =
    valid_tight held.kept.task held.plan r (kept_valid files dn pn n m held) (at_held EitherWay files dn pn n m r held (by_plan AnswersTightly EitherWay either_of files dn pn n r h))

not_read : (files : Files) (dn pn n : List ℕ) (m : ℕ) (held : HoldJudgedPlan files dn pn n m) → IsAnswerOf (TightensPlan files dn pn n) read_answer → ⊥
not_read files dn pn n m held h =
    let t = tight_at files dn pn n m h.0 held h.1 in
    let z : 7 ≡ 0 = ap (λ (x : Answer). x.status) h.2 ∙ ap (λ x. (answer_of x).status) t.2 in
    cc z

-- the plan at its earliest is valid for the reading with absence
still_valid : (files : Files) (dn pn n : List ℕ) (m : ℕ) (held : HoldJudgedPlan files dn pn n m) (text : List ℕ) (tight : IsTightText held.kept.task held.plan.occs text)
    → IsValidWithAbsence held.domain held.problem (older_plan held.kept.actions tight.tight) (makespan held.kept.task tight.tight)
still_valid files dn pn n m held text tight =
    let stands = stands_for files dn pn held.domain held.problem held.task held.kept held.accepted in
    let valid : IsValid held.kept.task tight.tight =
    schedules_are_valid held.kept.task held.plan.occs tight.tight stands.plain.bounds (kept_valid files dn pn n m held) tight.earliest.schedule tight.earliest.keeps in
    with_absence held.domain held.problem held.task held.kept (older_plan held.kept.actions tight.tight) (makespan held.kept.task tight.tight) stands
    (older_valid held.task held.kept.task held.kept.actions tight.tight stands.keeps valid.of_task valid)
    (older_makespan held.task held.kept.task held.kept.actions tight.tight stands.keeps valid.of_task)

problem_kept : (files : Files) (d p n : List ℕ) (x : Call) → Performs (IsAnswerOf (TightensPlan files d p n)) x → TightensProblem files d p n x
problem_kept files d p n x h = record {
  tightened = (λ zero.
      let at = told_of (TightensPlan files d p n) x 0 (omega arith) h zero in
      let held = zero_is_held EitherWay zero_valid files d p n at.0 (by_plan AnswersTightly EitherWay either_of files d p n at.0 at.1) at.2 in
      let t = tight_at files d p n held.m at.0 held.holds at.1 in
      (held.m, held.holds, t.0, t.1, still_valid files d p n held.m held.holds t.0 t.1, at.3 ∙ ap (append_known x.old.written) (ap (λ y. (answer_of y).text) t.2)));
  tightens = (λ m held quiet.
      elim (given (IsAnswerOf (TightensPlan files d p n)) x h (undisturbed (IsAnswerOf (TightensPlan files d p n) read_answer → ⊥) x (not_read files d p n m held) quiet)) [
        | inl memory ↦ inl memory
        | inr g ↦
            let t = tight_at files d p n m g.1.0 held g.1.1 in
            let same : g.0 ≡ answer 0 t.0 = g.1.2 ∙ ap answer_of t.2 in
            inr (g.3 ∙ ap (λ (a : Answer). a.status) same, (t.0, t.1, g.4 ∙ ap (λ (a : Answer). append_known x.old.written a.text) same))
      ]);
  otherwise = (λ a is nonzero seven quiet.
      elim (given (IsAnswerOf (TightensPlan files d p n)) x h (undisturbed (IsAnswerOf (TightensPlan files d p n) read_answer → ⊥) x
      (λ never. seven (sym (ap (λ (b : Answer). b.status) (verdict_given files d p n a is nonzero read_answer never)))) quiet)) [
        | inl memory ↦ inl memory
        | inr g ↦ let same : g.0 ≡ a = verdict_given files d p n a is nonzero g.0 g.1 in inr (g.3 ∙ ap (λ (b : Answer). b.status) same, g.4 ∙ ap (λ (b : Answer). append_known x.old.written b.text) same)
      ]);
}

pub keeps_problem : (o : Option Files) (d p n : List ℕ) (x : Call) → Performs (AnswersOver o (λ files. TightensPlan files d p n)) x → IfSome o (λ files. TightensProblem files d p n x)
keeps_problem o d p n x h =
    if_some_weaker o (λ files. Performs (IsAnswerOf (TightensPlan files d p n)) x) (λ files. TightensProblem files d p n x) (λ files. problem_kept files d p n x) (performs_over o (λ files. TightensPlan files d p n) x h)
