use Rattle.std.proofs.Common.{◌≡◌, ℕ, List, Result, Ok, Err, refl, sym, ap, subst, arith}
use Rattle.cpt_io.specs.Meaning.{Files}
use Rattle.cpt_task.specs.Shape.{TaskShape}
use Rattle.cpt_task.specs.Timeline.{makespan, IsPlan, IsValid}
use Rattle.cpt_task.specs.Judging.{Judges}
use Rattle.cpt_task.specs.declared.plan.Verdict.{Verdict}
use Rattle.cpt_task.specs.declared.plan.Verdict.TheVariants.{Valid, Overlap, Unmet, GoalMissing}
use Rattle.cpt_plan_text.specs.declared.reading.PlanText.{PlanText}
use Rattle.cpt_answer.specs.declared.ending.Ending.{Ending}
use Rattle.cpt_answer.specs.Endings.{Answer, answer, answer_of}
use Rattle.cpt_answer.specs.Giving.{Then, ThenBy}
use Rattle.cpt_answer.specs.Lines.{valid_line}
use Rattle.cpt_answer.proofs.Promise.{then_zero}
use Rattle.cpt_files.specs.declared.accepted.Accepted.{Accepted}
use Rattle.cpt_files.specs.Accepted.{AcceptsTask, accepted}
use Rattle.cpt_files.proofs.Accepting.{accepted_is, is_accepted}
use Rattle.cpt_files.specs.Names.{kept_finds}
use Rattle.cpt_files.proofs.Naming.{knows_kept}
use Rattle.cpt_files.proofs.Once.{accepts_once}
use Rattle.cpt_kept.proofs.Standing.{older_valid, stands_for}
use Rattle.cpt_reach.specs.Plans.{older_plan}
use Rattle.cpt_validate.specs.Valid.{HoldJudgedPlan}
use Rattle.cpt_validate.specs.Verdicts.{AnswersVerdict, accepted_plan, verdict_answer}
use Rattle.cpt_validate.proofs.Zero.{judged_is_zero, plan_of_task}

-- what a plan over a domain and a problem comes to, by what its task and its text come to
abbrev pub PlanBy : (TaskShape → PlanText → Result Answer Ending → Type 0) → Files → (domain_name problem_name plan_name : List ℕ) → Result Answer Ending → Type 0
PlanBy Q files dn pn n = ThenBy (AcceptsTask files dn pn) (λ a. Then (accepted_plan files a n) (Q a.kept.task))

-- where the files hold a valid plan, what is come to is that of this plan
pub at_held : (Q : TaskShape → PlanText → Result Answer Ending → Type 0) (files : Files) (dn pn n : List ℕ) (m : ℕ) (r : Result Answer Ending) (h : HoldJudgedPlan files dn pn n m) → PlanBy Q files dn pn n r → Q h.kept.task h.plan r
at_held Q files dn pn n m r h p =
    let a = accepted h.domain h.problem h.kept in
    let same : p.0 ≡ Ok a = accepts_once files dn pn p.0 (Ok a) p.1 (accepted_is files dn pn h.domain h.problem h.task h.kept h.accepted) in
    let later : Then (accepted_plan files a n) (Q a.kept.task) r = subst (λ (x : Result Accepted Ending). Then x (λ b. Then (accepted_plan files b n) (Q b.kept.task)) r) same p.2 in
    subst (λ (y : Result PlanText Ending). Then y (Q h.kept.task) r) h.plan_file later

verdict_valid : (task : TaskShape) (plan : PlanText) (v : Verdict) → Judges task plan.occs v → (verdict_answer task plan v).status ≡ 0 → IsValid task plan.occs
verdict_valid task plan (Valid m) j e = j.0
verdict_valid task plan (Overlap i k) j e = absurd (omega (arith, e))
verdict_valid task plan (Unmet i p time) j e = absurd (omega (arith, e))
verdict_valid task plan (GoalMissing p) j e = absurd (omega (arith, e))

-- a plan that is valid for the ground task is valid for the kept one
pub kept_valid : (files : Files) (dn pn n : List ℕ) (m : ℕ) (h : HoldJudgedPlan files dn pn n m) → IsValid h.kept.task h.plan.occs
kept_valid files dn pn n m h =
    let v = at_held AnswersVerdict files dn pn n m (Ok (answer 0 (valid_line m))) h (judged_is_zero files dn pn n m h) in
    verdict_valid h.kept.task h.plan v.0 v.1 (sym (ap (λ (x : Result Answer Ending). (answer_of x).status) v.2))

-- where what is come to has status 0, and that is so only of a valid plan, the files hold one
pub record Held (Q : TaskShape → PlanText → Result Answer Ending → Type 0) (files : Files) (dn pn n : List ℕ) (r : Result Answer Ending) : Type 0 where
  pub m : ℕ
  pub holds : HoldJudgedPlan files dn pn n m
  pub comes : Q holds.kept.task holds.plan r

pub zero_is_held : (Q : TaskShape → PlanText → Result Answer Ending → Type 0) → ((task : TaskShape) (plan : PlanText) (r : Result Answer Ending) → IsPlan task plan.occs → Q task plan r → (answer_of r).status ≡ 0 → IsValid task plan.occs)
    → (files : Files) (dn pn n : List ℕ) (r : Result Answer Ending) → PlanBy Q files dn pn n r → (answer_of r).status ≡ 0 → Held Q files dn pn n r
zero_is_held Q valid files dn pn n r h zero =
    let a = then_zero h.0 (λ a. Then (accepted_plan files a n) (Q a.kept.task)) r h.2 zero in
    let holds = is_accepted files dn pn a.0 (subst (AcceptsTask files dn pn) a.1 h.1) in
    let plan = then_zero (accepted_plan files a.0 n) (Q a.0.kept.task) r a.2 zero in
    let of_task = plan_of_task files (kept_finds a.0.domain a.0.problem a.0.kept) a.0.kept.task n plan.0 (knows_kept a.0.domain a.0.problem a.0.kept) plan.1 in
    let v : IsValid a.0.kept.task plan.0.occs = valid a.0.kept.task plan.0 r of_task plan.2 zero in
    let k = (stands_for files dn pn a.0.domain a.0.problem holds.0 a.0.kept holds.1).keeps in
    record {
      m = makespan holds.0 (older_plan a.0.kept.actions plan.0.occs);
      holds = record {
        domain = a.0.domain;
        problem = a.0.problem;
        task = holds.0;
        kept = a.0.kept;
        accepted = holds.1;
        plan = plan.0;
        plan_file = plan.1;
        valid = older_valid holds.0 a.0.kept.task a.0.kept.actions plan.0.occs k v.of_task v;
        is = refl;
      };
      comes = plan.2;
    }

-- from each thing that is come to of a plan to another
pub by_plan : (Q R : TaskShape → PlanText → Result Answer Ending → Type 0) → ((task : TaskShape) (plan : PlanText) (r : Result Answer Ending) → Q task plan r → R task plan r)
    → (files : Files) (dn pn n : List ℕ) (r : Result Answer Ending) → PlanBy Q files dn pn n r → PlanBy R files dn pn n r
by_plan Q R f files dn pn n r h = (h.0, h.1, by_accepted h.0 h.2)
  where
    by_text : (task : TaskShape) (y : Result PlanText Ending) → Then y (Q task) r → Then y (R task) r
    by_text task (Ok plan) q = f task plan r q
    by_text task (Err e) q = q

    by_accepted : (x : Result Accepted Ending) → Then x (λ a. Then (accepted_plan files a n) (Q a.kept.task)) r → Then x (λ a. Then (accepted_plan files a n) (R a.kept.task)) r
    by_accepted (Ok a) q = by_text a.kept.task (accepted_plan files a n) q
    by_accepted (Err e) q = q
