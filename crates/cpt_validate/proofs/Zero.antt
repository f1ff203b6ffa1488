use Rattle.std.proofs.Common.{◌≡◌, ◌≢◌, ℕ, ◌<◌, arith, inl, inr, Bool, true, false, List, length, Option, None, Some, Result, Ok, Err, refl, sym, ap, ◌∙◌, subst}
use Rattle.std.specs.Prelude.{nat_lt, if◌then◌else◌, IsSome}
use Rattle.std.proofs.lemmas.List.Elements.{All-weaker}
use Rattle.cpt_io.specs.Meaning.{Files}
use Rattle.cpt_task.specs.declared.memory.Limit.{Limit}
use Rattle.cpt_task.specs.declared.memory.Limit.TheVariants.{File}
use Rattle.cpt_task.specs.Shape.{TaskShape}
use Rattle.cpt_task.specs.Timeline.{IsOccurrence, IsPlan, IsValid, makespan}
use Rattle.cpt_task.specs.declared.plan.Verdict.{Verdict}
use Rattle.cpt_task.specs.declared.plan.Verdict.TheVariants.{Valid, Overlap, Unmet, GoalMissing}
use Rattle.cpt_task.specs.Judging.{Judges}
use Rattle.cpt_plan_text.specs.declared.reading.PlanText.{PlanText}
use Rattle.cpt_plan_text.specs.declared.reading.PlanTextError.{PlanTextError}
use Rattle.cpt_plan_text.specs.declared.reading.PlanTextError.TheVariants as plan_errors
use Rattle.cpt_plan_text.specs.declared.roster.Found.{Found}
use Rattle.cpt_plan_text.specs.Knowing.{KnowsActions, task_finds}
use Rattle.cpt_plan_text.specs.Meaning.{plan_of}
use Rattle.cpt_task_text.specs.Reading.{task_of}
use Rattle.cpt_task_text.specs.declared.error.TaskTextError.{TaskTextError}
use Rattle.cpt_task_text.specs.declared.error.TaskTextError.TheVariants as task_errors
use Rattle.cpt_plan_text.proofs.Sound.{IsEarly, plan_of_sound}
use Rattle.cpt_domain.specs.declared.domain.Domain.{Domain}
use Rattle.cpt_facts.specs.declared.problem.Problem.{Problem}
use Rattle.cpt_reach.specs.declared.pruning.Pruned.{Pruned}
use Rattle.cpt_reach.specs.Plans.{older_plan}
use Rattle.cpt_answer.specs.declared.ending.Cause.{Cause}
use Rattle.cpt_answer.specs.declared.ending.Cause.TheVariants.{Passed}
use Rattle.cpt_answer.specs.declared.ending.Ending.{Ending}
use Rattle.cpt_answer.specs.declared.ending.Ending.TheVariants.{Because, Read, Memory}
use Rattle.cpt_answer.specs.Endings.{Answer, answer, answer_of, cause_answer, ending_answer}
use Rattle.cpt_answer.specs.Giving.{Then, ◌>>=◌, ended}
use Rattle.cpt_answer.specs.Lines.{valid_line}
use Rattle.cpt_answer.proofs.Giving.{ended_ok, then_value}
use Rattle.cpt_answer.proofs.Promise.{cause_kind, then_zero}
use Rattle.cpt_files.specs.declared.accepted.Accepted.{Accepted}
use Rattle.cpt_files.specs.Accepted.{AcceptsTask, IsAccepted, accepted}
use Rattle.cpt_files.specs.Files.{plan_by, plan_ending, plan_under, task_ending, task_under, text_under, within_limit}
use Rattle.cpt_files.specs.Names.{kept_finds}
use Rattle.cpt_files.proofs.Accepting.{accepted_is, is_accepted}
use Rattle.cpt_files.proofs.Naming.{knows_kept}
use Rattle.cpt_files.proofs.Once.{accepts_once}
use Rattle.cpt_kept.proofs.Standing.{newer_valid, older_makespan, older_valid, stands_for}
use Rattle.cpt_validate.specs.Commands.{IsVerdict}
use Rattle.cpt_validate.specs.Valid.{HoldJudgedPlan, HoldValidPlan}
use Rattle.cpt_validate.specs.Verdicts.{AnswersVerdict, JudgesFiles, JudgesPlan, accepted_plan, verdict_answer}

-- a status of 0 is that of a valid plan
verdict_zero : (task : TaskShape) (plan : PlanText) (v : Verdict) → Judges task plan.occs v → (verdict_answer task plan v).status ≡ 0
    → (m : ℕ) × IsValid task plan.occs × (m ≡ makespan task plan.occs) × ((verdict_answer task plan v).text ≡ valid_line m)
verdict_zero task plan (Valid m) j zero = (m, j.0, j.1, refl)
verdict_zero task plan (Overlap a b) j zero = cc
verdict_zero task plan (Unmet a b c) j zero = cc
verdict_zero task plan (GoalMissing a) j zero = cc

answer_zero : (task : TaskShape) (plan : PlanText) (r : Result Answer Ending) → AnswersVerdict task plan r → (answer_of r).status ≡ 0
    → (m : ℕ) × IsValid task plan.occs × (m ≡ makespan task plan.occs) × ((answer_of r).text ≡ valid_line m)
answer_zero task plan r h zero =
    let same : answer_of r ≡ verdict_answer task plan h.0 = ap answer_of h.2 in
    let z = verdict_zero task plan h.0 h.1 (sym (ap (λ (a : Answer). a.status) same) ∙ zero) in
    (z.0, z.1, z.2, ap (λ (a : Answer). a.text) same ∙ z.3)

pub zero_is_valid : (files : Files) (t p : List ℕ) (r : Result Answer Ending) → JudgesFiles files t p r → (answer_of r).status ≡ 0 → (m : ℕ) × HoldValidPlan files t p m × ((answer_of r).text ≡ valid_line m)
zero_is_valid files t p r h zero =
    let task = then_zero (task_under files t) (λ task. Then (plan_under files task p) (AnswersVerdict task)) r h zero in
    let plan = then_zero (plan_under files task.0 p) (AnswersVerdict task.0) r task.2 zero in
    let z = answer_zero task.0 plan.0 r plan.2 zero in
    (z.0, record { task = task.0; plan = plan.0; task_file = task.1; plan_file = plan.1; valid = z.1; is = z.2 }, z.3)

-- a valid plan is answered so
pub valid_is_zero : (files : Files) (t p : List ℕ) (m : ℕ) → HoldValidPlan files t p m → JudgesFiles files t p (Ok (answer 0 (valid_line m)))
valid_is_zero files t p m h =
    let judged : AnswersVerdict h.task h.plan (Ok (answer 0 (valid_line m))) = (Valid m, (h.valid, h.is), refl) in
    subst (λ (x : Result TaskShape Ending). Then x (λ task. Then (plan_under files task p) (AnswersVerdict task)) (Ok (answer 0 (valid_line m)))) (sym h.task_file)
    (subst (λ (y : Result PlanText Ending). Then y (AnswersVerdict h.task) (Ok (answer 0 (valid_line m)))) (sym h.plan_file) judged)

pub zero_is_judged : (files : Files) (dn pn n : List ℕ) (r : Result Answer Ending) → JudgesPlan files dn pn n r → (answer_of r).status ≡ 0 → (m : ℕ) × HoldJudgedPlan files dn pn n m × ((answer_of r).text ≡ valid_line m)
zero_is_judged files dn pn n r h zero =
    let a = then_zero h.0 (λ a. Then (accepted_plan files a n) (AnswersVerdict a.kept.task)) r h.2 zero in
    let holds = is_accepted files dn pn a.0 (subst (AcceptsTask files dn pn) a.1 h.1) in
    let plan = then_zero (accepted_plan files a.0 n) (AnswersVerdict a.0.kept.task) r a.2 zero in
    let z = answer_zero a.0.kept.task plan.0 r plan.2 zero in
    let k = (stands_for files dn pn a.0.domain a.0.problem holds.0 a.0.kept holds.1).keeps in (
      z.0,
      record {
        domain = a.0.domain;
        problem = a.0.problem;
        task = holds.0;
        kept = a.0.kept;
        accepted = holds.1;
        plan = plan.0;
        plan_file = plan.1;
        valid = older_valid holds.0 a.0.kept.task a.0.kept.actions plan.0.occs k z.1.of_task z.1;
        is = z.2 ∙ older_makespan holds.0 a.0.kept.task a.0.kept.actions plan.0.occs k z.1.of_task;
      },
      z.3,
    )

-- the occurrences of a plan that is read are of its task
text_of_task : (finds : List ℕ → Found) (t : TaskShape) (plan : PlanText) (x : Result (List ℕ) Ending) → KnowsActions finds (length t.actions) → (x >>= (λ bytes. ended plan_ending (plan_of finds t bytes))) ≡ Ok plan → IsPlan t plan.occs
text_of_task finds t plan (Ok bytes) knows e =
    let sound = plan_of_sound finds t bytes plan knows (ended_ok plan_ending (plan_of finds t bytes) plan e) in
    All-weaker (IsEarly t) (IsOccurrence t) (λ o early. early.occurrence) plan.occs sound.occs
text_of_task finds t plan (Err ending) knows e = absurd (cc)

pub plan_of_task : (files : Files) (finds : List ℕ → Found) (t : TaskShape) (name : List ℕ) (plan : PlanText) → KnowsActions finds (length t.actions) → plan_by files finds t name ≡ Ok plan → IsPlan t plan.occs
plan_of_task files finds t name plan knows e = text_of_task finds t plan (text_under files name) knows e

pub judged_is_zero : (files : Files) (dn pn n : List ℕ) (m : ℕ) → HoldJudgedPlan files dn pn n m → JudgesPlan files dn pn n (Ok (answer 0 (valid_line m)))
judged_is_zero files dn pn n m h =
    let k = (stands_for files dn pn h.domain h.problem h.task h.kept h.accepted).keeps in
    let of_task = plan_of_task files (kept_finds h.domain h.problem h.kept) h.kept.task n h.plan (knows_kept h.domain h.problem h.kept) h.plan_file in
    let valid = newer_valid h.task h.kept.task h.kept.actions h.plan.occs k of_task h.valid in
    let is : m ≡ makespan h.kept.task h.plan.occs = h.is ∙ sym (older_makespan h.task h.kept.task h.kept.actions h.plan.occs k of_task) in
    let judged : AnswersVerdict h.kept.task h.plan (Ok (answer 0 (valid_line m))) = (Valid m, (valid, is), refl) in (
      Ok (accepted h.domain h.problem h.kept),
      accepted_is files dn pn h.domain h.problem h.task h.kept h.accepted,
      subst (λ (y : Result PlanText Ending). Then y (AnswersVerdict h.kept.task) (Ok (answer 0 (valid_line m)))) (sym h.plan_file) judged,
    )

-- the statuses of endings where each file is held and no limit is passed
cause_verdict : (c : Cause) → ((limit : Limit) → c ≢ Passed limit) → IsVerdict (cause_answer c).status
cause_verdict c not = elim (cause_kind c) [
  | inl one ↦ inr (inl one)
  | inr k ↦ elim k [ inl four ↦ inr (inr (inl four)) | inr passed ↦ absurd (not passed.0 passed.1) ]
]

ending_verdict : (e : Ending) → (ending_answer e).status < 7 → ((limit : Limit) → e ≢ Because (Passed limit)) → IsVerdict (ending_answer e).status
ending_verdict (Because cause) low not = cause_verdict cause (λ limit same. not limit (ap Because same))
ending_verdict Read low not = absurd (omega (arith, low))
ending_verdict Memory low not = absurd (omega (arith, low))

verdict_is : (task : TaskShape) (plan : PlanText) (v : Verdict) → IsVerdict (verdict_answer task plan v).status
verdict_is task plan (Valid m) = inl refl
verdict_is task plan (Overlap a b) = inr (inl refl)
verdict_is task plan (Unmet a b c) = inr (inl refl)
verdict_is task plan (GoalMissing a) = inr (inl refl)

ok_verdict : (task : TaskShape) (plan : PlanText) (a : Answer) → AnswersVerdict task plan (Ok a) → IsVerdict a.status
ok_verdict task plan a h = subst IsVerdict (sym (ap (λ x. (answer_of x).status) h.2)) (verdict_is task plan h.0)

-- what judging comes to, by its status
pub judges_ok : (files : Files) (t p : List ℕ) (a : Answer) → JudgesFiles files t p (Ok a) → IsVerdict a.status
judges_ok files t p a h =
    let task = then_value (task_under files t) (λ task. Then (plan_under files task p) (AnswersVerdict task)) a h in
    let plan = then_value (plan_under files task.0 p) (AnswersVerdict task.0) a task.2 in
    ok_verdict task.0 plan.0 a plan.2

pub judges_plan_ok : (files : Files) (dn pn n : List ℕ) (a : Answer) → JudgesPlan files dn pn n (Ok a) → IsVerdict a.status
judges_plan_ok files dn pn n a h =
    let read = then_value h.0 (λ a. Then (accepted_plan files a n) (AnswersVerdict a.kept.task)) a h.2 in
    let plan = then_value (accepted_plan files read.0 n) (AnswersVerdict read.0.kept.task) a read.2 in
    ok_verdict read.0.kept.task plan.0 a plan.2

pub judges_verdict : (files : Files) (t p : List ℕ) → ((limit : Limit) → JudgesFiles files t p (Err (Because (Passed limit))) → ⊥) → (r : Result Answer Ending) → JudgesFiles files t p r → (answer_of r).status < 7 → IsVerdict (answer_of r).status
judges_verdict files t p not (Ok a) h low = judges_ok files t p a h
judges_verdict files t p not (Err e) h low = ending_verdict e low (λ limit same. not limit (subst (λ e. JudgesFiles files t p (Err e)) same h))

plan_verdict : (a : Accepted) (y : Result PlanText Ending) → ((limit : Limit) → y ≢ Err (Because (Passed limit))) → (r : Result Answer Ending) → Then y (AnswersVerdict a.kept.task) r → (answer_of r).status < 7 → IsVerdict (answer_of r).status
plan_verdict a (Ok plan) not r h low = subst IsVerdict (sym (ap (λ x. (answer_of x).status) h.2)) (verdict_is a.kept.task plan h.0)
plan_verdict a (Err e) not r h low =
    let same : (answer_of r).status ≡ (ending_answer e).status = ap (λ x. (answer_of x).status) h in
    subst IsVerdict (sym same) (ending_verdict e (omega (arith, same, low)) (λ limit is. not limit (ap Err is)))

-- over an accepted task the plan of the file is judged
plan_judged : (files : Files) (dn pn n : List ℕ) (d : Domain) (p : Problem) (task : TaskShape) (kept : Pruned) → IsAccepted files dn pn d p task kept → (r : Result Answer Ending) → JudgesPlan files dn pn n r
    → Then (accepted_plan files (accepted d p kept) n) (AnswersVerdict kept.task) r
plan_judged files dn pn n d p task kept a r h =
    let same : h.0 ≡ Ok (accepted d p kept) = accepts_once files dn pn h.0 (Ok (accepted d p kept)) h.1 (accepted_is files dn pn d p task kept a) in
    subst (λ x. Then x (λ a. Then (accepted_plan files a n) (AnswersVerdict a.kept.task)) r) same h.2

pub judges_plan_verdict : (files : Files) (dn pn n : List ℕ) (d : Domain) (p : Problem) (task : TaskShape) (kept : Pruned) → IsAccepted files dn pn d p task kept
    → ((limit : Limit) → accepted_plan files (accepted d p kept) n ≢ Err (Because (Passed limit))) → (r : Result Answer Ending) → JudgesPlan files dn pn n r → (answer_of r).status < 7 → IsVerdict (answer_of r).status
judges_plan_verdict files dn pn n d p task kept a not r h = plan_verdict (accepted d p kept) (accepted_plan files (accepted d p kept) n) not r (plan_judged files dn pn n d p task kept a r h)

-- a file that is held can be read
ended_not_read : {X E : Type 0} (ending : E → Ending) (x : Result X E) → ((e : E) → ending e ≢ Read) → ended ending x ≢ Err Read
ended_not_read ending (Ok v) not e = cc
ended_not_read ending (Err f) not e = let same : ending f ≡ Read = cc in not f same

short_not_read : {X E : Type 0} (ending : E → Ending) (long : Bool) (text : List ℕ) (f : List ℕ → Result X E) → ((e : E) → ending e ≢ Read)
    → ((if long then Err (Because (Passed File)) else Ok text) >>= (λ bytes. ended ending (f bytes))) ≢ Err Read
short_not_read ending true text f not e = cc
short_not_read ending false text f not e = ended_not_read ending (f text) not e

text_not_read : {X E : Type 0} (ending : E → Ending) (o : Option (List ℕ)) (f : List ℕ → Result X E) → ((e : E) → ending e ≢ Read) → IsSome o → (within_limit o >>= (λ bytes. ended ending (f bytes))) ≢ Err Read
text_not_read ending (Some bytes) f not held e = short_not_read ending (nat_lt 16777216 (length bytes)) bytes f not e
text_not_read ending None f not held e = let never : false ≡ true = held in absurd (cc)

plan_ending_not_read : (e : PlanTextError) → plan_ending e ≢ Read
plan_ending_not_read (plan_errors.Line n) e = cc
plan_ending_not_read (plan_errors.Unknown n) e = cc
plan_ending_not_read (plan_errors.Limit which) e = cc
plan_ending_not_read (plan_errors.Duration n dur) e = cc
plan_ending_not_read (plan_errors.Unreachable n) e = cc
plan_ending_not_read plan_errors.Memory e = cc

task_ending_not_read : (e : TaskTextError) → task_ending e ≢ Read
task_ending_not_read (task_errors.Line n) e = cc
task_ending_not_read (task_errors.Limit which) e = cc
task_ending_not_read task_errors.Memory e = cc

plan_not_read : (finds : List ℕ → Found) (files : Files) (task : TaskShape) (n : List ℕ) → IsSome (files n) → plan_by files finds task n ≢ Err Read
plan_not_read finds files task n held e = text_not_read plan_ending (files n) (plan_of finds task) plan_ending_not_read held e

judged_not_read : (t : TaskShape) (y : Result PlanText Ending) → y ≢ Err Read → Then y (AnswersVerdict t) (Err Read) → ⊥
judged_not_read t (Ok plan) not h = let e = h.2 in cc
judged_not_read t (Err e) not h = let same : Read ≡ e = cc in not (ap Err (sym same))

task_not_read : (files : Files) (p : List ℕ) (y : Result TaskShape Ending) → y ≢ Err Read → IsSome (files p) → Then y (λ task. Then (plan_under files task p) (AnswersVerdict task)) (Err Read) → ⊥
task_not_read files p (Ok task) not held h = judged_not_read task (plan_under files task p) (plan_not_read (task_finds task) files task p held) h
task_not_read files p (Err e) not held h = let same : Read ≡ e = cc in not (ap Err (sym same))

pub judges_not_read : (files : Files) (t p : List ℕ) → IsSome (files t) → IsSome (files p) → JudgesFiles files t p (Err Read) → ⊥
judges_not_read files t p task plan h = task_not_read files p (task_under files t) (text_not_read task_ending (files t) task_of task_ending_not_read task) plan h

pub judges_plan_not_read : (files : Files) (dn pn n : List ℕ) (d : Domain) (p : Problem) (task : TaskShape) (kept : Pruned) → IsAccepted files dn pn d p task kept → IsSome (files n) → JudgesPlan files dn pn n (Err Read) → ⊥
judges_plan_not_read files dn pn n d p task kept a held h =
    judged_not_read kept.task (accepted_plan files (accepted d p kept) n) (plan_not_read (kept_finds d p kept) files kept.task n held) (plan_judged files dn pn n d p task kept a (Err Read) h)
