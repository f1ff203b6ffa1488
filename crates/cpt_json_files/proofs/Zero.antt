-- When the two commands answer 0, and that files have one answer.
use Rattle.std.proofs.Common.{◌≡◌, ℕ, List, Option, Result, Ok, Err, IfSome, refl, sym, ap, ◌∙◌, subst}
use Rattle.cpt_io.specs.Meaning.{Files}
use Rattle.cpt_task.specs.declared.plan.Occ.{Occ}
use Rattle.cpt_task.specs.declared.plan.Verdict.{Verdict}
use Rattle.cpt_task.specs.declared.plan.Verdict.TheVariants.{Valid, Overlap, Unmet, GoalMissing}
use Rattle.cpt_task.specs.Judging.{Judges}
use Rattle.cpt_task.specs.Shape.{TaskShape}
use Rattle.cpt_task.specs.Timeline.{IsValid, makespan}
use Rattle.cpt_task.proofs.OneVerdict.{one_verdict}
use Rattle.cpt_task_text.specs.Plain.{IsPlain}
use Rattle.cpt_reach.specs.declared.pruning.Pruned.{Pruned}
use Rattle.cpt_answer.specs.declared.ending.Ending.{Ending}
use Rattle.cpt_answer.specs.Endings.{Answer, answer, answer_of}
use Rattle.cpt_answer.specs.Giving.{Then}
use Rattle.cpt_answer.proofs.Giving.{if_some_weaker, then_by_once, then_once}
use Rattle.cpt_answer.proofs.Promise.{then_zero}
use Rattle.cpt_files.specs.declared.accepted.Accepted.{Accepted}
use Rattle.cpt_files.specs.Accepted.{AcceptsTask, accepted}
use Rattle.cpt_files.specs.Files.{text_under}
use Rattle.cpt_files.proofs.Accepting.{accepted_is, is_accepted}
use Rattle.cpt_files.proofs.Once.{accepts_once}
use Rattle.cpt_kept.specs.Kept.{HoldKept}
use Rattle.cpt_kept.proofs.Standing.{stands_for}
use Rattle.cpt_json_form.specs.declared.errors.JsonPlanError.{JsonPlanError}
use Rattle.cpt_json_form.specs.declared.errors.JsonPlanError.TheVariants as plan_errors
use Rattle.cpt_json_form.specs.declared.errors.JsonTaskError.{JsonTaskError}
use Rattle.cpt_json_form.specs.declared.errors.JsonTaskError.TheVariants as task_errors
use Rattle.cpt_json_form.specs.Reading.{ReadsPlan, ReadsTask}
use Rattle.cpt_json_form.specs.Values.{report_value, task_value}
use Rattle.cpt_json_form.proofs.Once.{Once, reads_plan_once, reads_task_once}
use Rattle.cpt_json_files.specs.Exporting.{ExportsTask}
use Rattle.cpt_json_files.specs.Faults.{AfterReading, ThenJson, json_line, plan_fault, task_fault}
use Rattle.cpt_json_files.specs.Validating.{AnswersReport, HoldValidJson, JudgesJson, JudgesOver, JudgesText, report_answer}

-- ---- one answer

json_once : {X E : Type 0} (fault : E → Result Answer Ending) (Q : X → Result Answer Ending → Type 0) → ((x : X) → Once (Q x)) → (x : Result X E) (r s : Result Answer Ending) → ThenJson fault x Q r → ThenJson fault x Q s → r ≡ s
json_once fault Q each (Ok x) r s h k = each x r s h k
json_once fault Q each (Err e) r s h k = h ∙ sym k

after_once : {X E : Type 0} (fault : E → Result Answer Ending) (P : Result X E → Type 0) (Q : X → Result Answer Ending → Type 0) → Once P → ((x : X) → Once (Q x)) → Once (AfterReading fault P Q)
after_once fault P Q one each r s h k = json_once fault Q each h.0 r s h.2 (subst (λ x. ThenJson fault x Q s) (one k.0 h.0 k.1 h.1) k.2)

report_once : (task : TaskShape) (plan : List Occ) → Once (AnswersReport task plan)
report_once task plan r s h k = h.2 ∙ ap (λ v. Ok (report_answer task v)) (one_verdict task plan h.0 k.0 h.1 k.1) ∙ sym k.2

text_once : (task : TaskShape) (text : List ℕ) → Once (JudgesText task text)
text_once task text = after_once plan_fault (ReadsPlan task text) (AnswersReport task) (reads_plan_once task text) (λ plan. report_once task plan)

over_once : (files : Files) (plan_name text : List ℕ) → Once (JudgesOver files plan_name text)
over_once files plan_name text =
    after_once task_fault (ReadsTask text) (λ task. Then (text_under files plan_name) (JudgesText task)) (reads_task_once text)
    (λ task r s. then_once (text_under files plan_name) (JudgesText task) (λ plan x y _. text_once task plan x y) r s)

-- a task and a plan come to one end
pub judges_json_once : (files : Files) (t p : List ℕ) (r s : Result Answer Ending) → JudgesJson files t p r → JudgesJson files t p s → r ≡ s
judges_json_once files t p r s = then_once (text_under files t) (JudgesOver files p) (λ text x y _. over_once files p text x y) r s

-- and so do a domain and a problem
pub exports_once : (files : Files) (d p : List ℕ) (r s : Result Answer Ending) → ExportsTask files d p r → ExportsTask files d p s → r ≡ s
exports_once files d p r s = then_by_once (AcceptsTask files d p) (λ a r. r ≡ Ok (answer 0 (json_line (task_value a.kept.task)))) (accepts_once files d p) (λ a x y _ h k. h ∙ sym k) r s

-- ---- a status of 0

-- no fault of a text has it
task_fault_not : (e : JsonTaskError) → (answer_of (task_fault e)).status ≡ 0 → ⊥
task_fault_not task_errors.Syntax z = cc
task_fault_not task_errors.Shape z = cc
task_fault_not (task_errors.Limit which) z = cc
task_fault_not task_errors.BadName z = cc
task_fault_not task_errors.Atom z = cc
task_fault_not task_errors.Duration z = cc
task_fault_not task_errors.Memory z = cc

plan_fault_not : (e : JsonPlanError) → (answer_of (plan_fault e)).status ≡ 0 → ⊥
plan_fault_not plan_errors.Syntax z = cc
plan_fault_not plan_errors.Shape z = cc
plan_fault_not (plan_errors.Unknown place) z = cc
plan_fault_not (plan_errors.Limit which) z = cc
plan_fault_not (plan_errors.Duration place right) z = cc
plan_fault_not plan_errors.Memory z = cc

json_zero : {X E : Type 0} (fault : E → Result Answer Ending) (Q : X → Result Answer Ending → Type 0) (P : Result X E → Type 0) (r : Result Answer Ending) → ((e : E) → (answer_of (fault e)).status ≡ 0 → ⊥)
    → (answer_of r).status ≡ 0 → (x : Result X E) → P x → ThenJson fault x Q r → (y : X) × P (Ok y) × Q y r
json_zero fault Q P r not zero (Ok x) p h = (x, p, h)
json_zero fault Q P r not zero (Err e) p h = absurd (not e (sym (ap (λ x. (answer_of x).status) h) ∙ zero))

verdict_zero : (task : TaskShape) (plan : List Occ) (v : Verdict) → Judges task plan v → (report_answer task v).status ≡ 0 → (m : ℕ) × IsValid task plan × (m ≡ makespan task plan) × ((report_answer task v).text ≡ json_line (report_value task (Valid m)))
verdict_zero task plan (Valid m) j zero = (m, j.0, j.1, refl)
verdict_zero task plan (Overlap a b) j zero = cc
verdict_zero task plan (Unmet a b c) j zero = cc
verdict_zero task plan (GoalMissing a) j zero = cc

report_zero : (task : TaskShape) (plan : List Occ) (r : Result Answer Ending) → AnswersReport task plan r → (answer_of r).status ≡ 0
    → (m : ℕ) × IsValid task plan × (m ≡ makespan task plan) × ((answer_of r).text ≡ json_line (report_value task (Valid m)))
report_zero task plan r h zero =
    let same : answer_of r ≡ report_answer task h.0 = ap answer_of h.2 in
    let z = verdict_zero task plan h.0 h.1 (sym (ap (λ (a : Answer). a.status) same) ∙ zero) in
    (z.0, z.1, z.2, ap (λ (a : Answer). a.text) same ∙ z.3)

pub zero_is_valid : (files : Files) (t p : List ℕ) (r : Result Answer Ending) → JudgesJson files t p r → (answer_of r).status ≡ 0
    → (task : TaskShape) × (m : ℕ) × HoldValidJson files t p task m × ((answer_of r).text ≡ json_line (report_value task (Valid m)))
zero_is_valid files t p r h zero =
    let text = then_zero (text_under files t) (JudgesOver files p) r h zero in
    let read = text.2 in
    let task = json_zero task_fault (λ task. Then (text_under files p) (JudgesText task)) (ReadsTask text.0) r task_fault_not zero read.0 read.1 read.2 in
    let other = then_zero (text_under files p) (JudgesText task.0) r task.2 zero in
    let parsed = other.2 in
    let plan = json_zero plan_fault (AnswersReport task.0) (ReadsPlan task.0 other.0) r plan_fault_not zero parsed.0 parsed.1 parsed.2 in
    let z = report_zero task.0 plan.0 r plan.2 zero in
    (task.0, z.0, record { task_text = text.0; plan_text = other.0; plan = plan.0; task_file = text.1; plan_file = other.1; reads_task = task.1; reads_plan = plan.1; valid = z.1; is = z.2 }, z.3)

-- a valid plan is answered so
pub valid_is_zero : (files : Files) (t p : List ℕ) (task : TaskShape) (m : ℕ) → HoldValidJson files t p task m → JudgesJson files t p (Ok (answer 0 (json_line (report_value task (Valid m)))))
valid_is_zero files t p task m h =
    let end : Result Answer Ending = Ok (answer 0 (json_line (report_value task (Valid m)))) in
    let reported : AnswersReport task h.plan end = (Valid m, (h.valid, h.is), refl) in
    let text : JudgesText task h.plan_text end = (Ok h.plan, h.reads_plan, reported) in
    let over : JudgesOver files p h.task_text end = (Ok task, h.reads_task, subst (λ (y : Result (List ℕ) Ending). Then y (JudgesText task) end) (sym h.plan_file) text) in
    subst (λ (y : Result (List ℕ) Ending). Then y (JudgesOver files p) end) (sym h.task_file) over

-- ---- exporting

pub accepted_plain : (files : Files) (dn pn : List ℕ) (a : Accepted) → AcceptsTask files dn pn (Ok a) → IsPlain a.kept.task
accepted_plain files dn pn a h = let holds = is_accepted files dn pn a h in (stands_for files dn pn a.domain a.problem holds.0 a.kept holds.1).plain

-- the text of an accepted task is what exporting it comes to
pub exported : (o : Option Files) (dn pn : List ℕ) (a : Accepted) (line : List ℕ) → IfSome o (λ files. AcceptsTask files dn pn (Ok a)) → (IsPlain a.kept.task → line ≡ json_line (task_value a.kept.task)) → IfSome o (λ files. ExportsTask files dn pn (Ok (answer 0 line)))
exported o dn pn a line h text =
    if_some_weaker o (λ files. AcceptsTask files dn pn (Ok a)) (λ files. ExportsTask files dn pn (Ok (answer 0 line))) (λ files accepts. (Ok a, accepts, ap (λ l. Ok (answer 0 l)) (text (accepted_plain files dn pn a accepts)))) h

pub zero_is_exported : (files : Files) (dn pn : List ℕ) (r : Result Answer Ending) → ExportsTask files dn pn r → (answer_of r).status ≡ 0
    → (kept : Pruned) × HoldKept files dn pn kept × IsPlain kept.task × ((answer_of r).text ≡ json_line (task_value kept.task))
zero_is_exported files dn pn r h zero =
    let a = then_zero h.0 (λ a r. r ≡ Ok (answer 0 (json_line (task_value a.kept.task)))) r h.2 zero in
    let accepts = subst (AcceptsTask files dn pn) a.1 h.1 in
    let holds = is_accepted files dn pn a.0 accepts in
    (a.0.kept, record { domain = a.0.domain; problem = a.0.problem; task = holds.0; accepted = holds.1 }, accepted_plain files dn pn a.0 accepts, ap (λ x. (answer_of x).text) a.2)

pub exported_is_zero : (files : Files) (dn pn : List ℕ) (kept : Pruned) → HoldKept files dn pn kept → ExportsTask files dn pn (Ok (answer 0 (json_line (task_value kept.task))))
exported_is_zero files dn pn kept h = (Ok (accepted h.domain h.problem kept), accepted_is files dn pn h.domain h.problem h.task kept h.accepted, refl)
