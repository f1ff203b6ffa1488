-- Stages of reading JSON texts.
use Rattle.std.proofs.Common.{◌≡◌, ◌≢◌, ℕ, Bool, IsTrue, List, Option, None, Some, Result, Ok, Err, IfSome, refl}
use Rattle.std.specs.Prelude.{OnOk}
use Rattle.cpt_io.specs.Meaning.{Files}
use Rattle.cpt_task.specs.declared.plan.Occ.{Occ}
use Rattle.cpt_task.specs.Shape.{TaskShape}
use Rattle.cpt_answer.specs.declared.ending.Ending.{Ending}
use Rattle.cpt_answer.specs.declared.ending.Ending.TheVariants.{Because, Read, Memory}
use Rattle.cpt_answer.specs.declared.ending.Reply.{Reply}
use Rattle.cpt_answer.specs.Endings.{Answer, reply_answer}
use Rattle.cpt_answer.specs.Giving.{Gives, Then}
use Rattle.cpt_answer.proofs.Giving.{gives_steadier, gives_weaker, if_both, if_some_weaker, then_ok}
use Rattle.cpt_files.specs.Files.{text_under}
use Rattle.cpt_json_form.specs.declared.errors.JsonPlanError.{JsonPlanError}
use Rattle.cpt_json_form.specs.declared.errors.JsonPlanError.TheVariants as plan_errors
use Rattle.cpt_json_form.specs.declared.errors.JsonTaskError.{JsonTaskError}
use Rattle.cpt_json_form.specs.declared.errors.JsonTaskError.TheVariants as task_errors
use Rattle.cpt_json_form.specs.Reading.{GivesPlan, GivesTask, ReadsPlan, ReadsTask}
use Rattle.cpt_json_files.specs.Faults.{AfterReading, plan_fault, task_fault}
use Rattle.cpt_json_files.specs.Validating.{JudgesJson, JudgesOver, JudgesText}

-- what was read goes on
pub read_on : {X E : Type 0} (steady : Bool) (fault : E → Result Answer Ending) (P : Result X E → Type 0) (x : X) (r : Result Reply Ending) (Q : X → Result Answer Ending → Type 0) → P (Ok x) → Gives steady reply_answer r (Q x) → Gives steady reply_answer r (AfterReading fault P Q)
read_on steady fault P x r Q p g = gives_weaker steady reply_answer r (Q x) (AfterReading fault P Q) (λ y q. (Ok x, p, q)) g

-- or its fault is the answer
faulty : {X E : Type 0} (steady : Bool) (fault : E → Result Answer Ending) (P : Result X E → Type 0) (e : E) (r : Result Reply Ending) (Q : X → Result Answer Ending → Type 0) → P (Err e) → Gives steady reply_answer r (λ y. y ≡ fault e) → Gives steady reply_answer r (AfterReading fault P Q)
faulty steady fault P e r Q p g = gives_weaker steady reply_answer r (λ y. y ≡ fault e) (AfterReading fault P Q) (λ y q. (Err e, p, q)) g

-- what is given as want of memory is given in any case
no_memory : (steady : Bool) (r : Result Reply Ending) (P : Result Answer Ending → Type 0) → r ≢ Err Read → Gives steady reply_answer r (λ y. y ≡ Err Memory) → Gives steady reply_answer r P
no_memory steady (Ok x) P not g = absurd cc
no_memory steady (Err (Because cause)) P not g = absurd cc
no_memory steady (Err Read) P not g = absurd (not refl)
no_memory steady (Err Memory) P not g = tt

pub task_faulty : (steady : Bool) (text : List ℕ) (e : JsonTaskError) (r : Result Reply Ending) (Q : TaskShape → Result Answer Ending → Type 0) → r ≢ Err Read → GivesTask {X = TaskShape} (λ t. t) (Err e) (ReadsTask text)
    → Gives steady reply_answer r (λ y. y ≡ task_fault e) → Gives steady reply_answer r (AfterReading task_fault (ReadsTask text) Q)
task_faulty steady text task_errors.Syntax r Q not p g = faulty steady task_fault (ReadsTask text) task_errors.Syntax r Q p g
task_faulty steady text task_errors.Shape r Q not p g = faulty steady task_fault (ReadsTask text) task_errors.Shape r Q p g
task_faulty steady text (task_errors.Limit which) r Q not p g = faulty steady task_fault (ReadsTask text) (task_errors.Limit which) r Q p g
task_faulty steady text task_errors.BadName r Q not p g = faulty steady task_fault (ReadsTask text) task_errors.BadName r Q p g
task_faulty steady text task_errors.Atom r Q not p g = faulty steady task_fault (ReadsTask text) task_errors.Atom r Q p g
task_faulty steady text task_errors.Duration r Q not p g = faulty steady task_fault (ReadsTask text) task_errors.Duration r Q p g
task_faulty steady text task_errors.Memory r Q not p g = no_memory steady r (AfterReading task_fault (ReadsTask text) Q) not g

pub plan_faulty : (steady : Bool) (task : TaskShape) (text : List ℕ) (e : JsonPlanError) (r : Result Reply Ending) (Q : List Occ → Result Answer Ending → Type 0) → r ≢ Err Read → GivesPlan {X = List Occ} (λ p. p) (Err e) (ReadsPlan task text)
    → Gives steady reply_answer r (λ y. y ≡ plan_fault e) → Gives steady reply_answer r (AfterReading plan_fault (ReadsPlan task text) Q)
plan_faulty steady task text plan_errors.Syntax r Q not p g = faulty steady plan_fault (ReadsPlan task text) plan_errors.Syntax r Q p g
plan_faulty steady task text plan_errors.Shape r Q not p g = faulty steady plan_fault (ReadsPlan task text) plan_errors.Shape r Q p g
plan_faulty steady task text (plan_errors.Unknown place) r Q not p g = faulty steady plan_fault (ReadsPlan task text) (plan_errors.Unknown place) r Q p g
plan_faulty steady task text (plan_errors.Limit which) r Q not p g = faulty steady plan_fault (ReadsPlan task text) (plan_errors.Limit which) r Q p g
plan_faulty steady task text (plan_errors.Duration place right) r Q not p g = faulty steady plan_fault (ReadsPlan task text) (plan_errors.Duration place right) r Q p g
plan_faulty steady task text plan_errors.Memory r Q not p g = no_memory steady r (AfterReading plan_fault (ReadsPlan task text) Q) not g

-- what is given in any case is given over the files
pub told_all : (o : Option Files) (P : Files → Type 0) → ((files : Files) → P files) → IfSome o P
told_all None P f = tt
told_all (Some files) P f = f files

-- the plan's text was read, and judged
pub plan_over : (o p : Option Files) (steady : Bool) (plan_name text plan : List ℕ) (task : TaskShape) (r : Result Reply Ending) → p ≡ o → ReadsTask text (Ok task) → IfSome o (λ files. text_under files plan_name ≡ Ok plan) → Gives steady reply_answer r (JudgesText task plan)
    → IfSome o (λ files. Gives steady reply_answer r (JudgesOver files plan_name text))
plan_over o p steady plan_name text plan task r same read held g =
    if_some_weaker o (λ files. text_under files plan_name ≡ Ok plan) (λ files. Gives steady reply_answer r (JudgesOver files plan_name text))
    (λ files e. read_on steady task_fault (ReadsTask text) task r (λ t. Then (text_under files plan_name) (JudgesText t)) read (then_ok steady reply_answer (text_under files plan_name) plan r (JudgesText task) e g)) held

-- the task's text was read, and what follows is over the files after it
pub judged : (o p : Option Files) (s t : Bool) (task_name plan_name text : List ℕ) (r : Result Reply Ending) → p ≡ o → (IsTrue s → IsTrue t) → IfSome o (λ files. text_under files task_name ≡ Ok text) → IfSome p (λ files. Gives t reply_answer r (JudgesOver files plan_name text))
    → IfSome o (λ files. Gives s reply_answer r (JudgesJson files task_name plan_name))
judged o p s t task_name plan_name text r same steady read g =
    if_both o p (λ files. text_under files task_name ≡ Ok text) (λ files. Gives t reply_answer r (JudgesOver files plan_name text)) (λ files. Gives s reply_answer r (JudgesJson files task_name plan_name)) same
    (λ files e h. then_ok s reply_answer (text_under files task_name) text r (JudgesOver files plan_name) e (gives_steadier s t reply_answer r (JudgesOver files plan_name text) steady h)) read g

-- what holds where there is a value is weaker
pub on_ok_weaker : {T E : Type 0} (r : Result T E) (Z W : Type 0) → (Z → W) → OnOk r Z → OnOk r W
on_ok_weaker (Ok x) Z W f z = f z
on_ok_weaker (Err e) Z W f z = tt
