-- What each command promises follows from what it did.
use Rattle.std.proofs.Common.{ℕ, List, Option, IfSome, ap, ◌∙◌, arith}
use Rattle.std.specs.Io.KnownBytes.{append_known}
use Rattle.cpt_io.specs.Meaning.{Files}
use Rattle.cpt_task.specs.declared.plan.Verdict.TheVariants.{Valid}
use Rattle.cpt_answer.specs.Promise.{AnswersOver, Call, IsAnswerOf, Performs}
use Rattle.cpt_answer.proofs.Giving.{if_some_weaker}
use Rattle.cpt_answer.proofs.Promise.{comes, comes_with, performs_over, told_of}
use Rattle.cpt_json_form.specs.Values.{report_value, task_value}
use Rattle.cpt_json_files.specs.Exporting.{ExportsProblem, ExportsTask}
use Rattle.cpt_json_files.specs.Faults.{json_line}
use Rattle.cpt_json_files.specs.Validating.{JudgesJson, ValidatesJson}
use Rattle.cpt_json_files.proofs.Zero.{exported_is_zero, exports_once, judges_json_once, valid_is_zero, zero_is_exported, zero_is_valid}

plan_kept : (files : Files) (t p : List ℕ) (x : Call) → Performs (IsAnswerOf (JudgesJson files t p)) x → ValidatesJson files t p x
plan_kept files t p x h = record {
  valid = (λ zero.
      let at = told_of (JudgesJson files t p) x 0 (omega arith) h zero in
      let good = zero_is_valid files t p at.0 at.1 at.2 in
      (good.0, good.1, good.2, at.3 ∙ ap (append_known x.old.written) good.3));
  validates = (λ task m holds. comes_with (JudgesJson files t p) x (judges_json_once files t p) h 0 (json_line (report_value task (Valid m))) (λ e. cc) (valid_is_zero files t p task m holds));
  complete = comes (JudgesJson files t p) x (judges_json_once files t p) h;
}

pub keeps_plan : (o : Option Files) (t p : List ℕ) (x : Call) → Performs (AnswersOver o (λ files. JudgesJson files t p)) x → IfSome o (λ files. ValidatesJson files t p x)
keeps_plan o t p x h =
    if_some_weaker o (λ files. Performs (IsAnswerOf (JudgesJson files t p)) x) (λ files. ValidatesJson files t p x) (λ files. plan_kept files t p x) (performs_over o (λ files. JudgesJson files t p) x h)

task_kept : (files : Files) (d p : List ℕ) (x : Call) → Performs (IsAnswerOf (ExportsTask files d p)) x → ExportsProblem files d p x
task_kept files d p x h = record {
  exported = (λ zero.
      let at = told_of (ExportsTask files d p) x 0 (omega arith) h zero in
      let kept = zero_is_exported files d p at.0 at.1 at.2 in
      (kept.0, kept.1, kept.2, at.3 ∙ ap (append_known x.old.written) kept.3));
  exports = (λ kept holds. comes_with (ExportsTask files d p) x (exports_once files d p) h 0 (json_line (task_value kept.task)) (λ e. cc) (exported_is_zero files d p kept holds));
  complete = comes (ExportsTask files d p) x (exports_once files d p) h;
}

pub keeps_task : (o : Option Files) (d p : List ℕ) (x : Call) → Performs (AnswersOver o (λ files. ExportsTask files d p)) x → IfSome o (λ files. ExportsProblem files d p x)
keeps_task o d p x h =
    if_some_weaker o (λ files. Performs (IsAnswerOf (ExportsTask files d p)) x) (λ files. ExportsProblem files d p x) (λ files. task_kept files d p x) (performs_over o (λ files. ExportsTask files d p) x h)
