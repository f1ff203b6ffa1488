use Rattle.std.proofs.Common.{◌≡◌, ◌≢◌, ℕ, ◌≤◌, ◌<◌, inl, inr, List, Option, Result, Ok, Err, IfOk, IfSome, refl, sym, ap, ◌∙◌, subst, arith}
use Rattle.std.specs.Prelude.{IsSome}
use Rattle.std.specs.Io.KnownBytes.{append_known}
use Rattle.cpt_io.specs.Meaning.{Files}
use Rattle.cpt_answer.specs.declared.ending.Ending.{Ending}
use Rattle.cpt_answer.specs.declared.ending.Ending.TheVariants.{Read}
use Rattle.cpt_answer.specs.Endings.{Answer, answer_of, read_answer}
use Rattle.cpt_answer.specs.Lines.{valid_line}
use Rattle.cpt_answer.specs.Promise.{AnswersOver, Call, IsAnswerOf, Performs}
use Rattle.cpt_answer.proofs.Giving.{if_some_weaker}
use Rattle.cpt_answer.proofs.Promise.{among, comes, comes_with, performs_over, quieter, read_comes_to, told_of}
use Rattle.cpt_reach.specs.Plans.{older_plan}
use Rattle.cpt_kept.proofs.Standing.{stands_for, with_absence}
use Rattle.cpt_validate.specs.Commands.{IsVerdict, ValidatesProblem, ValidatesTask}
use Rattle.cpt_validate.specs.Verdicts.{JudgesFiles, JudgesPlan}
use Rattle.cpt_validate.proofs.Once.{judges_files_once, judges_plan_once}
use Rattle.cpt_validate.proofs.Zero.{judged_is_zero, judges_not_read, judges_ok, judges_plan_not_read, judges_plan_ok, judges_plan_verdict, judges_verdict, valid_is_zero, zero_is_judged, zero_is_valid}

-- a status by what is come to
verdicts : (P : Result Answer Ending → Type 0) → ((r : Result Answer Ending) → P r → (answer_of r).status < 7 → IsVerdict (answer_of r).status) → (a : Answer) → IsAnswerOf P a → a.status < 7 → IsVerdict a.status
verdicts P each a h low =
    let same : a.status ≡ (answer_of h.0).status = ap (λ (a : Answer). a.status) h.2 in
    subst IsVerdict (sym same) (each h.0 h.1 (omega (arith, same, low)))

not_seven : (s : ℕ) → IsVerdict s → s ≢ 7
not_seven s h seven = elim h [ inl e ↦ omega (arith, e, seven) | inr k ↦ elim k [ inl e ↦ omega (arith, e, seven) | inr l ↦ elim l [ inl e ↦ omega (arith, e, seven) | inr e ↦ omega (arith, e, seven) ] ] ]

task_kept : (files : Files) (t p : List ℕ) (x : Call) → Performs (IsAnswerOf (JudgesFiles files t p)) x → ValidatesTask files t p x
task_kept files t p x h = record {
  valid = (λ zero.
      let at = told_of (JudgesFiles files t p) x 0 (omega arith) h zero in
      let good = zero_is_valid files t p at.0 at.1 at.2 in
      (good.0, good.1, at.3 ∙ ap (append_known x.old.written) good.2));
  validates = (λ m holds. comes_with (JudgesFiles files t p) x (judges_files_once files t p) h 0 (valid_line m) (λ e. cc) (valid_is_zero files t p m holds));
  complete = comes (JudgesFiles files t p) x (judges_files_once files t p) h;
  within = (λ not quiet.
      among (IsAnswerOf (JudgesFiles files t p)) IsVerdict x (inr (inr (inr refl))) (verdicts (JudgesFiles files t p) (judges_verdict files t p not)) h
      (quieter (IsSome (files t) × IsSome (files p)) (IsAnswerOf (JudgesFiles files t p) read_answer → ⊥) x
      (λ held read. judges_not_read files t p held.0 held.1 (read_comes_to (JudgesFiles files t p) (λ a is. not_seven a.status (judges_ok files t p a is)) read)) quiet));
}

pub keeps_task : (o : Option Files) (t p : List ℕ) (x : Call) → Performs (AnswersOver o (λ files. JudgesFiles files t p)) x → IfSome o (λ files. ValidatesTask files t p x)
keeps_task o t p x h =
    if_some_weaker o (λ files. Performs (IsAnswerOf (JudgesFiles files t p)) x) (λ files. ValidatesTask files t p x) (λ files. task_kept files t p x) (performs_over o (λ files. JudgesFiles files t p) x h)

problem_kept : (files : Files) (d p n : List ℕ) (x : Call) → Performs (IsAnswerOf (JudgesPlan files d p n)) x → ValidatesProblem files d p n x
problem_kept files d p n x h = record {
  valid = (λ zero.
      let at = told_of (JudgesPlan files d p n) x 0 (omega arith) h zero in
      let good = zero_is_judged files d p n at.0 at.1 at.2 in
      let held = good.1 in
      let stands = stands_for files d p held.domain held.problem held.task held.kept held.accepted in
      (good.0, held, with_absence held.domain held.problem held.task held.kept (older_plan held.kept.actions held.plan.occs) good.0 stands held.valid held.is, at.3 ∙ ap (append_known x.old.written) good.2));
  validates = (λ m holds. comes_with (JudgesPlan files d p n) x (judges_plan_once files d p n) h 0 (valid_line m) (λ e. cc) (judged_is_zero files d p n m holds));
  complete = comes (JudgesPlan files d p n) x (judges_plan_once files d p n) h;
  within = (λ domain problem task kept a not quiet.
      among (IsAnswerOf (JudgesPlan files d p n)) IsVerdict x (inr (inr (inr refl))) (verdicts (JudgesPlan files d p n) (judges_plan_verdict files d p n domain problem task kept a not)) h
      (quieter (IsSome (files n)) (IsAnswerOf (JudgesPlan files d p n) read_answer → ⊥) x
      (λ held read. judges_plan_not_read files d p n domain problem task kept a held (read_comes_to (JudgesPlan files d p n) (λ a is. not_seven a.status (judges_plan_ok files d p n a is)) read)) quiet));
}

pub keeps_problem : (o : Option Files) (d p n : List ℕ) (x : Call) → Performs (AnswersOver o (λ files. JudgesPlan files d p n)) x → IfSome o (λ files. ValidatesProblem files d p n x)
keeps_problem o d p n x h =
    if_some_weaker o (λ files. Performs (IsAnswerOf (JudgesPlan files d p n)) x) (λ files. ValidatesProblem files d p n x) (λ files. problem_kept files d p n x) (performs_over o (λ files. JudgesPlan files d p n) x h)
