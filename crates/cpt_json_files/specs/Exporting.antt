-- The kept task of a domain and a problem in its JSON form.
use Rattle.std.specs.Prelude.{◌≡◌, ◌≢◌, ℕ, ◌⊎◌, List, Result, Ok}
use Rattle.std.specs.Io.KnownBytes.{append_known}
use Rattle.cpt_io.specs.Meaning.{Files}
use Rattle.cpt_task_text.specs.Plain.{IsPlain}
use Rattle.cpt_reach.specs.declared.pruning.Pruned.{Pruned}
use Rattle.cpt_answer.specs.declared.ending.Ending.{Ending}
use Rattle.cpt_answer.specs.Endings.{Answer, answer}
use Rattle.cpt_answer.specs.Giving.{ThenBy}
use Rattle.cpt_answer.specs.Promise.{Call, IsAnswerOf, IsUndisturbed}
use Rattle.cpt_files.specs.Accepted.{AcceptsTask}
use Rattle.cpt_kept.specs.Kept.{HoldKept}
use Rattle.cpt_json_form.specs.Values.{task_value}
use Rattle.cpt_json_files.specs.Faults.{json_line}

-- what exporting the kept task of a domain and a problem comes to
abbrev pub ExportsTask : Files → (domain_name problem_name : List ℕ) → Result Answer Ending → Type 0
ExportsTask files domain_name problem_name = ThenBy (AcceptsTask files domain_name problem_name) (λ a r. r ≡ Ok (answer 0 (json_line (task_value a.kept.task))))

-- what `export` promises of a call, over the files
pub record ExportsProblem (files : Files) (domain_name problem_name : List ℕ) (x : Call) : Type 0 where
  -- It answers 0 only where the files hold a domain and a problem, and then the JSON text of their kept task was written, which is plain.
  pub exported : x.status ≡ 0 → (kept : Pruned) × HoldKept files domain_name problem_name kept × IsPlain kept.task × (x.new.written ≡ append_known x.old.written (json_line (task_value kept.task)))
  -- Where they do it answers 0, unless a call fails or memory is refused.
  pub exports : (kept : Pruned) → HoldKept files domain_name problem_name kept → IsUndisturbed x
      → (x.status ≡ 9) ⊎ ((x.status ≡ 0) × (x.new.written ≡ append_known x.old.written (json_line (task_value kept.task))))
  -- The files have one answer, which is given, unless a call fails or memory is refused.
  pub complete : (a : Answer) → IsAnswerOf (ExportsTask files domain_name problem_name) a → a.status ≢ 7 → IsUndisturbed x
      → (x.status ≡ 9) ⊎ ((x.status ≡ a.status) × (x.new.written ≡ append_known x.old.written a.text))
