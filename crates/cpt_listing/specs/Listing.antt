use Rattle.std.specs.Prelude.{◌≡◌, ◌≢◌, ℕ, ◌⊎◌, List, Result, Ok}
use Rattle.std.specs.Io.KnownBytes.{append_known}
use Rattle.cpt_io.specs.Meaning.{Files}
use Rattle.cpt_task_text.specs.Plain.{IsPlain}
use Rattle.cpt_task_text.specs.Reading.{task_of}
use Rattle.cpt_task_text.specs.Spelling.{spelling}
use Rattle.cpt_reach.specs.declared.pruning.Pruned.{Pruned}
use Rattle.cpt_answer.specs.declared.ending.Ending.{Ending}
use Rattle.cpt_answer.specs.Endings.{Answer, answer}
use Rattle.cpt_answer.specs.Giving.{ThenBy}
use Rattle.cpt_answer.specs.Promise.{Call, IsAnswerOf, IsUndisturbed}
use Rattle.cpt_files.specs.Accepted.{AcceptsTask}
use Rattle.cpt_kept.specs.Kept.{HoldKept}

-- what listing the kept task of a domain and a problem comes to
abbrev pub ListsTask : Files → (domain_name problem_name : List ℕ) → Result Answer Ending → Type 0
ListsTask files domain_name problem_name = ThenBy (AcceptsTask files domain_name problem_name) (λ a r. r ≡ Ok (answer 0 (spelling a.kept.task)))

-- what `ground` promises of a call, over the files
pub record ListsProblem (files : Files) (domain_name problem_name : List ℕ) (x : Call) : Type 0 where
  -- It answers 0 only where the files hold a domain and a problem, and then the spelling of their kept task was written, which is
  -- plain, so that it is read back.
  pub listed : x.status ≡ 0
      → (kept : Pruned) × HoldKept files domain_name problem_name kept × IsPlain kept.task × (task_of (spelling kept.task) ≡ Ok kept.task) × (x.new.written ≡ append_known x.old.written (spelling kept.task))
  -- Where they do it answers 0, unless a call fails or memory is refused.
  pub lists : (kept : Pruned) → HoldKept files domain_name problem_name kept → IsUndisturbed x
      → (x.status ≡ 9) ⊎ ((x.status ≡ 0) × (x.new.written ≡ append_known x.old.written (spelling kept.task)))
  -- The files have one answer, which is given, unless a call fails or memory is refused.
  pub complete : (a : Answer) → IsAnswerOf (ListsTask files domain_name problem_name) a → a.status ≢ 7 → IsUndisturbed x
      → (x.status ≡ 9) ⊎ ((x.status ≡ a.status) × (x.new.written ≡ append_known x.old.written a.text))
