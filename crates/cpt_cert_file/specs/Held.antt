use Rattle.std.specs.Prelude.{◌≡◌, ◌≤◌, ℕ, List, length, Some, Result}
use Rattle.cpt_io.specs.Meaning.{Files}
use Rattle.cpt_task.specs.Shape.{TaskShape}
use Rattle.cpt_domain.specs.declared.domain.Domain.{Domain}
use Rattle.cpt_facts.specs.declared.problem.Problem.{Problem}
use Rattle.cpt_reach.specs.declared.pruning.Pruned.{Pruned}
use Rattle.cpt_answer.specs.declared.ending.Ending.{Ending}
use Rattle.cpt_answer.specs.Endings.{Answer}
use Rattle.cpt_answer.specs.Giving.{Then, ThenBy}
use Rattle.cpt_files.specs.Accepted.{AcceptsTask, IsAccepted}
use Rattle.cpt_cert_file.specs.Texts.{certificate_under, text_limit}

-- the two files hold a domain and a problem of it with this kept part of their ground task, and the third file holds this text of
-- at most 16 MiB
pub record HoldText (files : Files) (domain_name problem_name cert_name : List ℕ) (kept : Pruned) (text : List ℕ) : Type 0 where
  pub domain : Domain
  pub problem : Problem
  pub task : TaskShape
  pub accepted : IsAccepted files domain_name problem_name domain problem task kept
  pub cert_file : files cert_name ≡ Some text
  pub size : length text ≤ text_limit

-- What a command comes to that answers by the text in a file over the domain and the problem of two others: the kept task is made
-- before the text is read, which is read to its end; what is answered to a text over a task is as P says.
abbrev pub OverText : Files → (domain_name problem_name cert_name : List ℕ) → (TaskShape → List ℕ → Result Answer Ending → Type 0) → Result Answer Ending → Type 0
OverText files domain_name problem_name cert_name P =
    ThenBy (AcceptsTask files domain_name problem_name) (λ a. Then (certificate_under files cert_name) (P a.kept.task))
