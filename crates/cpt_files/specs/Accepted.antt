use Rattle.std.specs.Prelude.{◌≡◌, ◌≢◌, ◌≤◌, ℕ, List, length, Result, Ok, Err, IfOk}
use Rattle.cpt_io.specs.Meaning.{Files}
use Rattle.cpt_task.specs.Shape.{TaskShape, InBounds}
use Rattle.cpt_domain.specs.declared.domain.Domain.{Domain}
use Rattle.cpt_facts.specs.declared.problem.Problem.{Problem}
use Rattle.cpt_instance.specs.declared.error.GroundError.{GroundError}
use Rattle.cpt_instance.specs.declared.error.GroundError.TheVariants as ground_errors
use Rattle.cpt_ground.specs.Grounding.{Grounds}
use Rattle.cpt_reach.specs.declared.pruning.PruneError.{PruneError}
use Rattle.cpt_reach.specs.declared.pruning.PruneError.TheVariants as prune_errors
use Rattle.cpt_reach.specs.declared.pruning.Pruned.{Pruned}
use Rattle.cpt_reach.specs.Pruning.{Prunes}
use Rattle.cpt_files.specs.declared.accepted.Accepted.{Accepted}
use Rattle.cpt_answer.specs.declared.ending.Ending.{Ending}
use Rattle.cpt_answer.specs.declared.ending.Cause.TheVariants.{Passed}
use Rattle.cpt_answer.specs.declared.ending.Ending.TheVariants.{Because, Memory}
use Rattle.cpt_answer.specs.Giving.{ThenBy, ended}
use Rattle.cpt_files.specs.Texts.{DomainUnder, ProblemUnder}

-- the task keeps the limits of atoms and actions
pub record IsSmall (t : TaskShape) : Type 0 where
  pub atoms : length t.atoms ≤ 2048
  pub actions : length t.actions ≤ 4096

-- the ending where grounding passes a limit, and where pruning does
abbrev pub ground_ending : GroundError → Ending
ground_ending (ground_errors.Limit which) = Because (Passed which)
ground_ending ground_errors.Memory = Memory

-- the ending where the kept part is not had
abbrev pub prune_ending : PruneError → Ending
prune_ending (prune_errors.Limit which) = Because (Passed which)
prune_ending prune_errors.Memory = Memory

-- the ground task of a domain and a problem, whose numbers are in range, or the limit that it passes
abbrev pub GroundsTo : Domain → Problem → Result TaskShape Ending → Type 0
GroundsTo d p r = (x : Result TaskShape GroundError) × Grounds d p x × IfOk x InBounds × (x ≢ Err ground_errors.Memory) × (ended ground_ending x ≡ r)

-- the kept part of a task, or the first limit that it passes
abbrev pub PrunesTo : TaskShape → Result Pruned Ending → Type 0
PrunesTo t r = (x : Result Pruned PruneError) × Prunes t x × (x ≢ Err prune_errors.Memory) × (ended prune_ending x ≡ r)

-- the kept part of the ground task
abbrev pub KeepsTo : Domain → Problem → Result Pruned Ending → Type 0
KeepsTo d p = ThenBy (GroundsTo d p) PrunesTo

-- a domain, a problem and the kept part of their task
abbrev pub accepted : Domain → Problem → Pruned → Accepted
accepted d p kept = record { domain = d; problem = p; kept = kept }

-- What two files come to: the domain is read whole and understood, and then the problem; then their task is made and pruned.
abbrev pub AcceptsTask : Files → (domain_name problem_name : List ℕ) → Result Accepted Ending → Type 0
AcceptsTask files domain_name problem_name =
    ThenBy (DomainUnder files domain_name) (λ d. ThenBy (ProblemUnder files d problem_name) (λ p. ThenBy (KeepsTo d p) (λ kept r. r ≡ Ok (accepted d p kept))))

-- the two files hold this sound domain and this problem that fits it, whose ground task is this, with this kept part, and no
-- quantity passes a limit
pub record IsAccepted (files : Files) (domain_name problem_name : List ℕ) (d : Domain) (p : Problem) (task : TaskShape) (kept : Pruned) : Type 0 where
  pub domain_file : DomainUnder files domain_name (Ok d)
  pub problem_file : ProblemUnder files d problem_name (Ok p)
  pub grounds : Grounds d p (Ok task)
  pub bounds : InBounds task
  pub prunes : Prunes task (Ok kept)
