use Rattle.std.specs.Prelude.{◌≡◌, ◌≤◌, ℕ, List, length, Option, Some}
use Rattle.cpt_io.specs.Meaning.{Files}
use Rattle.cpt_task.specs.Shape.{TaskShape}
use Rattle.cpt_task.specs.declared.plan.Occ.{Occ}
use Rattle.cpt_task.specs.Timeline.{makespan}
use Rattle.cpt_task.specs.Optimal.{IsOptimal, IsRefuted, HasNoPlan}
use Rattle.cpt_domain.specs.declared.domain.Domain.{Domain}
use Rattle.cpt_facts.specs.declared.problem.Problem.{Problem}
use Rattle.cpt_ground.specs.Reading.{IsReading}
use Rattle.cpt_ground.specs.declared.signed.Signed.{Signed}
use Rattle.cpt_ground.specs.Signed.{IsValidSigned, signed_makespan}
use Rattle.cpt_reach.specs.declared.pruning.Pruned.{Pruned}
use Rattle.cpt_cert_form.specs.declared.forms.Version.{Version}
use Rattle.cpt_cert_form.specs.declared.forms.Claim.{Claim}
use Rattle.cpt_cert_form.specs.declared.forms.Claim.TheVariants.{Optimal, NoneUpTo, Never, Spent}
use Rattle.cpt_cert_form.specs.Text.{Parts}
use Rattle.cpt_cert_accept.specs.declared.faults.Why.{Why}
use Rattle.cpt_cert_accept.specs.Accepting.{IsCertificate}
use Rattle.cpt_check.specs.Judging.{IsRejected}
use Rattle.cpt_files.specs.Accepted.{IsAccepted}
use Rattle.cpt_check_files.specs.Rulings.{cert_limit}

-- What a claim over the kept part says of the ground task, where it comes with a plan: the plan, whose actions have the numbers
-- of the ground task, is optimal with that makespan, no valid plan has a makespan of at most the bound, or no plan is valid.
abbrev pub HoldsOverGround : TaskShape → Claim → List Occ → Type 0
HoldsOverGround task (Optimal m) plan = IsOptimal task plan × (makespan task plan ≡ m)
HoldsOverGround task (NoneUpTo m) plan = IsRefuted task m
HoldsOverGround task Never plan = HasNoPlan task
HoldsOverGround task (Spent refuted nodes) plan = IsRefuted task refuted

-- no plan that is valid for the reading has a makespan of at most b
abbrev pub IsRefutedSigned : Signed → ℕ → Type 0
IsRefutedSigned s b = (plan : List Occ) → IsValidSigned s plan → signed_makespan s plan ≤ b → ⊥

-- the plan is valid for the reading, and each plan that is has at least its makespan
pub record IsOptimalSigned (s : Signed) (plan : List Occ) : Type 0 where
  pub valid : IsValidSigned s plan
  pub least : (other : List Occ) → IsValidSigned s other → signed_makespan s plan ≤ signed_makespan s other

-- what a claim says of a reading with absence
abbrev pub HoldsOfReading : Signed → Claim → List Occ → Type 0
HoldsOfReading s (Optimal m) plan = IsOptimalSigned s plan × (signed_makespan s plan ≡ m)
HoldsOfReading s (NoneUpTo m) plan = IsRefutedSigned s m
HoldsOfReading s Never plan = (other : List Occ) → IsValidSigned s other → ⊥
HoldsOfReading s (Spent refuted nodes) plan = IsRefutedSigned s refuted

-- the claim holds of the domain and the problem as they are read with absence
pub record HoldsWithAbsence (d : Domain) (p : Problem) (claim : Claim) (plan : List Occ) : Type 0 where
  pub reading : Signed
  pub reads : IsReading d p reading
  pub holds : HoldsOfReading reading claim plan

-- the two files hold a domain and a problem of it with this kept part of their ground task, and the third file holds a certificate
-- of the kept part in this version, with this claim, that is not too long
pub record HoldCertificate (files : Files) (domain_name problem_name cert_name : List ℕ) (version : Version) (claim : Claim) : Type 0 where
  pub domain : Domain
  pub problem : Problem
  pub task : TaskShape
  pub kept : Pruned
  pub accepted : IsAccepted files domain_name problem_name domain problem task kept
  pub text : List ℕ
  pub cert_file : files cert_name ≡ Some text
  pub size : length text ≤ cert_limit
  pub parts : Parts
  pub certificate : IsCertificate kept.task text version claim parts

-- the two files hold a domain and a problem of it with this kept part of their ground task, and the third file holds a text of this
-- version whose first fault over the kept part is at this line, for this reason: the text is not too long, or the fault stands in
-- lines that end before it is
pub record HoldFault (files : Files) (domain_name problem_name cert_name : List ℕ) (version : Option Version) (line : ℕ) (why : Why) : Type 0 where
  pub domain : Domain
  pub problem : Problem
  pub task : TaskShape
  pub kept : Pruned
  pub accepted : IsAccepted files domain_name problem_name domain problem task kept
  pub text : List ℕ
  pub cert_file : files cert_name ≡ Some text
  pub rejected : IsRejected kept.task cert_limit text version line why
