use Rattle.std.specs.Prelude.{◌≡◌, ◌↔◌, List}
use Rattle.cpt_domain.specs.declared.domain.Domain.{Domain}
use Rattle.cpt_facts.specs.declared.problem.Problem.{Problem}
use Rattle.cpt_facts.specs.Fitting.{Fits}
use Rattle.cpt_task.specs.declared.plan.Occ.{Occ}
use Rattle.cpt_task.specs.Shape.{TaskShape, InBounds}
use Rattle.cpt_task.specs.Timeline.{IsValid, makespan}
use Rattle.cpt_ground.specs.Compiled.{IsGround}
use Rattle.cpt_ground.specs.Reading.{IsReading}
use Rattle.cpt_ground.specs.Signed.{Signed, IsValidSigned, signed_makespan}

-- the plans of a ground task are those of a reading with absence, with the same makespans
pub record HasSamePlans (t : TaskShape) (s : Signed) : Type 0 where
  pub valid : (plan : List Occ) → IsValid t plan ↔ IsValidSigned s plan
  pub makespan : (plan : List Occ) → makespan t plan ≡ signed_makespan s plan

-- a domain and a problem that fits it have one reading with absence
abbrev pub OneReading : Type 0
OneReading = (d : Domain) (p : Problem) (s r : Signed) → Fits d p → IsReading d p s → IsReading d p r → s ≡ r

-- a domain and a problem that fits it have one ground task
abbrev pub OneGround : Type 0
OneGround = (d : Domain) (p : Problem) (t u : TaskShape) → Fits d p → IsGround d p t → IsGround d p u → t ≡ u

-- A ground task whose numbers are in range has the plans of the reading with absence of its domain and problem: the
-- same lists of occurrences, so the same action numbers and starts, are valid, and with the same makespans.
abbrev pub SamePlans : Type 0
SamePlans = (d : Domain) (p : Problem) (t : TaskShape) (s : Signed) → Fits d p → InBounds t → IsGround d p t → IsReading d p s → HasSamePlans t s
