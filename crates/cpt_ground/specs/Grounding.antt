use Rattle.std.specs.Prelude.{◌≡◌, ◌<◌, ◌≤◌, Result, Ok, Err}
use Rattle.cpt_task.specs.declared.memory.Limit.TheVariants.{Instances}
use Rattle.cpt_task.specs.Shape.{TaskShape}
use Rattle.cpt_domain.specs.declared.domain.Domain.{Domain}
use Rattle.cpt_facts.specs.declared.problem.Problem.{Problem}
use Rattle.cpt_instance.specs.declared.error.GroundError.{GroundError}
use Rattle.cpt_instance.specs.declared.error.GroundError.TheVariants.{Limit, Memory}
use Rattle.cpt_instance.specs.Instances.{type_correct_lists}
use Rattle.cpt_ground.specs.Compiled.{IsGround}
use Rattle.cpt_ground.specs.Reading.{IsReading}
use Rattle.cpt_ground.specs.Signed.{Signed}

-- the reading with absence where the type-correct lists are at most 1,000,000, else that they are more
abbrev pub Reads : Domain → Problem → Result Signed GroundError → Type 0
Reads d p (Ok s) = (type_correct_lists d p ≤ 1000000) × IsReading d p s
Reads d p (Err (Limit which)) = (which ≡ Instances) × (1000000 < type_correct_lists d p)
Reads d p (Err Memory) = Unit

-- the ground task where the type-correct lists are at most 1,000,000, else that they are more
abbrev pub Grounds : Domain → Problem → Result TaskShape GroundError → Type 0
Grounds d p (Ok t) = (type_correct_lists d p ≤ 1000000) × IsGround d p t
Grounds d p (Err (Limit which)) = (which ≡ Instances) × (1000000 < type_correct_lists d p)
Grounds d p (Err Memory) = Unit
