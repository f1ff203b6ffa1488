use Rattle.std.specs.Prelude.{ℕ, List, Option, None, Some}
use Rattle.cpt_task.specs.Building.{IsFirst}
use Rattle.cpt_task.specs.Shape.{TaskShape}
use Rattle.cpt_plan_text.specs.declared.roster.Found.{Found}
use Rattle.cpt_plan_text.specs.declared.roster.Found.TheVariants.{Known, Unreachable, Unknown}
use Rattle.cpt_plan_text.specs.Knowing.{HasName, task_finds}
use Rattle.cpt_domain.specs.declared.domain.Domain.{Domain}
use Rattle.cpt_facts.specs.declared.problem.Problem.{Problem}
use Rattle.cpt_instance.specs.NameReading.{named_duration}
use Rattle.cpt_instance.specs.declared.instances.Instance.{Instance}
use Rattle.cpt_instance.specs.Named.{IsNamed}
use Rattle.cpt_reach.specs.declared.pruning.Pruned.{Pruned}

-- a domain, a problem of it, and the kept part of their task, as contracts see them
pub record NamesShape : Type 0 where
  pub domain : Domain
  pub problem : Problem
  pub kept : Pruned

-- an unknown name may be that of an instance of this duration, which is unreachable
abbrev pub else_named : Found → Option ℕ → Found
else_named (Known n) dur = Known n
else_named (Unreachable dur) other = Unreachable dur
else_named Unknown None = Unknown
else_named Unknown (Some dur) = Unreachable dur

-- what is known of a name: the kept task's least action of that name, or else the instance that has it
abbrev pub kept_finds : Domain → Problem → Pruned → List ℕ → Found
kept_finds d p kept name = else_named (task_finds kept.task name) (named_duration d p name)

-- no action of the task has the name
abbrev pub IsNoAction : TaskShape → List ℕ → Type 0
IsNoAction t name = (n : ℕ) → HasName t.actions name n → ⊥

-- the least action of the kept task that has the name; or the duration of an instance that has it, where no kept action has
-- it; or that neither has it
abbrev pub KnowsAs : Domain → Problem → TaskShape → List ℕ → Found → Type 0
KnowsAs d p t name (Known n) = IsFirst (HasName t.actions name) n
KnowsAs d p t name (Unreachable dur) = IsNoAction t name × ((i : Instance) × IsNamed d p name dur i)
KnowsAs d p t name Unknown = IsNoAction t name × ((dur : ℕ) (i : Instance) → IsNamed d p name dur i → ⊥)
