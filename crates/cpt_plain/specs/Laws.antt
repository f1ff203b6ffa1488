use Rattle.std.specs.Prelude.{Ok}
use Rattle.cpt_task.specs.Shape.{InBounds, TaskShape}
use Rattle.cpt_task_text.specs.Plain.{IsPlain}
use Rattle.cpt_domain.specs.declared.domain.Domain.{Domain}
use Rattle.cpt_domain.specs.Sound.{IsSound}
use Rattle.cpt_facts.specs.declared.problem.Problem.{Problem}
use Rattle.cpt_facts.specs.Fitting.{Fits}
use Rattle.cpt_ground.specs.Compiled.{IsGround}
use Rattle.cpt_reach.specs.declared.pruning.Pruned.{Pruned}
use Rattle.cpt_reach.specs.Pruning.{Prunes}

-- the kept part of the ground task of a sound domain and a problem that fits it is a plain task, so it has a spelling that is read
abbrev pub KeptTasksArePlain : Type 0
KeptTasksArePlain = (d : Domain) (p : Problem) (t : TaskShape) (kept : Pruned) → IsSound d → Fits d p → InBounds t → IsGround d p t → Prunes t (Ok kept) → IsPlain kept.task
