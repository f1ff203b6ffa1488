use Rattle.std.proofs.Common.{ap, subst, ◌∙◌, Result}
use Rattle.cpt_task.specs.Shape.{TaskShape}
use Rattle.cpt_task_text.specs.declared.error.TaskTextError.{TaskTextError}
use Rattle.cpt_task_text.specs.Reading.{Gives, task_of}
use Rattle.cpt_task_text.proofs.Whole.{is_found, task_again}
use Rattle.cpt_task_text.proofs.reading.read_task.Goals as goal

pub returns-clause-found : goal.returns-clause-found
returns-clause-found c = is_found c.args.text.now c.task_in.result c.task_in.ensures

pub returns-clause-only : goal.returns-clause-only
returns-clause-only c = λ t plain e. subst (λ (r : Result TaskShape TaskTextError). Gives (λ (u : TaskShape). u) c.task_in.result r) (ap task_of e ∙ task_again t plain) c.task_in.ensures
