use Rattle.cpt_task_text.proofs.Parts.{number_shorter}
use Rattle.cpt_task_text.proofs.fields.number_of.Goals as goal

pub returns-in-Some-clause-shorter : goal.returns-in-Some-clause-shorter
returns-in-Some-clause-shorter c = number_shorter c.args.bytes.now _ _ c.in-Some.ensures
