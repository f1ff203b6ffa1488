use Rattle.cpt_json_files.proofs.Zero.{exported}
use Rattle.cpt_json_files.proofs.exporting.export_task.Goals as goal

pub returns-in-Ok-task_line-clause-answer : goal.returns-in-Ok-task_line-clause-answer
returns-in-Ok-task_line-clause-answer g c = exported (g.L.Library.holds c.args.lib.now) c.args.domain_name.now c.args.problem_name.now c.in-Ok.accepted c.in-Ok-task_line.text.items c.in-Ok.ensures.answer c.in-Ok-task_line.ensures
