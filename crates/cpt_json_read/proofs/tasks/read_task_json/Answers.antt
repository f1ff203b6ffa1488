use Rattle.cpt_json_read.proofs.Wholes.{form_read, form_unread}
use Rattle.cpt_json_read.proofs.tasks.read_task_json.Goals as goal

pub returns-in-Ok-clause-exact : goal.returns-in-Ok-clause-exact
returns-in-Ok-clause-exact c = form_read c.args.text.now c.in-Ok.form c.task_in.result c.in-Ok.ensures c.task_in.ensures.exact

pub returns-in-Err-clause-exact : goal.returns-in-Err-clause-exact
returns-in-Err-clause-exact c = form_unread c.args.text.now c.in-Err.fault c.in-Err.ensures
