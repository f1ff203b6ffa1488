use Rattle.std.proofs.Common.{sym, subst}
use Rattle.cpt_task_text.specs.Plain.{IsPlain}
use Rattle.cpt_json_form.proofs.Plain.{form_answered, plain_of}
use Rattle.cpt_json_read.proofs.tasks.task_in.Goals as goal

pub task_of-requires-clause-few_atoms : goal.task_of-requires-clause-few_atoms
task_of-requires-clause-few_atoms c = (form_answered c.args.form tt tt c.in-Ok.ensures).0.few_atoms

pub task_of-requires-clause-few_actions : goal.task_of-requires-clause-few_actions
task_of-requires-clause-few_actions c = (form_answered c.args.form tt tt c.in-Ok.ensures).0.few_actions

pub task_of-requires-clause-atoms : goal.task_of-requires-clause-atoms
task_of-requires-clause-atoms c = (form_answered c.args.form tt tt c.in-Ok.ensures).0.numbers

pub task_of-requires-clause-durations : goal.task_of-requires-clause-durations
task_of-requires-clause-durations c = (form_answered c.args.form tt tt c.in-Ok.ensures).0.durations

pub returns-in_ok-task_of-in-Ok-clause-plain : goal.returns-in_ok-task_of-in-Ok-clause-plain
returns-in_ok-task_of-in-Ok-clause-plain c = subst IsPlain (sym c.in_ok-task_of-in-Ok.ensures) (plain_of c.args.form (form_answered c.args.form tt tt c.in-Ok.ensures).0)
