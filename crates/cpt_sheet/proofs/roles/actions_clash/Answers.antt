use Rattle.cpt_sheet.proofs.Tests.{clash_match}
use Rattle.cpt_sheet.proofs.roles.actions_clash.Goals as goal

pub returns : goal.returns
returns c = clash_match c.args.task.now c.args.a c.args.b c.interfere.result c.action_at.result.now c.action_at-2.result.now c.action_at.ensures.value c.action_at-2.ensures.value c.interfere.ensures
