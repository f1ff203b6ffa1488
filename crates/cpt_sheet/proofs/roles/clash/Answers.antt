use Rattle.cpt_sheet.specs.declared.data.Kind.TheVariants.{Act}
use Rattle.cpt_sheet.proofs.Tests.{clash_kinds}
use Rattle.cpt_sheet.proofs.roles.clash.Goals as goal

pub returns-in-Act-Act : goal.returns-in-Act-Act
returns-in-Act-Act c = clash_kinds c.args.task.now c.action_clashes.result (Act c.in-Act-Act.a) (Act c.in-Act-Act.b) c.args.first c.args.second c.in-Act-Act.is-0 c.in-Act-Act.is-1 c.action_clashes.ensures
