use Rattle.cpt_walk.proofs.Turning.{stray_child_turn, stray_open_turn}
use Rattle.cpt_walk.proofs.walk.at_worked.Goals as goal

pub returns-in-Child : goal.returns-in-Child
returns-in-Child c = rw c.in-Child.is (stray_child_turn c.args.task.now c.args.tables.now c.args.past c.args.sheet _)

pub returns-in-OpenNode : goal.returns-in-OpenNode
returns-in-OpenNode c = rw c.in-OpenNode.is (stray_open_turn c.args.task.now c.args.tables.now c.args.past c.args.sheet)
