use Rattle.cpt_sections.proofs.TreeLines.{strange_at_node, node_fails, node_moves}
use Rattle.cpt_sections.proofs.treeing.at_node.Goals as goal

pub returns-in_default : goal.returns-in_default
returns-in_default c = λ v. strange_at_node c.args.task.now c.args.tables v c.args.trees c.args.walk c.args.line_number c.args.line.now c.requires.section.2 c.in_default.not-Node

pub returns-in-On : goal.returns-in-On
returns-in-On c =
    let lead = rw c.in-On.is at c.in_ok-walk.ensures in
    rw c.in-Node.is (λ v. node_moves c.args.task.now c.args.tables v c.args.trees c.args.walk c.in-On.walk c.args.line_number c.in-Node.node c.after_node.result c.requires.section lead c.after_node.ensures)

pub returns-in-Fault : goal.returns-in-Fault
returns-in-Fault c =
    let fails = rw c.in-Fault.is at c.in_ok-walk.ensures in
    rw c.in-Node.is (λ v. node_fails c.args.task.now c.args.tables v c.args.trees c.args.walk c.args.line_number c.in-Node.node c.in-Fault.why c.requires.section.2.opens fails)
