use Rattle.cpt_thin.proofs.Doomed.{nodes_at, open_nodes_at}
use Rattle.cpt_thin.proofs.doubts.is_doomed_at.Goals as goal

pub returns-in-Nodes : goal.returns-in-Nodes
returns-in-Nodes c =
    nodes_at c.args.task.now c.requires.stage.0 c.args.stage.now _ _ _ _ c.in-Nodes.tables c.in-Nodes.walk _ c.is_doomed_node.result c.in-Within.is c.in-Nodes.is c.requires.stage.1 c.is_doomed_node.ensures

pub returns-in-OpenNodes : goal.returns-in-OpenNodes
returns-in-OpenNodes c =
    let found = c.is_doomed_node-in-OpenNodes in
    open_nodes_at c.args.task.now c.requires.stage.0 c.args.stage.now _ _ _ _ c.in-OpenNodes.tables c.in-OpenNodes.walk _ found.result c.in-Within.is c.in-OpenNodes.is c.requires.stage.1 found.ensures
