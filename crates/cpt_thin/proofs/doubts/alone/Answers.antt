use Rattle.std.proofs.Common.{◌∙◌, ap}
use Rattle.cpt_walk.specs.declared.walk.Place.TheVariants.{Node, Worked}
use Rattle.cpt_thin.proofs.Doomed.{node_alone, work_alone}
use Rattle.cpt_thin.proofs.doubts.alone.Goals as goal

pub returns-in_ok-copy-in-Node : goal.returns-in_ok-copy-in-Node
returns-in_ok-copy-in-Node c =
    let past = c.walk_at.ensures.past in
    node_alone c.args.walk.now c.walk_at.result c.in-Node.sheet c.in-Node.is (c.walk_at.ensures.place ∙ ap Node c.in_ok-copy-in-Node.ensures) past.0 past.1 past.2

pub returns-in_ok-copy-in-Worked : goal.returns-in_ok-copy-in-Worked
returns-in_ok-copy-in-Worked c =
    let past = c.walk_at-in-Worked.ensures.past in
    work_alone c.args.walk.now c.walk_at-in-Worked.result c.in-Worked.sheet c.in-Worked.is (c.walk_at-in-Worked.ensures.place ∙ ap Worked c.in_ok-copy-in-Worked.ensures) past.0 past.1 past.2
