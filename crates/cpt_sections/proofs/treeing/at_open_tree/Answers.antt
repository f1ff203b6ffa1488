use Rattle.cpt_sections.proofs.TreeLines.{strange_at_open_tree, other_at_open_tree, open_tree_begins}
use Rattle.cpt_sections.proofs.treeing.at_open_tree.Goals as goal

pub returns-in_default : goal.returns-in_default
returns-in_default c = λ v. strange_at_open_tree c.args.task.now c.args.tables v c.args.refuted c.args.nodes c.args.line_number c.args.line.now c.in_default.not-OpenTree

pub returns-then-bound-refuted : goal.returns-then-bound-refuted
returns-then-bound-refuted c = rw c.in-OpenTree.is (λ v. other_at_open_tree c.args.task.now c.args.tables v c.args.refuted c.args.nodes c.args.line_number c.in-OpenTree.bound c.if-bound-refuted.true)

pub returns : goal.returns
returns c =
    let k = c.in_ok-walk.ensures in
    rw c.in-OpenTree.is (
    λ v. open_tree_begins c.args.task.now c.args.tables v c.args.refuted c.args.nodes c.args.line_number c.in-OpenTree.bound c.in_ok-walk.walk c.requires.section.1 c.if-bound-refuted.false k.parts (k.left c.args.line_number) k.none.0 k.none.1 k.few
    )
