use Rattle.std.proofs.Common.{◌∙◌, sym}
use Rattle.cpt_sections.proofs.TreeLines.{strange_at_tree, other_at_tree, tree_begins}
use Rattle.cpt_sections.proofs.treeing.at_tree.Goals as goal

pub returns-in_default : goal.returns-in_default
returns-in_default c = λ v. strange_at_tree c.args.task.now c.args.tables v c.args.trees c.args.line_number c.args.line.now c.in_default.not-Tree

pub returns-then-bound-closed_bound : goal.returns-then-bound-closed_bound
returns-then-bound-closed_bound c =
    rw c.in-Tree.is (λ v. other_at_tree c.args.task.now c.args.tables v c.args.trees c.args.line_number c.in-Tree.bound (λ e. c.if-bound-closed_bound.true (e ∙ sym c.closed_bound.ensures)))

pub returns : goal.returns
returns c =
    let left = c.in_ok-walk.ensures.left c.args.line_number in
    rw c.in-Tree.is (
    λ v. tree_begins c.args.task.now c.args.tables v c.args.trees c.args.line_number c.in-Tree.bound c.in_ok-walk.walk c.requires.section.0 c.requires.section.1 (c.if-bound-closed_bound.false ∙ c.closed_bound.ensures) c.in_ok-walk.ensures.parts left c.in_ok-walk.ensures.few
    )
