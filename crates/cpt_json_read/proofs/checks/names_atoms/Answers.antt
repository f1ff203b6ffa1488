use Rattle.cpt_json_read.proofs.Parts.{actions_atoms, goal_decides, init_atoms}
use Rattle.cpt_json_read.proofs.checks.names_atoms.Goals as goal

pub returns-then-not-have_atoms : goal.returns-then-not-have_atoms
returns-then-not-have_atoms c = λ h. c.if-not-have_atoms.ensures (actions_atoms c.args.form.now c.atoms-count.result.now c.actions.result.now c.atoms-count.ensures c.actions.ensures h)

pub returns-then-not-are_atoms : goal.returns-then-not-are_atoms
returns-then-not-are_atoms c = λ h. c.if-not-are_atoms.ensures (init_atoms c.args.form.now c.atoms-count.result.now c.init.result.now c.atoms-count.ensures c.init.ensures h)

pub returns : goal.returns
returns c =
    goal_decides c.args.form.now c.atoms-count.result.now c.actions.result.now c.init.result.now c.goal.result.now c.are_atoms-2.result c.atoms-count.ensures c.actions.ensures c.init.ensures c.goal.ensures c.if-not-have_atoms.ensures c.if-not-are_atoms.ensures c.are_atoms-2.ensures
