use Rattle.std.proofs.Common.{◌∙◌}
use Rattle.cpt_json_read.proofs.Parts.{actions_atoms, bounds_of, makes}
use Rattle.cpt_json_read.proofs.making.task_of.Goals as goal

pub actions_of-requires-clause-atoms : goal.actions_of-requires-clause-atoms
actions_of-requires-clause-atoms c = actions_atoms c.args.form c.atoms-count.result.now c.actions.result.now c.atoms-count.ensures c.actions.ensures c.requires.atoms

pub unreachable-requires : goal.unreachable-requires
unreachable-requires c =
    makes c.args.form c.into_atoms.result.items c.in_ok-actions.actions.items c.in_ok-init.init c.in_ok-goal.goal c.in-Err.field-0 c.into_atoms.ensures.items (c.in_ok-actions.ensures.items ∙ c.actions.ensures) (c.in_ok-init.ensures ∙ c.init.ensures)
    (c.in_ok-goal.ensures ∙ c.goal.ensures) (bounds_of c.args.form c.requires.few_atoms c.requires.few_actions c.requires.atoms c.requires.durations) c.in-Err.ensures
