use Rattle.std.proofs.Common.{◌∙◌, ap}
use Rattle.cpt_task.specs.Building.{made_of}
use Rattle.cpt_reach.specs.Kept.{IsKeptPart, renumbered}
use Rattle.cpt_reach.proofs.KeptLemmas.{atoms_below, kept_part, kept_in_bounds, is_built}
use Rattle.cpt_reach.proofs.kept.kept_task.Goals as goal

pub new_names-requires : goal.new_names-requires
new_names-requires c = atoms_below c.args.task.now c.args.atoms.now c.requires.bounds c.requires.kept_atoms

pub unwrap-requires : goal.unwrap-requires
unwrap-requires c =
    let old = c.args.task.now in
    let atoms = c.args.atoms.now in
    let actions = c.args.actions.now in
    let new = made_of c.in_ok-names.names.items c.in_ok-new.new.items c.in_ok-init.init c.in_ok-goal.goal in
    let part : IsKeptPart old atoms actions new =
    kept_part old atoms actions c.in_ok-names.names.items c.in_ok-new.new.items c.in_ok-init.init c.in_ok-goal.goal c.requires.kept_atoms c.requires.kept_actions
    c.in_ok-names.ensures c.in_ok-new.ensures (c.in_ok-init.ensures ∙ ap (renumbered atoms) c.init.ensures.value) (c.in_ok-goal.ensures ∙ ap (renumbered atoms) c.goal.ensures.value) in
    is_built new c.build.result (kept_in_bounds old new atoms actions c.requires.bounds part c.requires.few_atoms c.requires.few_actions) c.build.ensures
