use Rattle.std.proofs.Common.{◌∙◌}
use Rattle.cpt_store.proofs.CopyLemmas.{no_fault_of}
use Rattle.cpt_store.proofs.copies.copy_task.Goals as goal

pub unreachable-requires : goal.unreachable-requires
unreachable-requires c =
    no_fault_of c.args.task.now _ _ _ _ _ c.actions.ensures.bounds (c.in_ok-atoms.ensures ∙ c.atoms.ensures.value) (c.in_ok-actions.ensures ∙ c.actions.ensures.value) (c.in_ok-init.ensures ∙ c.init.ensures.value)
    (c.in_ok-goal.ensures ∙ c.goal.ensures.value) c.in-Err.ensures
