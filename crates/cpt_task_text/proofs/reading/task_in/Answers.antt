use Rattle.cpt_task.specs.Building.{made_of}
use Rattle.cpt_line.specs.Lines.{split}
use Rattle.cpt_task_text.proofs.Whole.{never_faulty, spells_read}
use Rattle.cpt_task_text.proofs.reading.task_in.Goals as goal

pub unreachable-requires : goal.unreachable-requires
unreachable-requires c =
    let t = made_of c.in_ok-atoms.atoms.items c.in_ok-actions.actions.items c.in_ok-init.init c.in_ok-goal.goal in
    let read = spells_read c.args.text.now t c.in_ok-count.count c.in_ok-count.more c.in_ok-line.line.now (split c.in_ok-line.rest.now) (split c.in_ok-atoms.rest.now) (split c.in_ok-actions.rest.now) (split c.in_ok-init.rest.now) (split c.in_ok-goal.rest.now) c.in_ok-ends.field-0
    (record { first = c.in_ok-line.ensures; counts = c.in_ok-count.ensures.exact; atoms = c.in_ok-atoms.ensures.exact; actions = c.in_ok-actions.ensures.exact; init = c.in_ok-init.ensures; goal = c.in_ok-goal.ensures; end = c.in_ok-ends.ensures }) in
    never_faulty t c.in-Err.field-0 read.plain.bounds c.in-Err.ensures
