use Rattle.std.proofs.Common.{◌≡◌, ◌<◌, length, get_or, subst, sym, ◌∙◌, ap}
use Rattle.std.proofs.lemmas.List.{get_or_read}
use Rattle.cpt_task.specs.Timeline.{idle}
use Rattle.cpt_tables.specs.Admissible.{nth_action}
use Rattle.cpt_tables.specs.Serving.{IsServed}
use Rattle.cpt_tables.proofs.TaskLemmas.{nth_served}
use Rattle.cpt_tables.proofs.sides.served_action.Goals as goal

pub returns-clause-served : goal.returns-clause-served
returns-clause-served c =
    let same : c.index-actions-act.result ≡ nth_action c.args.task.now c.args.act =
    get_or_read c.actions.result.now c.args.act c.index-actions-act.result (subst (λ xs. c.args.act < length xs) (sym c.actions.ensures.value) c.requires.act) c.index-actions-act.is idle
    ∙ ap (λ xs. get_or xs c.args.act idle) c.actions.ensures.value in
    subst (IsServed c.args.pairs.now) (sym same) (nth_served c.args.task.now c.args.pairs.now c.args.act c.actions.ensures.bounds c.requires.fits c.requires.act)
