use Rattle.cpt_waking.proofs.GainLemmas.{unrelated_with}
use Rattle.cpt_store.proofs.waking.can_wake.Goals as goal

pub returns : goal.returns
returns c =
    λ e rules. unrelated_with rules c.args.ctx.now.task.now c.args.ctx.now.tables.now c.args.store.now.sheet c.args.step.now c.args.subject c.change-change.result c.change-change.ensures
    c.requires.lent.formed c.if-lands_at.ensures (c.is_related.ensures e)
