use Rattle.cpt_store.proofs.RelatedLemmas.{no_harms}
use Rattle.cpt_store.proofs.waking.harms_there.Goals as goal

pub returns : goal.returns
returns c = λ e. no_harms c.args.ctx.now.task.now c.args.store.now.sheet c.args.d c.args.x _ _ c.kind_at.ensures c.needs.ensures (c.is_deleted_in.ensures e)
