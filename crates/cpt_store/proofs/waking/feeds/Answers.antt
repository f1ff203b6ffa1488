use Rattle.cpt_store.proofs.RelatedLemmas.{no_feeds}
use Rattle.cpt_store.proofs.waking.feeds.Goals as goal

pub returns : goal.returns
returns c = λ e. no_feeds c.args.store.now.sheet c.args.c c.args.x _ c.needs.ensures (c.is_held_in.ensures e)
