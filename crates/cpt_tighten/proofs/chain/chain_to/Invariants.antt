use Rattle.std.proofs.Common.{◌<◌, length}
use Rattle.cpt_task.specs.Timeline.{occurrence_at}
use Rattle.cpt_tighten.specs.Links.{HasTrail}
use Rattle.cpt_tighten.proofs.chain.chain_to.Given as goal

abbrev pub invariant-loop-i : goal.invariant-loop-i
invariant-loop-i l = record { within : l.place < length l.tight; trail : HasTrail l.links l.last l.place l.chain.items }

abbrev pub decreases-loop-i : goal.decreases-loop-i
decreases-loop-i l = (occurrence_at l.tight l.place).start
