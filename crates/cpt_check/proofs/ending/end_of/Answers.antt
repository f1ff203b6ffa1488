use Rattle.std.proofs.Common.{◌+◌, length}
use Rattle.cpt_check.proofs.Concluding.{ends_early, ends_whole}
use Rattle.cpt_check.proofs.ending.end_of.Goals as goal

pub returns-then-unfinished : goal.returns-then-unfinished
returns-then-unfinished c = λ t text h. ends_early t text c.args.past.now c.args.lines.now c.claimed-claimed.result h (c.claimed-claimed.ensures t (length h.read + 1) h.past.stage) c.if-unfinished.ensures

pub returns-else-unfinished : goal.returns-else-unfinished
returns-else-unfinished c = λ t text h. ends_whole t text c.args.past.now c.args.lines.now c.claimed-claimed.result h (c.claimed-claimed.ensures t (length h.read + 1) h.past.stage) c.if-unfinished.ensures
