use Rattle.std.proofs.Common.{refl}
use Rattle.cpt_scan.proofs.closing.make_if_legal.Goals as goal

pub returns : goal.returns
returns c = c.in_ok-narrow.ensures.formed c.args.ctx.now.task.now c.args.ctx.now.tables.now c.requires.formed (c.if-not-legal.ensures.0 refl)
