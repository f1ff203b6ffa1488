use Rattle.cpt_scan.proofs.MoveLemmas.{can_of}
use Rattle.cpt_scan.proofs.moves.step_at.Goals as goal

pub returns : goal.returns
returns g c = can_of g.R.Rule.covers c.args.ctx.now.task.now c.args.ctx.now.tables.now c.args.store.now c.args.c _ c.requires c.propose.ensures
