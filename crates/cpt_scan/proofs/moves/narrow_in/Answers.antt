use Rattle.std.proofs.Common.{◌∙◌}
use Rattle.cpt_scan.proofs.MoveLemmas.{narrowed_formed}
use Rattle.cpt_scan.proofs.moves.narrow_in.Goals as goal

pub returns-clause-lent : goal.returns-clause-lent
returns-clause-lent g c = record {
  task = c.narrow.ensures.task ∙ c.requires.lent.task;
  fits = c.requires.lent.fits;
  formed = narrowed_formed c.args.ctx.now.task.now c.args.store.now _ c.args.step.now c.requires.lent.task c.requires.can c.narrow.ensures.sheet;
}
