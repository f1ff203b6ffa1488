use Rattle.std.proofs.Common.{Some, subst}
use Rattle.cpt_calculus.specs.Rules.{change_of}
use Rattle.cpt_agenda.specs.declared.woken.Spot.{Spot}
use Rattle.cpt_agenda.specs.Asked.{WokenFrom}
use Rattle.cpt_agenda.proofs.AskedLemmas.{asked_there}
use Rattle.cpt_agenda.proofs.TableLemmas.{woken_from}
use Rattle.cpt_agenda.proofs.woken.wake.Goals as goal

pub returns : goal.returns
returns g c = record {
  keeps = c.wake_at.ensures.keeps;
  within = c.wake_at.ensures.within;
  there = asked_there g.R.Rule.covers c.args.ctx.now.task.now c.args.ctx.now.tables.now c.args.store.now.sheet (Some c.args.step.now) _ _ _ c.wake_at.ensures;
  woken = λ d there w. c.wake_at.ensures.asked d (subst (λ (z : Spot). WokenFrom c.args.ctx.now.task.now c.args.store.now.sheet z d) (c.touched.ensures c.args.store.now.sheet) (woken_from c.args.ctx.now.task.now c.args.store.now.sheet c.requires.can.lent.formed (change_of c.args.store.now.sheet c.args.step.now) d there w));
}
