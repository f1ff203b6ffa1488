use Rattle.std.proofs.Common.{length}
use Rattle.cpt_tighten.proofs.Timing.{same_events}
use Rattle.cpt_tighten.proofs.agenda.agenda_of.Goals as goal

pub returns : goal.returns
returns c = record {
  sorted = c.in_ok-sort.ensures.sorted;
  has = same_events c.args.task.now c.args.plan.now (length c.args.plan.now) c.in_ok-events.events.items c.sort.new.self.items c.in_ok-sort.ensures.permutation c.in_ok-events.ensures;
}
