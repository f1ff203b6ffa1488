use Rattle.cpt_task.proofs.Meeting.{told, met_from_start, need_from_start}
use Rattle.cpt_task.proofs.plan.first_need.Goals as goal

pub returns : goal.returns
returns c =
    let lack = rw (c.as_slice.ensures.items, c.action_at.ensures.action) at c.first_lack.ensures in
    let t = c.args.task.now in
    let plan = c.args.plan.now in
    told c.first_lack.result (met_from_start t plan c.args.i c.requires.apart c.requires.within c.requires.times.pre.starts.lasting) (λ p. need_from_start t plan c.args.i p c.requires.apart c.requires.within c.requires.times.pre.starts.lasting) lack
