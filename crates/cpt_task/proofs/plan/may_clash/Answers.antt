use Rattle.cpt_task.proofs.Meeting.{no_clash}
use Rattle.cpt_task.proofs.plan.may_clash.Goals as goal

pub returns : goal.returns
returns c =
    let needed = rw (c.as_slice-dele.ensures.items, c.action_at-action.ensures.action) at (c.some_has_company.ensures c.if-some_has_company.false) in
    let added = rw (c.as_slice-dele.ensures.items, c.action_at-action.ensures.action) at (c.some_has_company-2.ensures c.if-some_has_company-2.false) in
    let gone = rw (c.as_slice.ensures.items, c.action_at-action.ensures.action) at (c.some_has_company-3.ensures c.if-some_has_company-3.false) in
    λ last.
    let lost = rw (c.as_slice-2.ensures.items, c.action_at-action.ensures.action) at (c.some_has_company-4.ensures last) in
    no_clash c.args.task.now c.args.plan.now c.args.i needed added gone lost
