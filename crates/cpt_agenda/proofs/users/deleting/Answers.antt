use Rattle.std.proofs.Common.{length, ap, arith}
use Rattle.cpt_index.proofs.IndexLemmas.{among_all, among_start}
use Rattle.cpt_agenda.specs.Asked.{IsActionBelow}
use Rattle.cpt_agenda.specs.Users.{IsDropper}
use Rattle.cpt_agenda.proofs.AskedLemmas.{action_none}
use Rattle.cpt_agenda.proofs.UserLemmas.{dropper_below, put_dropper}
use Rattle.cpt_agenda.proofs.users.deleting.Goals as goal

pub loop-a-init : goal.loop-a-init
loop-a-init c = among_start _ _ _ c.new-found.ensures.items action_none

pub loop-a-preserved : goal.loop-a-preserved
loop-a-preserved c =
    put_dropper c.args.task.now c.args.p c.loop-a.a _ _ _ (omega (arith, ap length c.actions-a-end.ensures.value)) c.in_ok-put_if.ensures c.deletes-belongs.ensures c.loop-a.invariant

pub returns : goal.returns
returns c =
    among_all (IsDropper c.args.task.now c.args.p) (IsActionBelow c.loop-a.a) _ _ c.from_vec.ensures
    (λ x h. dropper_below c.args.task.now c.args.p c.loop-a.a x (omega (arith, ap length c.actions-a-end.ensures.value)) h) c.loop-a.invariant
