use Rattle.std.proofs.Common.{length, ap, arith, []}
use Rattle.cpt_agenda.specs.Users.{IsUsersOf}
use Rattle.cpt_index.proofs.IndexLemmas.{count_put, nth_put, nth_all}
use Rattle.cpt_agenda.proofs.UserLemmas.{users_past}
use Rattle.cpt_agenda.proofs.users.all_users.Goals as goal

pub loop-p-preserved : goal.loop-p-preserved
loop-p-preserved c = record {
  count = count_put c.loop-p.lists.items _ _ c.loop-p.p c.in_ok-push.ensures.items c.loop-p.invariant.count;
  each = nth_put (IsUsersOf c.args.task.now) c.loop-p.lists.items _ _ (record { needing = []; deleting = [] }) c.loop-p.p c.in_ok-push.ensures.items c.loop-p.invariant.count c.loop-p.invariant.each c.in_ok-users_of.ensures;
}

pub returns : goal.returns
returns c =
    nth_all (IsUsersOf c.args.task.now) c.loop-p.lists.items (record { needing = []; deleting = [] }) c.loop-p.p c.loop-p.invariant.count c.loop-p.invariant.each
    (λ q le. users_past c.args.task.now q c.atoms-p-end.ensures.bounds (omega (arith, ap length c.atoms-p-end.ensures.value)))
