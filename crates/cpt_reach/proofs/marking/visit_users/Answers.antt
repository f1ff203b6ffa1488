use Rattle.std.proofs.Common.{◌≡◌, ◌+◌, take, get_or, Contains}
use Rattle.cpt_reach.proofs.MarkLemmas.{settles_more, contains_more}
use Rattle.cpt_reach.proofs.marking.visit_users.Goals as goal

pub loop-a-preserved : goal.loop-a-preserved
loop-a-preserved c =
    let users = c.args.users.now in
    let i = c.loop-a.a-index in
    settles_more c.args.task.now (Contains (take i users)) (λ b. b ≡ get_or users i 0) (Contains (take (i + 1) users)) c.args.marks.now c.args.agenda.now.items c.loop-a.marks c.loop-a.agenda.items c.visit.new.marks c.visit.new.agenda.items
    (contains_more users i c.loop-a-test.true) c.loop-a.invariant c.in_ok-visit.ensures
