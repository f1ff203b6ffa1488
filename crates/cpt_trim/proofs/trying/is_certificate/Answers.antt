use Rattle.std.proofs.Common.{arith}
use Rattle.cpt_trim.proofs.Less.{accepted_is, rejected_is}
use Rattle.cpt_trim.proofs.trying.is_certificate.Goals as goal

pub returns-in-Accepted : goal.returns-in-Accepted
returns-in-Accepted c =
    let size = c.requires.size in
    accepted_is c.args.task.now 16777216 c.args.text.now c.in_ok-judged.judged _ c.in-Accepted.is (c.in_ok-judged.ensures.rules 16777216 size)

pub returns-in-Rejected : goal.returns-in-Rejected
returns-in-Rejected c =
    let size = c.requires.size in
    rejected_is c.args.task.now 16777216 c.args.text.now c.in_ok-judged.judged _ _ c.actions-actions.ensures.bounds (omega (arith, size)) c.in-Rejected.is (c.in_ok-judged.ensures.rules 16777216 size)
