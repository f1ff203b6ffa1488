use Rattle.std.proofs.Common.{◌≤◌, arith, length, length-set, set, true}
use Rattle.cpt_declared.proofs.MarkLemmas.{marks_entered}
use Rattle.cpt_declared.proofs.kind_run.Reading.enter_kind.Goals as goal

pub invariant_of-self-2-clause-marked : goal.invariant_of-self-2-clause-marked
invariant_of-self-2-clause-marked c =
    let long = length-set c.args.self.now.marks.items c.args.kind true in
    let marked = c.args.self.now.marked in
    let all : length c.args.self.now.names ≤ length (set c.args.self.now.marks.items c.args.kind true) = omega (arith, long, marked) in
    all

pub invariant_of-self-2-clause-told : goal.invariant_of-self-2-clause-told
invariant_of-self-2-clause-told c =
    rw c.in_ok-push.ensures.items (marks_entered c.args.self.now.entered.items c.args.self.now.marks.items c.args.kind c.args.self.now.told c.requires)
