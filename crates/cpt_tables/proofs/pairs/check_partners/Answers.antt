use Rattle.std.proofs.Common.{◌≡◌, ◌<◌, List, length, ap, arith}
use Rattle.cpt_task.specs.declared.task.Action.{Action}
use Rattle.cpt_tables.specs.Scans.{IsOfTwo, IsOfPartner}
use Rattle.cpt_tables.proofs.PairScans.{IsPartner, first_start_at, first_more, first_all, pairs_same}
use Rattle.cpt_tables.proofs.pairs.check_partners.Goals as goal

pub loop-j-init : goal.loop-j-init
loop-j-init c = first_start_at c.args.pairs.now (IsPartner c.args.task.now c.args.pairs.now c.args.act) c.args.act c.args.best (λ j lt p q v m. omega (arith, m.0, lt))

pub loop-j-preserved : goal.loop-j-preserved
loop-j-preserved c =
    first_more c.args.pairs.now (IsPartner c.args.task.now c.args.pairs.now c.args.act) c.loop-j.j c.args.best c.loop-j.best c.check_two-best.result c.loop-j.invariant
    (pairs_same c.args.pairs.now (IsOfTwo c.args.pairs.now c.served_action-c.result.now c.served_action.result.now) (IsPartner c.args.task.now c.args.pairs.now c.args.act c.loop-j.j) c.loop-j.best c.check_two-best.result
    (λ p q v m. (c.loop-j.auto.j, rw (c.served_action-c.ensures.action, c.served_action.ensures.action) at m))
    (λ p q v m. rw (c.served_action-c.ensures.action, c.served_action.ensures.action) m.1)
    c.check_two-best.ensures)

pub returns : goal.returns
returns c =
    let count : length c.actions-j-end.result.now ≡ length c.args.task.now.actions = ap (λ (xs : List Action). length xs) c.actions-j-end.ensures.value in
    let end : length c.args.task.now.actions ≡ c.loop-j.j = omega (arith, count, c.loop-j-test.false, c.loop-j.auto.j-end, c.requires.act) in
    first_all c.args.pairs.now (IsPartner c.args.task.now c.args.pairs.now c.args.act) (IsOfPartner c.args.task.now c.args.pairs.now c.args.act) c.loop-j.j c.args.best c.loop-j.best
    (λ j lt p q v m. (j, omega (arith, lt, end), m.0, m.1))
    (λ p q v m. (m.0, (let lt : m.0 < length c.args.task.now.actions = m.1 in omega (arith, lt, end)), (m.2, m.3)))
    c.loop-j.invariant
