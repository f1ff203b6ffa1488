use Rattle.std.proofs.Common.{◌≡◌, ◌<◌, ℕ, None, List, length, ap, arith}
use Rattle.cpt_task.specs.declared.span.Span.TheVariants.{At}
use Rattle.cpt_task.specs.declared.task.Action.{Action}
use Rattle.cpt_tables.specs.Scans.{IsAmongBoth, IsOfAction}
use Rattle.cpt_tables.proofs.PairScans.{first_start, first_more, first_all, pairs_both}
use Rattle.cpt_tables.proofs.pairs.first_pair.Goals as goal

pub loop-act-init : goal.loop-act-init
loop-act-init c = first_start c.args.pairs.now (λ i. IsOfAction c.args.task.now c.args.pairs.now i) c.check_init-best.result

pub loop-act-preserved : goal.loop-act-preserved
loop-act-preserved c =
    first_more c.args.pairs.now (λ i. IsOfAction c.args.task.now c.args.pairs.now i) c.loop-act.act c.check_init-best.result c.loop-act.best c.check_action-best.result c.loop-act.invariant c.check_action-best.ensures

pub returns-clause-found : goal.returns-clause-found
returns-clause-found c =
    let count : length c.actions-count.result.now ≡ length c.args.task.now.actions = ap (λ (xs : List Action). length xs) c.actions-count.ensures.value in
    let end : length c.args.task.now.actions ≡ c.loop-act.act = omega (arith, count, c.loop-act-test.false, c.loop-act.auto.act-end) in
    pairs_both c.args.pairs.now (IsAmongBoth c.args.task.now.init c.args.task.now.init (At 0)) (λ p q v. (i : ℕ) × (i < length c.args.task.now.actions) × IsOfAction c.args.task.now c.args.pairs.now i p q v) None c.check_init-best.result c.loop-act.best
    c.check_init-best.ensures
    (first_all c.args.pairs.now (λ i. IsOfAction c.args.task.now c.args.pairs.now i) (λ p q v. (i : ℕ) × (i < length c.args.task.now.actions) × IsOfAction c.args.task.now c.args.pairs.now i p q v) c.loop-act.act c.check_init-best.result c.loop-act.best
    (λ j lt p q v m. (j, omega (arith, lt, end), m))
    (λ p q v m. (m.0, (let lt : m.0 < length c.args.task.now.actions = m.1 in omega (arith, lt, end)), m.2))
    c.loop-act.invariant)
