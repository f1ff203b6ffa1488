use Rattle.std.proofs.Common.{◌≡◌, ◌<◌, ◌⊎◌, ℕ, List, length, ap, arith}
use Rattle.cpt_task.specs.declared.span.Span.TheVariants.{Never}
use Rattle.cpt_task.specs.declared.task.Action.{Action}
use Rattle.cpt_tables.specs.Admissible.{IsPairLimit, IsLimitAtStart}
use Rattle.cpt_tables.specs.Scans.{IsActionHere}
use Rattle.cpt_tables.proofs.LessenLemmas.{lessens_start, lessens_more, lessens_both, lessens_same, least_from}
use Rattle.cpt_tables.proofs.LimitLemmas.{limit_from_here, here_from_limit}
use Rattle.cpt_tables.proofs.least.least_limit.Goals as goal

pub loop-act-init : goal.loop-act-init
loop-act-init c = lessens_start (λ i. IsActionHere c.args.task.now c.args.pairs.now i c.args.p c.args.q) c.limit_at_start-least.result

pub loop-act-preserved : goal.loop-act-preserved
loop-act-preserved c = lessens_more (λ i. IsActionHere c.args.task.now c.args.pairs.now i c.args.p c.args.q) c.loop-act.act c.limit_at_start-least.result c.loop-act.least c.lessen_by_action-least.result c.loop-act.invariant c.lessen_by_action-least.ensures

pub returns : goal.returns
returns c =
    let count : length c.actions-act-end.result.now ≡ length c.args.task.now.actions = ap (λ (xs : List Action). length xs) c.actions-act-end.ensures.value in
    let end : length c.args.task.now.actions ≡ c.loop-act.act = omega (arith, count, c.loop-act-test.false, c.loop-act.auto.act-end) in
    least_from (IsPairLimit c.args.task.now c.args.pairs.now c.args.p c.args.q) c.loop-act.least
    (lessens_same (λ v. IsLimitAtStart c.args.task.now c.args.p c.args.q v ⊎ ((i : ℕ) × (i < c.loop-act.act) × IsActionHere c.args.task.now c.args.pairs.now i c.args.p c.args.q v)) (IsPairLimit c.args.task.now c.args.pairs.now c.args.p c.args.q) Never c.loop-act.least
    (λ v m. limit_from_here c.args.task.now c.args.pairs.now c.args.p c.args.q v c.loop-act.act (omega arith) m)
    (λ v m. here_from_limit c.args.task.now c.args.pairs.now c.args.p c.args.q v c.loop-act.act (omega arith) m)
    (lessens_both (IsLimitAtStart c.args.task.now c.args.p c.args.q) (λ v. (i : ℕ) × (i < c.loop-act.act) × IsActionHere c.args.task.now c.args.pairs.now i c.args.p c.args.q v) Never c.limit_at_start-least.result c.loop-act.least
    c.limit_at_start-least.ensures c.loop-act.invariant))
