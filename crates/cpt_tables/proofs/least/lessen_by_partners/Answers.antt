use Rattle.std.proofs.Common.{◌≡◌, ◌<◌, ℕ, List, length, ap, arith}
use Rattle.cpt_task.specs.declared.task.Action.{Action}
use Rattle.cpt_tables.specs.Admissible.{nth_action}
use Rattle.cpt_tables.specs.Scans.{IsTwoHere, IsPartnerHere}
use Rattle.cpt_tables.proofs.LessenLemmas.{lessens_start, lessens_more, lessens_same}
use Rattle.cpt_tables.proofs.least.lessen_by_partners.Goals as goal

pub loop-j-init : goal.loop-j-init
loop-j-init c = lessens_start (λ j. IsTwoHere c.args.pairs.now (nth_action c.args.task.now c.args.act) (nth_action c.args.task.now j) c.args.p c.args.q) c.args.least

pub loop-j-preserved : goal.loop-j-preserved
loop-j-preserved c =
    lessens_more (λ j. IsTwoHere c.args.pairs.now (nth_action c.args.task.now c.args.act) (nth_action c.args.task.now j) c.args.p c.args.q) c.loop-j.j c.args.least c.loop-j.least c.lessen_by_two-least.result c.loop-j.invariant
    (rw (c.served_action-c.ensures.action, c.served_action.ensures.action) at c.lessen_by_two-least.ensures)

pub returns : goal.returns
returns c =
    let count : length c.actions-j-end.result.now ≡ length c.args.task.now.actions = ap (λ (xs : List Action). length xs) c.actions-j-end.ensures.value in
    let end : length c.args.task.now.actions ≡ c.loop-j.j = omega (arith, count, c.loop-j-test.false, c.loop-j.auto.j-end) in
    lessens_same (λ v. (j : ℕ) × (j < c.loop-j.j) × IsTwoHere c.args.pairs.now (nth_action c.args.task.now c.args.act) (nth_action c.args.task.now j) c.args.p c.args.q v) (IsPartnerHere c.args.task.now c.args.pairs.now c.args.act c.args.p c.args.q) c.args.least c.loop-j.least
    (λ v m. (m.0, (let lt : m.0 < c.loop-j.j = m.1 in omega (arith, lt, end)), m.2))
    (λ v m. (m.0, (let lt : m.0 < length c.args.task.now.actions = m.1 in omega (arith, lt, end)), m.2))
    c.loop-j.invariant
