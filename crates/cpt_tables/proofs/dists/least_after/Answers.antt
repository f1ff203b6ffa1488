use Rattle.std.proofs.Common.{◌≡◌, ◌<◌, ℕ, List, length, ap, arith}
use Rattle.cpt_task.specs.declared.span.Span.TheVariants.{Never}
use Rattle.cpt_task.specs.declared.task.Action.{Action}
use Rattle.cpt_tables.specs.Admissible.{nth_action, IsLimitAfter}
use Rattle.cpt_tables.specs.Scans.{IsAfterHere}
use Rattle.cpt_tables.proofs.LessenLemmas.{lessens_more, lessens_same}
use Rattle.cpt_tables.proofs.AtomScans.{after_from_here, here_from_after}
use Rattle.cpt_tables.proofs.dists.least_after.Goals as goal

pub loop-j-preserved : goal.loop-j-preserved
loop-j-preserved c =
    lessens_more (λ j. IsAfterHere c.args.dists.now c.args.act (nth_action c.args.task.now j) c.args.p) c.loop-j.j Never c.loop-j.least c.lessen_after-least.result c.loop-j.invariant
    (rw (c.served_action.ensures.action) at c.lessen_after-least.ensures)

pub returns : goal.returns
returns c =
    let count : length c.actions-j-end.result.now ≡ length c.args.task.now.actions = ap (λ (xs : List Action). length xs) c.actions-j-end.ensures.value in
    let end : c.loop-j.j ≡ length c.args.task.now.actions = omega (arith, count, c.loop-j-test.false, c.loop-j.auto.j-end) in
    lessens_same (λ v. (j : ℕ) × (j < c.loop-j.j) × IsAfterHere c.args.dists.now c.args.act (nth_action c.args.task.now j) c.args.p v) (IsLimitAfter c.args.task.now c.args.dists.now c.args.act c.args.p) Never c.loop-j.least
    (λ v m. after_from_here c.args.task.now c.args.dists.now c.args.act c.args.p v c.loop-j.j end m)
    (λ v m. here_from_after c.args.task.now c.args.dists.now c.args.act c.args.p v c.loop-j.j end m)
    c.loop-j.invariant
