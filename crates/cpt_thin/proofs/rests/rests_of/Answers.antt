use Rattle.std.proofs.Common.{[], ◌++◌, arith}
use Rattle.cpt_thin.specs.Dooms.{line_left}
use Rattle.cpt_thin.proofs.FrontLines.{few_left}
use Rattle.cpt_thin.proofs.rests.rests_of.Goals as goal

pub loop-place-init : goal.loop-place-init
loop-place-init c = ([], omega arith, c.begin_front.ensures c.args.task.now)

pub pass_line-requires-clause-line : goal.pass_line-requires-clause-line
pass_line-requires-clause-line c = rw c.index-lines-place.is (c.requires.lines c.loop-place.place _ c.loop-place-test.true)

pub loop-place-preserved : goal.loop-place-preserved
loop-place-preserved c =
    let front = c.loop-place.invariant in
    let le = front.1 in
    let size = few_left front.0 c.fate_at.result c.index-lines-place.result in
    (front.0 ++ line_left c.fate_at.result c.index-lines-place.result, omega (arith, le, size), c.in_ok-front.ensures front.0 front.2)
