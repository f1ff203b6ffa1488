use Rattle.std.proofs.Common.{arith}
use Rattle.cpt_thin.proofs.Doomed.{back_fault, back_more}
use Rattle.cpt_thin.proofs.doubts.is_doomed.Goals as goal

pub loop-at-preserved : goal.loop-at-preserved
loop-at-preserved c =
    let goes = rw c.in-On.is at c.in_ok-next.ensures in
    let test = c.loop-at-test.true in
    let each = c.requires.each in
    record {
      going = goes.going c.loop-at.at c.loop-at.invariant.going;
      back = back_more c.args.task.now c.args.tables.now c.args.start c.loop-at.walk c.in-On.next c.args.fates.now c.args.lines.now c.args.place c.loop-at.at _ _ (omega (arith, test, each)) each c.loop-at.invariant.back (rw c.index-lines-at.is at goes);
    }

pub returns-in-Fault : goal.returns-in-Fault
returns-in-Fault c =
    let doom = rw c.in-Fault.is at c.in_ok-next.ensures in
    let test = c.loop-at-test.true in
    let each = c.requires.each in
    back_fault c.args.task.now c.args.tables.now c.args.start c.loop-at.walk c.args.fates.now c.args.lines.now c.args.place c.loop-at.at _ _ (omega (arith, test, each)) each c.loop-at.invariant.back (rw c.index-lines-at.is at doom)
