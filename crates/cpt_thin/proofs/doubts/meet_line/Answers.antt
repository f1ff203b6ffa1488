use Rattle.cpt_thin.proofs.Doomed.{fails_here, goes_on}
use Rattle.cpt_thin.proofs.doubts.meet_line.Goals as goal

pub returns-else-is_read : goal.returns-else-is_read
returns-else-is_read c =
    let lead = rw c.in-On.is at c.in_ok-next.ensures in
    rw c.in-Node.is (goes_on c.args.task.now c.args.tables.now c.args.walk c.in-On.next c.in-Node.node lead c.if-is_read.ensures)

pub returns-in-Fault : goal.returns-in-Fault
returns-in-Fault c =
    let fails = rw c.in-Fault.is at c.in_ok-next.ensures in
    rw c.in-Node.is (fails_here c.args.task.now c.args.tables.now c.args.walk c.in-Node.node _ fails)
