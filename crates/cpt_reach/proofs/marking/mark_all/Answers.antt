use Rattle.cpt_reach.proofs.MarkLemmas.{marks_more}
use Rattle.cpt_reach.proofs.marking.mark_all.Goals as goal

pub loop-x-preserved : goal.loop-x-preserved
loop-x-preserved c =
    marks_more c.args.xs.now c.loop-x.x-index c.args.marks.now c.args.agenda.now.items c.loop-x.marks c.loop-x.agenda.items c.mark.new.marks c.mark.new.agenda.items c.loop-x-test.true c.loop-x.invariant c.in_ok-mark.ensures
