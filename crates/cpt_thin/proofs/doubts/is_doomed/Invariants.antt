use Rattle.cpt_thin.specs.Dooms.{IsBack, IsGoing}
use Rattle.cpt_thin.proofs.doubts.is_doomed.Given as goal

abbrev pub invariant-loop-at : goal.invariant-loop-at
invariant-loop-at l = record {
  going : IsGoing l.fn.task l.at l.walk;
  back : IsBack l.fn.task l.fn.tables l.fn.start l.walk l.fates l.lines l.fn.place l.at;
}
