use Rattle.cpt_tables.specs.Admissible.{nth_action}
use Rattle.cpt_tables.specs.Scans.{IsAfterHere}
use Rattle.cpt_tables.proofs.LessenLemmas.{LessensFirst}
use Rattle.cpt_tables.proofs.dists.least_after.Given as goal

abbrev pub invariant-loop-j : goal.invariant-loop-j
invariant-loop-j l = LessensFirst (λ j. IsAfterHere l.dists l.act (nth_action l.task j) l.p) l.j l.initial.least l.least
