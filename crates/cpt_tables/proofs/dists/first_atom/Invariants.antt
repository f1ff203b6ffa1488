use Rattle.cpt_tables.specs.Admissible.{nth_action}
use Rattle.cpt_tables.specs.Scans.{IsAfterHere}
use Rattle.cpt_tables.proofs.AtomScans.{AtomsFirst}
use Rattle.cpt_tables.proofs.dists.first_atom.Given as goal

abbrev pub invariant-loop-j : goal.invariant-loop-j
invariant-loop-j l = AtomsFirst l.dists l.act (λ j. IsAfterHere l.dists l.act (nth_action l.task j)) l.j l.initial.best l.best
