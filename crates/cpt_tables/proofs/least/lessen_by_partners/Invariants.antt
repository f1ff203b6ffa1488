use Rattle.cpt_tables.specs.Admissible.{nth_action}
use Rattle.cpt_tables.specs.Scans.{IsTwoHere}
use Rattle.cpt_tables.proofs.LessenLemmas.{LessensFirst}
use Rattle.cpt_tables.proofs.least.lessen_by_partners.Given as goal

abbrev pub invariant-loop-j : goal.invariant-loop-j
invariant-loop-j l = LessensFirst (λ j. IsTwoHere l.pairs (nth_action l.task l.act) (nth_action l.task j) l.p l.q) l.j l.initial.least l.least
