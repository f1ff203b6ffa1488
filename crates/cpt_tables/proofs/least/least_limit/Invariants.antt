use Rattle.cpt_tables.specs.Scans.{IsActionHere}
use Rattle.cpt_tables.proofs.LessenLemmas.{LessensFirst}
use Rattle.cpt_tables.proofs.least.least_limit.Given as goal

abbrev pub invariant-loop-act : goal.invariant-loop-act
invariant-loop-act l = LessensFirst (λ i. IsActionHere l.task l.pairs i l.p l.q) l.act l.initial.least l.least
