use Rattle.cpt_tables.specs.Scans.{IsBesideOne}
use Rattle.cpt_tables.proofs.PairScans.{ScansFirst}
use Rattle.cpt_tables.proofs.pairs.check_beside.Given as goal

abbrev pub invariant-loop-q : goal.invariant-loop-q
invariant-loop-q l = ScansFirst l.pairs (λ j. IsBesideOne l.pairs l.c j) l.q l.initial.best l.best
