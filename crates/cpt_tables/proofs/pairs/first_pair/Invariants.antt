use Rattle.cpt_tables.specs.Scans.{IsOfAction}
use Rattle.cpt_tables.proofs.PairScans.{ScansFirst}
use Rattle.cpt_tables.proofs.pairs.first_pair.Given as goal

abbrev pub invariant-loop-act : goal.invariant-loop-act
invariant-loop-act l = ScansFirst l.pairs (λ i. IsOfAction l.task l.pairs i) l.act l.initial.best l.best
