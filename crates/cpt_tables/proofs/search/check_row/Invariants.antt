use Rattle.std.proofs.Common.{get_or}
use Rattle.cpt_tables.specs.Scans.{IsOne}
use Rattle.cpt_tables.proofs.PairScans.{ScansFirst}
use Rattle.cpt_tables.proofs.search.check_row.Given as goal

abbrev pub invariant-loop-q : goal.invariant-loop-q
invariant-loop-q l = ScansFirst l.pairs (λ j. IsOne l.p (get_or l.qs j 0) l.most) l.q-index l.initial.best l.best
