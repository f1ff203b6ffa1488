use Rattle.std.proofs.Common.{get_or}
use Rattle.cpt_tables.specs.Scans.{IsWithOne}
use Rattle.cpt_tables.proofs.PairScans.{ScansFirst}
use Rattle.cpt_tables.proofs.search.check_product.Given as goal

abbrev pub invariant-loop-p : goal.invariant-loop-p
invariant-loop-p l = ScansFirst l.pairs (λ j. IsWithOne (get_or l.ps j 0) l.qs l.most) l.p-index l.initial.best l.best
