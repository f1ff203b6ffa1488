use Rattle.cpt_tables.proofs.PairScans.{ScansFirst, IsPartner}
use Rattle.cpt_tables.proofs.pairs.check_partners.Given as goal

abbrev pub invariant-loop-j : goal.invariant-loop-j
invariant-loop-j l = ScansFirst l.pairs (IsPartner l.task l.pairs l.act) l.j l.initial.best l.best
