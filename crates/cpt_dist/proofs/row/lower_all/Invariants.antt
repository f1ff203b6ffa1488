use Rattle.cpt_dist.specs.Moving.{LowersFirst}
use Rattle.cpt_dist.proofs.row.lower_all.Given as goal

abbrev pub invariant-loop-p : goal.invariant-loop-p
invariant-loop-p l = LowersFirst l.atoms l.value l.initial.row l.row l.p-index l.moved
