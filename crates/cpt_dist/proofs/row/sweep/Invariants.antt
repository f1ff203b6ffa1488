use Rattle.cpt_dist.specs.Rows.{SweepsFirst}
use Rattle.cpt_dist.proofs.row.sweep.Given as goal

abbrev pub invariant-loop-c : goal.invariant-loop-c
invariant-loop-c l = SweepsFirst l.actions l.initial.row l.row l.c-index l.moved
