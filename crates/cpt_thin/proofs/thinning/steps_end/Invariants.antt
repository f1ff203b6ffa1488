use Rattle.cpt_thin.proofs.thinning.steps_end.Given as goal

abbrev pub invariant-loop-at : goal.invariant-loop-at
invariant-loop-at l = Unit {0}
