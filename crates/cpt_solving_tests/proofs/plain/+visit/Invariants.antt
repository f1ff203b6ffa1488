use Rattle.cpt_solving_tests.proofs.plain.+visit.Given as goal

abbrev pub decreases-visit : goal.decreases-visit
decreases-visit l = l.depth
