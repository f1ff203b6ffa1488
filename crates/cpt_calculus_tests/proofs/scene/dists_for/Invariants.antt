use Rattle.cpt_tables.specs.Shapes.{FitsDists}
use Rattle.cpt_calculus_tests.proofs.scene.dists_for.Given as goal

abbrev pub invariant-loop-place : goal.invariant-loop-place
invariant-loop-place l = FitsDists l.task l.dists
