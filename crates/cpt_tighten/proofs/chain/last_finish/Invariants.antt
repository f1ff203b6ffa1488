use Rattle.std.proofs.Common.{◌<◌}
use Rattle.cpt_tighten.specs.Best.{IsBest}
use Rattle.cpt_tighten.proofs.chain.last_finish.Given as goal

abbrev pub invariant-loop-place : goal.invariant-loop-place
invariant-loop-place l = IsBest l.task l.tight (λ k. k < l.place) l.best
