use Rattle.std.proofs.Common.{ℕ, List, Bor, map, take}
use Rattle.cpt_thin.specs.Fronts.{MayBeFrontOf, read_of}
use Rattle.cpt_trim.proofs.Needs.{AreTried}
use Rattle.cpt_trim.proofs.trying.try_all.Given as goal

abbrev pub invariant-loop-place : goal.invariant-loop-place
invariant-loop-place l = record {
  tried : AreTried l.fn.task l.fn.fates l.fates (map (λ (b : Bor (List ℕ)). b.now) l.bodies) l.tail l.place l.dropped;
  front : MayBeFrontOf l.fn.task (read_of (take l.place l.fates) (take l.place l.lines)) l.front;
}
