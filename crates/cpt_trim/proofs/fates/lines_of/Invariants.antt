use Rattle.std.proofs.Common.{◌≡◌, ◌++◌, ℕ, List, Bor, length, map}
use Rattle.cpt_line.specs.Lines.{split}
use Rattle.cpt_trim.proofs.fates.lines_of.Given as goal

abbrev pub invariant-loop-body : goal.invariant-loop-body
invariant-loop-body l = (map (λ (b : Bor (List ℕ)). b.now) l.bodies.items ++ (split l.rest).0, (split l.rest).1) ≡ split l.text

abbrev pub decreases-loop-body : goal.decreases-loop-body
decreases-loop-body l = length l.rest
