use Rattle.std.proofs.Common.{◌≡◌, drop}
use Rattle.cpt_tighten.specs.Best.{best_over, entry, moved}
use Rattle.cpt_tighten.proofs.records.best_moved.Given as goal

abbrev pub invariant-loop-p : goal.invariant-loop-p
invariant-loop-p l =
    best_over (λ p. moved l.task l.tight (entry l.table p)) (drop l.p-index l.atoms) l.best ≡ best_over (λ p. moved l.task l.tight (entry l.table p)) l.atoms l.fn.former
