use Rattle.std.proofs.Common.{◌≡◌, drop}
use Rattle.cpt_tighten.specs.Best.{best_over, entry}
use Rattle.cpt_tighten.proofs.records.best_over.Given as goal

abbrev pub invariant-loop-p : goal.invariant-loop-p
invariant-loop-p l = best_over (entry l.table) (drop l.p-index l.atoms) l.best ≡ best_over (entry l.table) l.atoms l.fn.former
