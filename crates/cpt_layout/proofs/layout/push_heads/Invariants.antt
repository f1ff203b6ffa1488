use Rattle.std.proofs.Common.{◌≡◌, ◌+◌, ◌++◌, vec_capacity}
use Rattle.cpt_layout.specs.Places.{table}
use Rattle.cpt_layout.specs.Numbers.{own_cells}
use Rattle.cpt_layout.proofs.layout.push_heads.Given as goal

abbrev pub invariant-loop-p : goal.invariant-loop-p
invariant-loop-p l =
    (l.heads.items ≡ l.fn.heads.items ++ table (λ j. l.first + own_cells l.adders l.token l.needs j) 0 l.p-index)
    × (vec_capacity l.heads ≡ vec_capacity l.fn.heads)
    × (l.next ≡ l.first + own_cells l.adders l.token l.needs l.p-index)
