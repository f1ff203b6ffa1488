use Rattle.std.proofs.Common.{All, take}
use Rattle.cpt_tables.specs.Spans.{◌≤ˢ◌}
use Rattle.cpt_tables.specs.Weights.{value_at}
use Rattle.cpt_h2.proofs.rows.is_below.Given as goal

abbrev pub invariant-loop-p : goal.invariant-loop-p
invariant-loop-p l = All (λ p. value_at l.row p ≤ˢ l.value) (take l.p-index l.atoms)
