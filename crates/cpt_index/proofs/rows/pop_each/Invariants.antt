use Rattle.std.proofs.Common.{take}
use Rattle.cpt_index.specs.Rows.{contents, IsEditedAt, without_last}
use Rattle.cpt_index.proofs.rows.pop_each.Given as goal

abbrev pub invariant-loop-p : goal.invariant-loop-p
invariant-loop-p g l = IsEditedAt without_last (take l.p-index l.at) (contents l.initial.rows) (contents l.rows)
