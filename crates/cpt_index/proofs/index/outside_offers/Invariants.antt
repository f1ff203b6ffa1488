use Rattle.std.proofs.Common.{take}
use Rattle.cpt_index.specs.Index.{IsOutside}
use Rattle.cpt_index.specs.Rows.{contents}
use Rattle.cpt_index.proofs.index.outside_offers.Given as goal

abbrev pub invariant-loop-a : goal.invariant-loop-a
invariant-loop-a l = IsOutside l.task (take l.a l.task.actions) (contents l.rows)
