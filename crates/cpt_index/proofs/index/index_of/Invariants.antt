use Rattle.std.proofs.Common.{take}
use Rattle.cpt_index.specs.Index.{IsIndexOf}
use Rattle.cpt_index.proofs.index.index_of.Given as goal

abbrev pub invariant-loop-x : goal.invariant-loop-x
invariant-loop-x l = IsIndexOf l.task (take l.x l.kinds) l.index
