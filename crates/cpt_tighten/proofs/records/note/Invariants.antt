use Rattle.std.proofs.Common.{take}
use Rattle.cpt_tighten.specs.Best.{IsNoted}
use Rattle.cpt_tighten.proofs.records.note.Given as goal

abbrev pub invariant-loop-p : goal.invariant-loop-p
invariant-loop-p l = IsNoted l.initial.table (take l.p-index l.atoms) l.f l.table
