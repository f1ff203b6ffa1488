use Rattle.std.proofs.Common.{◌≡◌, ◌++◌, take}
use Rattle.cpt_task.specs.Register.{marks_at}
use Rattle.cpt_task.proofs.register.note.Given as goal

abbrev pub invariant-loop-atom : goal.invariant-loop-atom
invariant-loop-atom l = l.marks.items ≡ l.initial.marks.items ++ marks_at l.time (take l.atom-index l.atoms)
