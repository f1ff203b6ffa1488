use Rattle.std.proofs.Common.{◌≡◌, ◌++◌, map, take}
use Rattle.std.specs.List.{flat_map}
use Rattle.cpt_task_text.specs.Spelling.{ended, atom_line}
use Rattle.cpt_task_text.proofs.printing.push_atoms.Given as goal

abbrev pub invariant-loop-atom : goal.invariant-loop-atom
invariant-loop-atom l = l.text.items ≡ l.fn.text.items ++ flat_map ended (map atom_line (take l.atom-index l.atoms))
