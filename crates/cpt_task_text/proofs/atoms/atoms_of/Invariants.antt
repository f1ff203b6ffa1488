use Rattle.std.proofs.Common.{◌≡◌, ◌+◌, ◌-◌, [], vec_len}
use Rattle.cpt_line.specs.Lines.{split}
use Rattle.cpt_task_text.specs.Reading.{atoms_at}
use Rattle.cpt_task_text.proofs.Sets.{Knows}
use Rattle.cpt_task_text.proofs.atoms.atoms_of.Given as goal

abbrev pub invariant-loop : goal.invariant-loop
invariant-loop l = record {
  read : atoms_at (l.count - l.counter) l.line l.atoms.items (split l.rest) ≡ atoms_at l.count l.number [] (split l.text);
  seen : Knows l.seen l.atoms.items;
  line : l.line ≡ l.number + l.counter;
  many : vec_len l.atoms ≡ l.counter;
}
