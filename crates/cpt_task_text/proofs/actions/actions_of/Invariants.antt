use Rattle.std.proofs.Common.{◌≡◌, ◌+◌, ◌*◌, ◌-◌, [], vec_len}
use Rattle.cpt_line.specs.Lines.{split}
use Rattle.cpt_task_text.specs.Plain.{names_of}
use Rattle.cpt_task_text.specs.Reading.{actions_at}
use Rattle.cpt_task_text.proofs.Sets.{Knows}
use Rattle.cpt_task_text.proofs.actions.actions_of.Given as goal

abbrev pub invariant-loop : goal.invariant-loop
invariant-loop l = record {
  read : actions_at (l.more - l.counter) l.line l.count l.actions.items (split l.rest) ≡ actions_at l.more l.number l.count [] (split l.text);
  seen : Knows l.seen (names_of l.actions.items);
  line : l.line ≡ l.number + 4 * l.counter;
  many : vec_len l.actions ≡ l.counter;
}
