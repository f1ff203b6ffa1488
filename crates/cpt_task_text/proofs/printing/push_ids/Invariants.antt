use Rattle.std.proofs.Common.{◌≡◌, ◌++◌, take}
use Rattle.cpt_task_text.specs.Spelling.{spaced}
use Rattle.cpt_task_text.proofs.printing.push_ids.Given as goal

abbrev pub invariant-loop-id : goal.invariant-loop-id
invariant-loop-id l = l.text.items ≡ l.fn.text.items ++ spaced (take l.id-index l.ids)
