use Rattle.std.proofs.Common.{◌≡◌, ◌++◌, take}
use Rattle.std.specs.List.{flat_map}
use Rattle.cpt_task_text.specs.Spelling.{ended, action_lines}
use Rattle.cpt_task_text.proofs.printing.push_actions.Given as goal

abbrev pub invariant-loop-action : goal.invariant-loop-action
invariant-loop-action l = l.text.items ≡ l.fn.text.items ++ flat_map ended (flat_map action_lines (take l.action-index l.actions))
