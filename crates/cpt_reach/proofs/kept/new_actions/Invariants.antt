use Rattle.std.proofs.Common.{◌≡◌, map, take}
use Rattle.cpt_reach.specs.Reached.{action_at}
use Rattle.cpt_reach.specs.Kept.{renumbered_action}
use Rattle.cpt_reach.proofs.kept.new_actions.Given as goal

abbrev pub invariant-loop-a : goal.invariant-loop-a
invariant-loop-a l = l.new.items ≡ map (λ a. renumbered_action l.atoms (action_at l.task a)) (take l.a-index l.actions)
