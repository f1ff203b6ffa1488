use Rattle.std.proofs.Common.{◌≡◌, drop}
use Rattle.cpt_plan_text.specs.Knowing.{action_named}
use Rattle.cpt_plan_text.proofs.roster.find_action.Given as goal

abbrev pub invariant-loop-k : goal.invariant-loop-k
invariant-loop-k l = action_named (drop l.k l.actions) l.k l.name ≡ action_named l.actions 0 l.name
