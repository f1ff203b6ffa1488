use Rattle.std.proofs.Common.{◌≡◌, ℕ, ◌<◌, List, length, get_or, sym, ◌∙◌, subst}
use Rattle.std.proofs.lemmas.List.{get_or_default}
use Rattle.cpt_task.specs.declared.task.Action.{Action}
use Rattle.cpt_task.specs.Shape.{TaskShape, InBounds}
use Rattle.cpt_task.specs.Timeline.{idle}
use Rattle.cpt_reach.specs.Reached.{action_at}
use Rattle.cpt_reach.specs.Marking.{AllBelow}

-- the action read at a place is the one of that number
pub action_is : (t : TaskShape) (xs : List Action) (a : ℕ) (read : Action) → a < length t.actions → xs ≡ t.actions → read ≡ get_or xs a read → read ≡ action_at t a
action_is t xs a read lt same e = let f : read ≡ get_or t.actions a read = subst (λ ys. read ≡ get_or ys a read) same e in f ∙ get_or_default t.actions a read idle lt

pub pre_below : (t : TaskShape) (n a : ℕ) → InBounds t → a < length t.actions → n ≡ length t.atoms → AllBelow n (action_at t a).pre
pre_below t n a fine lt e = subst (λ m. AllBelow m (action_at t a).pre) (sym e) (fine.actions a idle lt).pre

pub add_below : (t : TaskShape) (n a : ℕ) → InBounds t → a < length t.actions → n ≡ length t.atoms → AllBelow n (action_at t a).add
add_below t n a fine lt e = subst (λ m. AllBelow m (action_at t a).add) (sym e) (fine.actions a idle lt).add
