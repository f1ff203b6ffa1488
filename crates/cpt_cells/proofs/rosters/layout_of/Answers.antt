use Rattle.std.proofs.Common.{ℕ, List, [], get_or, sym, subst}
use Rattle.cpt_layout.specs.Places.{NoTwice}
use Rattle.cpt_cells.proofs.TaskLists.{lists_once}
use Rattle.cpt_cells.proofs.rosters.layout_of.Goals as goal

pub new-requires : goal.new-requires
new-requires c p = subst (λ (ls : List (List ℕ)). NoTwice (get_or ls p [])) (sym c.in_ok-adders.ensures) (lists_once c.args.task.now p c.atoms.ensures.bounds)
