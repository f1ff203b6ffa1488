use Rattle.std.proofs.Common.{◌≡◌, ℕ, true, List, Vec, Global, subst}
use Rattle.std.proofs.lemmas.Result.{IfOk-weaker}
use Rattle.cpt_reach.specs.Kept.{IsListOf}
use Rattle.cpt_reach.specs.Reached.{IsKeptAtom}
use Rattle.cpt_reach.specs.Marking.{is_marked, MarksToo}
use Rattle.cpt_reach.proofs.KeptLemmas.{list_of_atoms}
use Rattle.cpt_reach.proofs.pruning.kept_atoms.Goals as goal

pub returns : goal.returns
returns c =
    let too : MarksToo c.args.task.now.goal c.args.marks.now c.mark_too.new.marks = subst (λ (xs : List ℕ). MarksToo xs c.args.marks.now c.mark_too.new.marks) c.goal.ensures.value c.mark_too.ensures in
    IfOk-weaker c.marked_numbers.result (λ (xs : Vec ℕ Global). IsListOf (λ p. is_marked c.mark_too.new.marks p ≡ true) xs.items) (λ (xs : Vec ℕ Global). IsListOf (IsKeptAtom c.args.task.now) xs.items)
    (λ xs list. list_of_atoms c.args.task.now c.args.marks.now c.mark_too.new.marks xs.items c.requires.reached too list) c.marked_numbers.ensures
