use Rattle.std.proofs.Common.{ℕ, Vec, Global}
use Rattle.std.proofs.lemmas.Result.{IfOk-weaker}
use Rattle.cpt_reach.specs.Kept.{IsListOf}
use Rattle.cpt_reach.specs.Reached.{IsKeptAction}
use Rattle.cpt_reach.specs.Marking.{IsReady}
use Rattle.cpt_reach.proofs.KeptLemmas.{list_of_actions}
use Rattle.cpt_reach.proofs.pruning.kept_actions.Goals as goal

pub returns : goal.returns
returns c =
    IfOk-weaker c.ready_actions.result (λ (xs : Vec ℕ Global). IsListOf (IsReady c.args.task.now c.args.marks.now) xs.items) (λ (xs : Vec ℕ Global). IsListOf (IsKeptAction c.args.task.now) xs.items)
    (λ xs list. list_of_actions c.args.task.now c.args.marks.now xs.items c.requires.reached list) c.ready_actions.ensures
