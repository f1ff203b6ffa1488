use Rattle.std.proofs.Common.{refl}
use Rattle.std.specs.Prelude.{IfOk}
use Rattle.cpt_outcome.specs.Nodes.{SearchProblem}
use Rattle.cpt_outcome.specs.Outcomes.{HasOutcome}
use Rattle.cpt_search.specs.Answers.{HasTrees, outcome_of}
use Rattle.cpt_solve.proofs.Outcomes.{moved}
use Rattle.cpt_solve.proofs.searching.outcome_of_task.Goals as goal

pub search-requires-clause-rules : goal.search-requires-clause-rules
search-requires-clause-rules c = refl

pub returns-clause-outcome : goal.returns-clause-outcome
returns-clause-outcome c =
    let P : SearchProblem → Type 0 = λ w. IfOk c.search.result (λ found. HasOutcome w c.args.budget.max c.args.budget.nodes (outcome_of found)) in
    moved P c.in_ok-engine.engine.task c.args.task.now c.in_ok-engine.engine.tables c.args.tables.now c.in_ok-engine.ensures.task c.in_ok-engine.ensures.tables c.search.ensures.outcome

pub returns-clause-trees : goal.returns-clause-trees
returns-clause-trees c =
    let P : SearchProblem → Type 0 = λ w. IfOk c.search.result (HasTrees w c.args.budget.max c.args.budget.nodes) in
    moved P c.in_ok-engine.engine.task c.args.task.now c.in_ok-engine.engine.tables c.args.tables.now c.in_ok-engine.ensures.task c.in_ok-engine.ensures.tables c.search.ensures.trees
