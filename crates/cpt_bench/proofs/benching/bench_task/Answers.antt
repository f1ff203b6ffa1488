use Rattle.cpt_search.specs.Answers.{outcome_of}
use Rattle.cpt_bench.proofs.Answering.{task_answers}
use Rattle.cpt_bench.proofs.benching.bench_task.Goals as goal

pub returns-clause-answer : goal.returns-clause-answer
returns-clause-answer c = λ steady. task_answers c.args.n c.args.task.now c.in-Ok.tables c.default_budget-budget.result (outcome_of c.in-Ok-outcome_of_task.found) c.default_budget-budget.ensures.value c.in-Ok.ensures c.in-Ok-outcome_of_task.ensures.outcome steady c.reply_of.result (c.reply_of.ensures.answer steady)
