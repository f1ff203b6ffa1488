use Rattle.std.proofs.Common.{Ok, ap}
use Rattle.cpt_search.specs.Answers.{outcome_of}
use Rattle.cpt_solve.proofs.Outcomes.{has_plan}
use Rattle.cpt_solve.proofs.solving.reply_of.Goals as goal

pub outcome_reply-requires : goal.outcome_reply-requires
outcome_reply-requires c = has_plan c.args.task.now c.args.tables.now c.args.budget.max c.args.budget.nodes (outcome_of c.args.found.now) c.actions-actions.ensures.bounds c.requires.outcome

pub returns-in-Ok-clause-answer : goal.returns-in-Ok-clause-answer
returns-in-Ok-clause-answer c = λ steady. (outcome_of c.args.found.now, record { tables = c.args.tables.now; best = c.requires.tables; has = c.requires.outcome }, ap Ok c.in-Ok.ensures.answer)
