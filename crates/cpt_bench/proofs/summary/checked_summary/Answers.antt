use Rattle.std.proofs.Common.{true}
use Rattle.cpt_answer.specs.Endings.{reply_answer}
use Rattle.cpt_search.specs.Answers.{outcome_of}
use Rattle.cpt_bench.proofs.Answering.{optimal_accepted, ruling_judged, summary_answers, unjudged_answers}
use Rattle.cpt_bench.proofs.summary.checked_summary.Goals as goal

pub returns-in-Err-clause-answer : goal.returns-in-Err-clause-answer
returns-in-Err-clause-answer c = λ steady. unjudged_answers c.args.n c.args.task.now c.args.tables.now c.args.budget c.requires.tables (outcome_of c.args.found.now) c.requires.plan c.requires.found.outcome steady c.in-Err.ending (c.in-Err.ensures.answer steady)

pub accepted_makespan-requires : goal.accepted_makespan-requires
accepted_makespan-requires c =
    optimal_accepted c.args.budget.max c.args.budget.nodes (outcome_of c.args.found.now) c.in-Ok.judged.ruling c.requires.plan
    (ruling_judged c.args.task.now c.args.tables.now c.args.budget (outcome_of c.args.found.now) c.in-Ok.judged (c.in-Ok.ensures.answer true))

pub returns-in-Ok-summary_reply-clause-answer : goal.returns-in-Ok-summary_reply-clause-answer
returns-in-Ok-summary_reply-clause-answer c = λ steady.
    summary_answers c.args.n c.args.task.now c.args.tables.now c.args.budget c.requires.tables (outcome_of c.args.found.now) c.requires.plan c.requires.found.outcome c.in-Ok.judged c.accepted_makespan.result
    (reply_answer c.in-Ok-summary_reply.reply) (c.in-Ok.ensures.answer steady) c.accepted_makespan.ensures c.in-Ok-summary_reply.ensures.answer
