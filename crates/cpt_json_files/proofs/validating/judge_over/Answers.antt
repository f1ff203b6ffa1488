use Rattle.std.proofs.Common.{ℕ, List, refl, subst}
use Rattle.cpt_answer.specs.Giving.{Then}
use Rattle.cpt_answer.proofs.Giving.{on_ok}
use Rattle.cpt_files.specs.Files.{text_under}
use Rattle.cpt_json_files.specs.Validating.{JudgesOver, JudgesText}
use Rattle.cpt_json_files.proofs.Stages.{plan_over, task_faulty, told_all}
use Rattle.cpt_answer.specs.Endings.{reply_answer}
use Rattle.cpt_answer.specs.Giving.{Gives}
use Rattle.cpt_json_files.proofs.validating.judge_over.Goals as goal

pub returns-in-Err-clause-answer : goal.returns-in-Err-clause-answer
returns-in-Err-clause-answer g c =
    let steady = g.L.Library.steady c.args.lib.now in
    told_all (g.L.Library.holds c.args.lib.now) (λ files. Gives steady reply_answer c.task_reply.result (JudgesOver files c.args.plan_name.now c.args.text.now))
    (λ files. task_faulty steady c.args.text.now c.in-Err.fault c.task_reply.result (λ task. Then (text_under files c.args.plan_name.now) (JudgesText task)) c.task_reply.ensures.kept c.in-Err.ensures.exact (c.task_reply.ensures.answer steady))

pub returns-clause-answer : goal.returns-clause-answer
returns-clause-answer g c =
    let o = g.L.Library.holds c.args.lib.now in
    let steady = g.L.Library.steady c.args.lib.now in
    plan_over o o steady c.args.plan_name.now c.args.text.now c.in-Ok-text_in.plan.items c.in-Ok.task c.judge_text.result refl c.in-Ok.ensures.exact c.in-Ok-text_in.ensures.answer
    (subst (λ (text : List ℕ). Gives steady reply_answer c.judge_text.result (JudgesText c.in-Ok.task text)) c.deref.ensures.value (c.judge_text.ensures.answer steady))

pub returns-in-Err-clause-end : goal.returns-in-Err-clause-end
returns-in-Err-clause-end g c = on_ok _ c.task_reply.result (λ told end. end)

pub returns-clause-end : goal.returns-clause-end
returns-clause-end g c = on_ok _ c.judge_text.result (λ told end. c.in-Ok-text_in.ensures.end told)
