use Rattle.std.proofs.Common.{List, subst}
use Rattle.cpt_task.specs.declared.plan.Occ.{Occ}
use Rattle.cpt_answer.specs.Endings.{reply_answer}
use Rattle.cpt_answer.specs.Giving.{Gives}
use Rattle.cpt_json_form.specs.Reading.{ReadsPlan}
use Rattle.cpt_json_files.specs.Faults.{plan_fault}
use Rattle.cpt_json_files.specs.Validating.{AnswersReport}
use Rattle.cpt_json_files.proofs.Stages.{plan_faulty, read_on}
use Rattle.cpt_json_files.proofs.validating.judge_text.Goals as goal

pub returns-in-Err-clause-answer : goal.returns-in-Err-clause-answer
returns-in-Err-clause-answer c = λ steady. plan_faulty steady c.args.task.now c.args.text.now c.in-Err.fault c.plan_reply.result (AnswersReport c.args.task.now) c.plan_reply.ensures.kept c.in-Err.ensures.exact (c.plan_reply.ensures.answer steady)

pub returns-clause-answer : goal.returns-clause-answer
returns-clause-answer c =
    λ steady.
    read_on steady plan_fault (ReadsPlan c.args.task.now c.args.text.now) c.in-Ok.plan c.judge_plan.result (AnswersReport c.args.task.now) c.in-Ok.ensures.exact
    (subst (λ (plan : List Occ). Gives steady reply_answer c.judge_plan.result (AnswersReport c.args.task.now plan)) c.as_slice.ensures (c.judge_plan.ensures.answer steady))
