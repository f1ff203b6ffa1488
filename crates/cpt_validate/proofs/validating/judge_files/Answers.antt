use Rattle.cpt_plan_text.proofs.Finding.{knows_actions}
use Rattle.cpt_validate.proofs.JudgingFiles.{judged}
use Rattle.cpt_answer.proofs.Giving.{on_ok, told_before}
use Rattle.cpt_validate.proofs.validating.judge_files.Goals as goal

pub plan_in-requires-clause-known : goal.plan_in-requires-clause-known
plan_in-requires-clause-known g c = knows_actions c.in-Ok.task

pub returns-clause-answer : goal.returns-clause-answer
returns-clause-answer g c =
    judged (g.L.Library.holds c.args.lib.now) (g.L.Library.holds c.task_in.new.lib) (g.L.Library.steady c.args.lib.now) c.args.task_name.now c.args.plan_name.now c.in-Ok.task c.in-Ok-plan_in.plan c.judge_plan.result c.in-Ok.ensures.same c.in-Ok.ensures.answer c.in-Ok-plan_in.ensures.answer
    (c.judge_plan.ensures.answer (g.L.Library.steady c.args.lib.now))

pub returns-clause-end : goal.returns-clause-end
returns-clause-end g c =
    on_ok _ c.judge_plan.result (λ told. c.in-Ok-plan_in.ensures.end (told_before (g.L.Library.holds c.args.lib.now) (g.L.Library.holds c.task_in.new.lib) c.in-Ok.ensures.same told))
