use Rattle.cpt_validate.proofs.JudgingFiles.{knows_names}
use Rattle.cpt_plan_files.specs.Explaining.{AnswersFaults}
use Rattle.cpt_plan_files.proofs.Reaching.{reached}
use Rattle.cpt_answer.proofs.Giving.{on_ok, told_before}
use Rattle.cpt_plan_files.proofs.explaining.explain_in.Goals as goal

pub plan_in-requires-clause-known : goal.plan_in-requires-clause-known
plan_in-requires-clause-known g c = knows_names c.new-names.result c.in-Ok.accepted.domain c.in-Ok.accepted.problem c.in-Ok.accepted.kept c.new-names.ensures

pub returns-clause-answer : goal.returns-clause-answer
returns-clause-answer g c =
    reached AnswersFaults (g.L.Library.holds c.args.lib.now) (g.L.Library.holds c.accepted_in.new.lib) (g.L.Library.steady c.args.lib.now) c.args.domain_name.now c.args.problem_name.now c.args.plan_name.now c.in-Ok.accepted
    c.new-names.result c.in-Ok-plan_in.plan c.explain_read.result c.in-Ok.ensures.same c.in-Ok.ensures.answer c.new-names.ensures c.in-Ok-plan_in.ensures.answer (c.explain_read.ensures.answer (g.L.Library.steady c.args.lib.now))

pub returns-clause-end : goal.returns-clause-end
returns-clause-end g c =
    on_ok _ c.explain_read.result (λ told. c.in-Ok-plan_in.ensures.end (told_before (g.L.Library.holds c.args.lib.now) (g.L.Library.holds c.accepted_in.new.lib) c.in-Ok.ensures.same told))
