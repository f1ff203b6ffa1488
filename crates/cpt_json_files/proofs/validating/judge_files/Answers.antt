use Rattle.std.proofs.Common.{ℕ, List, IfSome, subst}
use Rattle.cpt_answer.specs.Endings.{reply_answer}
use Rattle.cpt_answer.specs.Giving.{Gives}
use Rattle.cpt_json_files.specs.Validating.{JudgesOver}
use Rattle.cpt_answer.proofs.Giving.{told_before}
use Rattle.cpt_json_files.proofs.Stages.{judged, on_ok_weaker}
use Rattle.cpt_json_files.proofs.validating.judge_files.Goals as goal

pub returns-clause-answer : goal.returns-clause-answer
returns-clause-answer g c =
    judged (g.L.Library.holds c.args.lib.now) (g.L.Library.holds c.text_in.new.lib) (g.L.Library.steady c.args.lib.now) (g.L.Library.steady c.text_in.new.lib) c.args.task_name.now c.args.plan_name.now c.in-Ok.text.items c.judge_over.result
    c.in-Ok.ensures.same c.in-Ok.ensures.steady c.in-Ok.ensures.answer
    (subst (λ (text : List ℕ). IfSome (g.L.Library.holds c.text_in.new.lib) (λ files. Gives (g.L.Library.steady c.text_in.new.lib) reply_answer c.judge_over.result (JudgesOver files c.args.plan_name.now text))) c.deref.ensures.value c.judge_over.ensures.answer)

pub returns-clause-end : goal.returns-clause-end
returns-clause-end g c =
    on_ok_weaker c.judge_over.result _ _ (λ end told. end (told_before (g.L.Library.holds c.args.lib.now) (g.L.Library.holds c.text_in.new.lib) c.in-Ok.ensures.same told) (c.in-Ok.ensures.end told)) c.judge_over.ensures.end
