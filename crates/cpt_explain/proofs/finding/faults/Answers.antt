use Rattle.std.proofs.Common.{subst, sym}
use Rattle.std.proofs.lemmas.List.Elements.{All-weaker}
use Rattle.cpt_task.specs.Judgeable.{IsJudgeableAt}
use Rattle.cpt_task.specs.Timeline.{IsOccurrence}
use Rattle.cpt_explain.specs.Faults.{AreFaults}
use Rattle.cpt_explain.proofs.Validity.{no_faults_where_valid}
use Rattle.cpt_explain.proofs.finding.faults.Goals as goal

pub returns-clause-none : goal.returns-clause-none
returns-clause-none c =
    no_faults_where_valid c.args.task.now c.args.plan.now c.from_vec.result (All-weaker (IsJudgeableAt c.args.task.now) (IsOccurrence c.args.task.now) (λ o at. at.0) c.args.plan.now c.requires.plan)
    (subst (AreFaults c.args.task.now c.args.plan.now) (sym c.from_vec.ensures) c.in_ok-missing.ensures)
