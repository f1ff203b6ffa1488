use Rattle.std.proofs.Common.{◌≡◌, ℕ, Bool, List, length, Option, None, Some, Result, Ok, IfSome, sym, subst}
use Rattle.cpt_io.specs.Meaning.{Files}
use Rattle.cpt_task.specs.Shape.{TaskShape}
use Rattle.cpt_plan_text.specs.declared.reading.PlanText.{PlanText}
use Rattle.cpt_answer.specs.declared.ending.Ending.{Ending}
use Rattle.cpt_answer.specs.declared.ending.Reply.{Reply}
use Rattle.cpt_plan_text.specs.Knowing.{KnowsActions}
use Rattle.cpt_files.specs.declared.accepted.Accepted.{Accepted}
use Rattle.cpt_files.specs.Accepted.{AcceptsTask}
use Rattle.cpt_answer.specs.Giving.{Gives, Then}
use Rattle.cpt_files.specs.Files.{plan_by, plan_under, task_under}
use Rattle.cpt_files.specs.Names.{NamesShape, kept_finds}
use Rattle.cpt_answer.proofs.Giving.{if_both, then_by_ok, then_ok}
use Rattle.cpt_files.proofs.Naming.{knows_kept, names_shape}
use Rattle.cpt_domain.specs.declared.domain.Domain.{Domain}
use Rattle.cpt_facts.specs.declared.problem.Problem.{Problem}
use Rattle.cpt_reach.specs.declared.pruning.Pruned.{Pruned}
use Rattle.cpt_answer.specs.Endings.{reply_answer}
use Rattle.cpt_validate.specs.Verdicts.{AnswersVerdict, JudgesFiles, JudgesPlan, accepted_plan}

-- the verdict on the plan that was read over the task that was read is that of the files
pub judged : (o p : Option Files) (steady : Bool) (task_name plan_name : List ℕ) (task : TaskShape) (plan : PlanText) (r : Result Reply Ending)
    → p ≡ o → IfSome o (λ files. task_under files task_name ≡ Ok task) → IfSome p (λ files. plan_under files task plan_name ≡ Ok plan)
    → Gives steady reply_answer r (AnswersVerdict task plan) → IfSome o (λ files. Gives steady reply_answer r (JudgesFiles files task_name plan_name))
judged None p steady task_name plan_name task plan r same t q g = tt
judged (Some files) p steady task_name plan_name task plan r same t q g =
    let read : plan_under files task plan_name ≡ Ok plan = subst (λ o. IfSome o (λ files. plan_under files task plan_name ≡ Ok plan)) same q in
    subst (λ (x : Result TaskShape Ending). Gives steady reply_answer r (Then x (λ task. Then (plan_under files task plan_name) (AnswersVerdict task)))) (sym t)
    (subst (λ (x : Result PlanText Ending). Gives steady reply_answer r (Then x (AnswersVerdict task))) (sym read) g)

-- the known actions of such names are those of the kept task
pub knows_names : (n : NamesShape) (d : Domain) (p : Problem) (kept : Pruned) → n ≡ names_shape d p kept → KnowsActions (kept_finds n.domain n.problem n.kept) (length kept.task.actions)
knows_names n d p kept e = subst (λ (m : NamesShape). KnowsActions (kept_finds m.domain m.problem m.kept) (length kept.task.actions)) (sym e) (knows_kept d p kept)

-- the verdict on the plan that was read over the accepted task is that of the files
pub judged_plan : (o q : Option Files) (steady : Bool) (dn pn name : List ℕ) (a : Accepted) (n : NamesShape) (plan : PlanText) (r : Result Reply Ending) → q ≡ o → IfSome o (λ files. AcceptsTask files dn pn (Ok a))
    → n ≡ names_shape a.domain a.problem a.kept → IfSome q (λ files. plan_by files (kept_finds n.domain n.problem n.kept) a.kept.task name ≡ Ok plan) → Gives steady reply_answer r (AnswersVerdict a.kept.task plan)
    → IfSome o (λ files. Gives steady reply_answer r (JudgesPlan files dn pn name))
judged_plan o q steady dn pn name a n plan r same h e k g =
    if_both o q (λ files. AcceptsTask files dn pn (Ok a)) (λ files. plan_by files (kept_finds n.domain n.problem n.kept) a.kept.task name ≡ Ok plan) (λ files. Gives steady reply_answer r (JudgesPlan files dn pn name)) same
    (λ files x y.
    let read : accepted_plan files a name ≡ Ok plan = subst (λ (m : NamesShape). plan_by files (kept_finds m.domain m.problem m.kept) a.kept.task name ≡ Ok plan) e y in
    then_by_ok steady reply_answer (AcceptsTask files dn pn) a r (λ b. Then (accepted_plan files b name) (AnswersVerdict b.kept.task)) x
    (then_ok steady reply_answer (accepted_plan files a name) plan r (AnswersVerdict a.kept.task) read g)) h k
