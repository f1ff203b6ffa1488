use Rattle.std.proofs.Common.{◌≡◌, ℕ, Bool, List, Option, Result, Ok, IfSome, subst}
use Rattle.cpt_io.specs.Meaning.{Files}
use Rattle.cpt_task.specs.Shape.{TaskShape}
use Rattle.cpt_plan_text.specs.declared.reading.PlanText.{PlanText}
use Rattle.cpt_answer.specs.declared.ending.Ending.{Ending}
use Rattle.cpt_answer.specs.declared.ending.Reply.{Reply}
use Rattle.cpt_answer.specs.Endings.{Answer, reply_answer}
use Rattle.cpt_answer.specs.Giving.{Gives, Then}
use Rattle.cpt_answer.proofs.Giving.{if_both, then_by_ok, then_ok}
use Rattle.cpt_files.specs.declared.accepted.Accepted.{Accepted}
use Rattle.cpt_files.specs.Accepted.{AcceptsTask}
use Rattle.cpt_files.specs.Files.{plan_by}
use Rattle.cpt_files.specs.Names.{NamesShape, kept_finds}
use Rattle.cpt_files.proofs.Naming.{names_shape}
use Rattle.cpt_validate.specs.Verdicts.{accepted_plan}
use Rattle.cpt_plan_files.proofs.Holding.{PlanBy}

-- what is given of the plan that was read over the accepted task is that of the files
pub reached : (Q : TaskShape → PlanText → Result Answer Ending → Type 0) (o q : Option Files) (steady : Bool) (dn pn name : List ℕ) (a : Accepted) (n : NamesShape) (plan : PlanText) (r : Result Reply Ending) → q ≡ o
    → IfSome o (λ files. AcceptsTask files dn pn (Ok a)) → n ≡ names_shape a.domain a.problem a.kept → IfSome q (λ files. plan_by files (kept_finds n.domain n.problem n.kept) a.kept.task name ≡ Ok plan) → Gives steady reply_answer r (Q a.kept.task plan)
    → IfSome o (λ files. Gives steady reply_answer r (PlanBy Q files dn pn name))
reached Q o q steady dn pn name a n plan r same h e k g =
    if_both o q (λ files. AcceptsTask files dn pn (Ok a)) (λ files. plan_by files (kept_finds n.domain n.problem n.kept) a.kept.task name ≡ Ok plan) (λ files. Gives steady reply_answer r (PlanBy Q files dn pn name)) same
    (λ files x y.
    let read : accepted_plan files a name ≡ Ok plan = subst (λ (m : NamesShape). plan_by files (kept_finds m.domain m.problem m.kept) a.kept.task name ≡ Ok plan) e y in
    then_by_ok steady reply_answer (AcceptsTask files dn pn) a r (λ b. Then (accepted_plan files b name) (Q b.kept.task)) x
    (then_ok steady reply_answer (accepted_plan files a name) plan r (Q a.kept.task) read g)) h k
