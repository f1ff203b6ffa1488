use Rattle.std.proofs.Common.{◌≡◌, ℕ, ◌≤◌, ◌<◌, inr, List, [], ◌∷◌, length, Ok, refl, ap, arith}
use Rattle.cpt_task.specs.declared.plan.Verdict.{Verdict}
use Rattle.cpt_task.specs.declared.plan.Verdict.TheVariants.{Valid}
use Rattle.cpt_task.specs.Shape.{TaskShape}
use Rattle.cpt_task.specs.Timeline.{makespan, IsValid}
use Rattle.cpt_task.specs.Judging.{Judges}
use Rattle.cpt_task.proofs.Exact.{refuted}
use Rattle.cpt_plan_text.specs.declared.reading.PlanText.{PlanText}
use Rattle.cpt_answer.specs.declared.ending.Reply.{Reply}
use Rattle.cpt_answer.specs.Endings.{reply_answer}
use Rattle.cpt_explain.proofs.Validity.{none_where_valid}
use Rattle.cpt_plan_files.specs.Explaining.{faults_answer, AnswersFaults}

-- what is answered at a valid plan is that it has no fault
pub at_valid : (t : TaskShape) (plan : PlanText) (reply : Reply) → length plan.occs ≤ 1024 → IsValid t plan.occs → reply_answer reply ≡ faults_answer t plan [] → AnswersFaults t plan (Ok (reply_answer reply))
at_valid t plan reply few valid e = inr (few, ([], none_where_valid t plan.occs valid, ap Ok e))

some_listed : (faults : List Verdict) → (faults ≡ [] → ⊥) → 0 < length faults
some_listed [] not = absurd (not refl)
some_listed (v ∷ vs) not = omega arith

-- a plan of which something else is said than that it is valid has faults
pub has_faults : (t : TaskShape) (plan : PlanText) (v : Verdict) (faults : List Verdict) → Judges t plan.occs v → ((m : ℕ) → v ≡ Valid m → ⊥) → (faults ≡ [] → IsValid t plan.occs) → 0 < length faults
has_faults t plan v faults j not valid = some_listed faults (λ none. not (makespan t plan.occs) (refuted t plan.occs v j (valid none)))
