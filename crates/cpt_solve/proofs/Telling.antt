use Rattle.std.proofs.Common.{◌≡◌, ℕ, zero, suc, ◌≤◌, ◌<◌, max, List, [], ◌∷◌, length, slice_index_or, sym, ◌∙◌, subst, arith}
use Rattle.cpt_task.specs.Optimal.{HasNoPlan, IsOptimal, IsRefuted}
use Rattle.cpt_task.specs.Shape.{TaskShape}
use Rattle.cpt_task.specs.Timeline.{end_of, makespan}
use Rattle.cpt_task.specs.declared.plan.Occ.{Occ}
use Rattle.cpt_domain.specs.declared.domain.Domain.{Domain}
use Rattle.cpt_facts.specs.declared.problem.Problem.{Problem}
use Rattle.cpt_reach.specs.declared.pruning.Pruned.{Pruned}
use Rattle.cpt_reach.specs.Plans.{KeepsPlans, older_plan}
use Rattle.cpt_plan_text.proofs.PlanBack.{printed_back}
use Rattle.cpt_kept.specs.Kept.{StandsFor}
use Rattle.cpt_kept.proofs.Standing.{older_makespan}
use Rattle.cpt_solve.specs.Commands.{HaveNone, HaveNoneUpTo, TellBestPlan}

-- no occurrence starts after the makespan
start_low : (t : TaskShape) (plan : List Occ) (b k : ℕ) (d : Occ) → makespan t plan ≤ b → k < length plan → (slice_index_or plan k d).start ≤ b
start_low t [] b k d low lt = absurd (omega (arith, lt))
start_low t (o ∷ os) b zero d low lt = let e : end_of t o ≤ max (end_of t o) (makespan t os) = omega arith in omega (arith, e, low)
start_low t (o ∷ os) b (suc k) d low lt = start_low t os b k d (let e : makespan t os ≤ max (end_of t o) (makespan t os) = omega arith in omega (arith, e, low)) (omega (arith, lt))

-- an optimal plan of the kept part is one of the ground task, with older numbers
pub older_optimal : (old new : TaskShape) (actions : List ℕ) (plan : List Occ) → KeepsPlans old new actions → IsOptimal new plan → IsOptimal old (older_plan actions plan)
older_optimal old new actions plan k best =
    let onto = k.onto plan best.valid.of_task in
    (k.optimal (older_plan actions plan)).1 (onto.0, subst (IsOptimal new) (sym onto.1) best)

-- the lines of an optimal plan of the kept part tell a best plan
pub tells_best : (d : Domain) (p : Problem) (task : TaskShape) (kept : Pruned) (plan : List Occ) (m : ℕ) → StandsFor d p task kept → IsOptimal kept.task plan → makespan kept.task plan ≡ m → m ≤ 1000000 → TellBestPlan d p task kept plan m
tells_best d p task kept plan m stands best is small =
    let older = older_optimal task kept.task kept.actions plan stands.keeps best in
    let same : makespan task (older_plan kept.actions plan) ≡ m = sym (older_makespan task kept.task kept.actions plan stands.keeps best.valid.of_task) ∙ is in
    record {
      read = printed_back kept.task plan stands.plain.bounds stands.plain.actions best.valid.of_task (λ k d lt. start_low kept.task plan 1000000000 k d (omega (arith, is, small)) lt);
      optimal = older;
      is = same;
      reading = stands.reading;
      reads = stands.reads;
      valid_with_absence = (stands.same.valid (older_plan kept.actions plan)).0 older.valid;
      is_with_absence = sym (stands.same.makespan (older_plan kept.actions plan)) ∙ same;
      least_with_absence = λ other valid. (let low = older.least other ((stands.same.valid other).1 valid) in let their = stands.same.makespan other in omega (arith, low, same, their));
    }

pub tells_none_up_to : (d : Domain) (p : Problem) (task : TaskShape) (kept : Pruned) (b : ℕ) → StandsFor d p task kept → IsRefuted kept.task b → HaveNoneUpTo d p task b
tells_none_up_to d p task kept b stands none =
    let older : IsRefuted task b = (stands.keeps.refuted b).1 none in
    record { refuted = older; reading = stands.reading; reads = stands.reads; with_absence = λ other valid low. older other ((stands.same.valid other).1 valid) (let their = stands.same.makespan other in omega (arith, low, their)) }

pub tells_none : (d : Domain) (p : Problem) (task : TaskShape) (kept : Pruned) → StandsFor d p task kept → HasNoPlan kept.task → HaveNone d p task
tells_none d p task kept stands none =
    let older : HasNoPlan task = stands.keeps.no_plan.1 none in
    record { none = older; reading = stands.reading; reads = stands.reads; with_absence = λ other valid. older other ((stands.same.valid other).1 valid) }
