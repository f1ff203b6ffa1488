use Rattle.std.proofs.Common.{◌≡◌, ℕ, zero, suc, ◌+◌, Bool, not, ◌&&◌, ◌||◌, max, nat_eq, Some, List, [], ◌∷◌, refl, ap, ◌∙◌}
use Rattle.std.proofs.lemmas.List.Elements.{All-head, All-tail}
use Rattle.cpt_task.specs.declared.task.Action.{Action}
use Rattle.cpt_task.specs.declared.plan.Occ.{Occ}
use Rattle.cpt_task.specs.Shape.{TaskShape}
use Rattle.cpt_task.specs.Timeline.{action_of, end_of, is_in, adds_at, deletes_at, holds_at, makespan}
use Rattle.cpt_reach.specs.Reached.{IsKeptAction}
use Rattle.cpt_reach.specs.Kept.{new_number, IsKeptPart}
use Rattle.cpt_reach.specs.Plans.{IsKeptPlan, renumbered_occurrence, renumbered_plan}
use Rattle.cpt_reach.proofs.Numbering.{is_in-renumbered}
use Rattle.cpt_reach.proofs.Renaming.{action_of-renumbered, end_of-renumbered}

IsKeptOcc : TaskShape → Occ → Type 0
IsKeptOcc old o = IsKeptAction old o.act

-- the renumbered plan has the makespan of the plan
pub makespan-renumbered : (old new : TaskShape) (atoms actions : List ℕ) → IsKeptPart old atoms actions new → (plan : List Occ) → IsKeptPlan old plan → makespan new (renumbered_plan actions plan) ≡ makespan old plan
unfolding IsKeptOcc
makespan-renumbered old new atoms actions part [] kept = refl
makespan-renumbered old new atoms actions part (o ∷ os) kept =
    ap (λ e. max e (makespan new (renumbered_plan actions os))) (end_of-renumbered old new atoms actions part o (All-head (IsKeptOcc old) o os kept))
    ∙ ap (λ m. max (end_of old o) m) (makespan-renumbered old new atoms actions part os (All-tail (IsKeptOcc old) o os kept))

or_both : (a b c d : Bool) → a ≡ b → c ≡ d → (a || c) ≡ (b || d)
or_both a b c d e f = cc

-- the place of a kept atom is added by the renumbered plan when the atom is added by the plan
pub adds-renumbered : (old new : TaskShape) (atoms actions : List ℕ) → IsKeptPart old atoms actions new → (p i : ℕ) → new_number atoms p ≡ Some i → (plan : List Occ) → IsKeptPlan old plan → (time : ℕ)
    → adds_at new (renumbered_plan actions plan) time i ≡ adds_at old plan time p
unfolding IsKeptOcc
adds-renumbered old new atoms actions part p i e [] kept time = refl
adds-renumbered old new atoms actions part p i e (o ∷ os) kept time =
    or_both (nat_eq (end_of new (renumbered_occurrence actions o)) time && is_in i (action_of new (renumbered_occurrence actions o)).add) (nat_eq (end_of old o) time && is_in p (action_of old o).add)
    (adds_at new (renumbered_plan actions os) time i) (adds_at old os time p)
    (ap (λ (a : Action). nat_eq (o.start + a.dur) time && is_in i a.add) (action_of-renumbered old new atoms actions part o (All-head (IsKeptOcc old) o os kept))
    ∙ ap (λ b. nat_eq (end_of old o) time && b) (is_in-renumbered atoms p i e (action_of old o).add))
    (adds-renumbered old new atoms actions part p i e os (All-tail (IsKeptOcc old) o os kept) time)

-- and the same of what is deleted
pub deletes-renumbered : (old new : TaskShape) (atoms actions : List ℕ) → IsKeptPart old atoms actions new → (p i : ℕ) → new_number atoms p ≡ Some i → (plan : List Occ) → IsKeptPlan old plan → (time : ℕ)
    → deletes_at new (renumbered_plan actions plan) time i ≡ deletes_at old plan time p
unfolding IsKeptOcc
deletes-renumbered old new atoms actions part p i e [] kept time = refl
deletes-renumbered old new atoms actions part p i e (o ∷ os) kept time =
    or_both (nat_eq (end_of new (renumbered_occurrence actions o)) time && is_in i (action_of new (renumbered_occurrence actions o)).dele) (nat_eq (end_of old o) time && is_in p (action_of old o).dele)
    (deletes_at new (renumbered_plan actions os) time i) (deletes_at old os time p)
    (ap (λ (a : Action). nat_eq (o.start + a.dur) time && is_in i a.dele) (action_of-renumbered old new atoms actions part o (All-head (IsKeptOcc old) o os kept))
    ∙ ap (λ b. nat_eq (end_of old o) time && b) (is_in-renumbered atoms p i e (action_of old o).dele))
    (deletes-renumbered old new atoms actions part p i e os (All-tail (IsKeptOcc old) o os kept) time)

step_both : (h k d e a b : Bool) → h ≡ k → d ≡ e → a ≡ b → ((h && not d) || a) ≡ ((k && not e) || b)
step_both h k d e a b p q r = cc

-- the place of a kept atom holds in the renumbered plan when the atom holds in the plan
pub holds-renumbered : (old new : TaskShape) (atoms actions : List ℕ) → IsKeptPart old atoms actions new → (plan : List Occ) → IsKeptPlan old plan → (p i : ℕ) → new_number atoms p ≡ Some i → (time : ℕ)
    → holds_at new (renumbered_plan actions plan) time i ≡ holds_at old plan time p
holds-renumbered old new atoms actions part plan kept p i e zero = ap (is_in i) part.new_init ∙ is_in-renumbered atoms p i e old.init
holds-renumbered old new atoms actions part plan kept p i e (suc time) =
    step_both (holds_at new (renumbered_plan actions plan) time i) (holds_at old plan time p)
    (deletes_at new (renumbered_plan actions plan) (suc time) i) (deletes_at old plan (suc time) p)
    (adds_at new (renumbered_plan actions plan) (suc time) i) (adds_at old plan (suc time) p)
    (holds-renumbered old new atoms actions part plan kept p i e time)
    (deletes-renumbered old new atoms actions part p i e plan kept (suc time))
    (adds-renumbered old new atoms actions part p i e plan kept (suc time))
