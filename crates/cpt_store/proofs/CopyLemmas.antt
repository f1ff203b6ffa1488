-- copies of tasks are tasks
use Rattle.std.proofs.Common.{◌≡◌, ℕ, List, inr, subst}
use Rattle.std.proofs.lemmas.Option.{get_or_from_slice_get, slice_get_within}
use Rattle.cpt_task.specs.declared.task.Action.{Action}
use Rattle.cpt_task.specs.declared.task.BuildError.{BuildError}
use Rattle.cpt_task.specs.declared.task.BuildError.TheVariants.{BadAtom, BadDuration}
use Rattle.cpt_task.specs.Building.{IsFault, made_of}
use Rattle.cpt_task.specs.Shape.{TaskShape, InBounds, IsDuration}
use Rattle.cpt_task.proofs.BuildingLemmas.{none_bad}

no_fault : (t : TaskShape) (e : BuildError) → InBounds t → IsFault t e → ⊥
no_fault t (BadAtom k) b h = none_bad t k b.actions b.init (inr b.goal) h.here
no_fault t (BadDuration k) b h =
    let w = h.1.here in
    w.2 (subst (λ (a : Action). IsDuration a.dur) (get_or_from_slice_get t.actions k w.0 w.0 w.1) (b.durations k w.0 (slice_get_within t.actions k w.0 w.1)))

pub no_fault_of : (t : TaskShape) (atoms : List (List ℕ)) (actions : List Action) (init goal : List ℕ) (e : BuildError) → InBounds t → atoms ≡ t.atoms → actions ≡ t.actions → init ≡ t.init → goal ≡ t.goal →
    IsFault (made_of atoms actions init goal) e → ⊥
no_fault_of t atoms actions init goal e b p q r s h =
    no_fault t e b
    (subst (λ z. IsFault (made_of t.atoms t.actions t.init z) e) s
    (subst (λ z. IsFault (made_of t.atoms t.actions z goal) e) r (subst (λ z. IsFault (made_of t.atoms z init goal) e) q (subst (λ z. IsFault (made_of z actions init goal) e) p h))))
