use Rattle.std.specs.Prelude.{◌≡◌, ℕ, List, length, replicate, Option, None}
use Rattle.cpt_task.specs.declared.task.Action.{Action}
use Rattle.cpt_task.specs.declared.plan.Occ.{Occ}
use Rattle.cpt_task.specs.Shape.{TaskShape}
use Rattle.cpt_tighten.specs.declared.moments.Finish.{Finish}
use Rattle.cpt_tighten.specs.declared.records.Records.{Records}
use Rattle.cpt_tighten.specs.Best.{best_over, entry, moved, IsNoted}

-- records of n atoms by which nothing has ended
pub record IsBlank (n : ℕ) (r : Records) : Type 0 where
  pub needs : r.needs.items ≡ replicate n None
  pub adds : r.adds.items ≡ replicate n None
  pub deletes : r.deletes.items ≡ replicate n None
  pub adders : r.adders.items ≡ replicate n None

-- records of n atoms
pub record IsSized (n : ℕ) (r : Records) : Type 0 where
  pub needs : length r.needs.items ≡ n
  pub adds : length r.adds.items ≡ n
  pub deletes : length r.deletes.items ≡ n
  pub adders : length r.adders.items ≡ n

-- the end of an occurrence of the action is taken into the records
pub record IsTaken (old : Records) (a : Action) (now before : Finish) (new : Records) : Type 0 where
  pub needs : IsNoted old.needs.items a.pre now new.needs.items
  pub adds : IsNoted old.adds.items a.add now new.adds.items
  pub deletes : IsNoted old.deletes.items a.dele now new.deletes.items
  pub adders : IsNoted old.adders.items a.add before new.adders.items

-- of those in the records that an occurrence of the action has to wait for, the one that ends last in the schedule
abbrev pub best_of : TaskShape → List Occ → Records → Action → Option Finish
best_of t tight r a =
    best_over (λ p. moved t tight (entry r.adders.items p)) a.pre
    (best_over (entry r.deletes.items) a.add (best_over (entry r.deletes.items) a.pre (best_over (entry r.adds.items) a.dele (best_over (entry r.needs.items) a.dele None))))
