use Rattle.std.proofs.Common.{ℕ, ◌<◌, ◌≤◌, ◌⊎◌, inl, inr, List, arith}
use Rattle.cpt_task.specs.declared.plan.Occ.{Occ}
use Rattle.cpt_task.specs.Shape.{TaskShape}
use Rattle.cpt_task.specs.Timeline.{IsValid, makespan}
use Rattle.cpt_task.specs.Optimal.{IsOptimal, IsRefuted, OptimalityByRefutation, NoPlanByRefutation}

cases_le : (a b : ℕ) → (a ≤ b) ⊎ (b < a)
cases_le a b = grind arith

refuted_below : (t : TaskShape) (plan : List Occ) → IsOptimal t plan → (b : ℕ) → b < makespan t plan → IsRefuted t b
refuted_below t plan o b lt other valid short = omega (arith, o.least other valid)

no_smaller : (t : TaskShape) (plan : List Occ) → ((b : ℕ) → b < makespan t plan → IsRefuted t b) → (other : List Occ) → IsValid t other → makespan t plan ≤ makespan t other
no_smaller t plan refuted other valid =
    elim (cases_le (makespan t plan) (makespan t other)) [
      | inl le ↦ le
      | inr lt ↦ absurd (refuted (makespan t other) lt other valid (omega arith))
    ]

pub by_refutation : OptimalityByRefutation
by_refutation t plan valid = (refuted_below t plan, λ h. record { valid = valid; least = no_smaller t plan h })

pub by_all_refuted : NoPlanByRefutation
by_all_refuted t = (λ none b plan valid le. none plan valid, λ all plan valid. all (makespan t plan) plan valid (omega arith))
