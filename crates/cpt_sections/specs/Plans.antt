use Rattle.std.specs.Prelude.{◌≡◌, ℕ, ◌+◌, ◌-◌, ◌<◌, ◌≤◌, ◌^◌, ◌==◌, if◌then◌else◌, [], ◌∷◌, ◌++◌, length, All, Option, None, Some, Vec, IfSome}
use Rattle.std.specs.Global.{Global}
use Rattle.cpt_task.specs.declared.plan.Occ.{Occ}
use Rattle.cpt_task.specs.Shape.{TaskShape}
use Rattle.cpt_task.specs.Timeline.{IsOccurrence}
use Rattle.cpt_cert_accept.specs.declared.faults.Why.TheVariants as whys
use Rattle.cpt_cert_accept.specs.Accepting.{IsPlanOf}
use Rattle.cpt_sections.specs.declared.section.Trees.TheVariants as trees
use Rattle.cpt_sections.specs.declared.section.Aim.TheVariants as aims
use Rattle.cpt_sections.specs.declared.section.Items.{Items}
use Rattle.cpt_sections.specs.declared.section.Section.{Section}
use Rattle.cpt_sections.specs.declared.section.Section.TheVariants as sections
use Rattle.cpt_sections.specs.declared.section.Next.{Next}
use Rattle.cpt_sections.specs.declared.section.Next.TheVariants as nexts

-- an occurrence that can stand in a plan with this makespan
abbrev pub CanStand : TaskShape → ℕ → Occ → Type 0
CanStand t m o = IsOccurrence t o × (o.start ≤ m)

-- what is kept of the occurrences that are read: all, where each can stand in a plan with this makespan
abbrev pub IsKept : TaskShape → ℕ → Option (Vec Occ Global) → Type 0
IsKept t m plan = IfSome plan (λ p. (length p.items < 2 ^ 32) × All (CanStand t m) p.items)

-- what is kept with one occurrence more
abbrev pub KeepsAlso : TaskShape → ℕ → Occ → Option (Vec Occ Global) → Option (Vec Occ Global) → Type 0
KeepsAlso t m o None None = Unit {0}
KeepsAlso t m o None (Some new) = ⊥
KeepsAlso t m o (Some old) None = CanStand t m o → ⊥
KeepsAlso t m o (Some old) (Some new) = CanStand t m o × (new.items ≡ old.items ++ o ∷ [])

-- what is read behind a plan with this makespan
abbrev pub after_plan : ℕ → Section
after_plan m = if m == 0 then sections.End else sections.Pairs (aims.Trees (trees.Closed (m - 1)))

-- the occurrences are kept, and are a plan with this makespan
abbrev pub IsPlanIn : TaskShape → ℕ → Option (Vec Occ Global) → Type 0
IsPlanIn t m (Some plan) = IsPlanOf t m plan.items
IsPlanIn t m None = ⊥

-- what a plan leads to whose lines are read
abbrev pub EndsPlan : TaskShape → ℕ → ℕ → Option (Vec Occ Global) → Next → Type 0
EndsPlan t m head plan (nexts.On new) = IsPlanIn t m plan × (new ≡ after_plan m)
EndsPlan t m head plan (nexts.Fault at why) = (IsPlanIn t m plan → ⊥) × (at ≡ head) × (why ≡ whys.Plan)

-- the lines of a plan that are left, of which there may be none
pub record MayEnd (t : TaskShape) (i : Items) : Type 0 where
  pub makespan : i.makespan ≤ 1000000
  pub few : i.left < 2 ^ 32
  pub listed : IfSome i.plan (λ plan. (length plan.items + i.left < 2 ^ 32) × All (CanStand t i.makespan) plan.items)

-- none of the lines of a plan is read
abbrev pub IsFirstItems : ℕ → ℕ → ℕ → Items → Type 0
IsFirstItems m head k i = (plan : Vec Occ Global) × (plan.items ≡ []) × (i ≡ record { makespan = m; head = head; left = k; start = 0; act = 0; plan = Some plan })

-- what is left behind the line of an occurrence
pub record TakesItem (t : TaskShape) (old : Items) (o : Occ) (new : Items) : Type 0 where
  pub rest : new ≡ record { makespan = old.makespan; head = old.head; left = old.left - 1; start = o.start; act = o.act; plan = new.plan }
  pub plan : KeepsAlso t old.makespan o old.plan new.plan
