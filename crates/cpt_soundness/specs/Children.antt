use Rattle.std.specs.Prelude.{ℕ, ◌==◌, List, length, Contains, if◌then◌else◌}
use Rattle.cpt_task.specs.declared.plan.Occ.{Occ}
use Rattle.cpt_task.specs.Shape.{TaskShape}
use Rattle.cpt_task.specs.Timeline.{IsValid}
use Rattle.cpt_tables.specs.declared.tables.Tables.{Tables}
use Rattle.cpt_sheet.specs.declared.data.Sheet.{Sheet}
use Rattle.cpt_sheet.specs.declared.data.Decision.{Decision}
use Rattle.cpt_sheet.specs.declared.data.Decision.TheVariants.{Join, Bring, Before}
use Rattle.cpt_sheet.specs.declared.data.Flaw.{Flaw}
use Rattle.cpt_sheet.specs.Formed.{IsFormed}
use Rattle.cpt_calculus.specs.Decisions.{applied}
use Rattle.cpt_calculus.specs.Flaws.{IsFlaw, children}
use Rattle.cpt_calculus.specs.Plans.{Admits}
use Rattle.cpt_soundness.specs.Acting.{IsAdmissible}

-- the map with this place for the token n
abbrev pub with_place : (ℕ → ℕ) → ℕ → ℕ → ℕ → ℕ
with_place f n i x = if x == n then i else f x

-- the sheet after the decision admits the plan: under the same map, or with a place for the token that is brought
abbrev pub AdmitsAfter : TaskShape → List Occ → (ℕ → ℕ) → Sheet → Decision → Type 0
AdmitsAfter t plan f s (Join x p y) = Admits t plan f (applied t s (Join x p y))
AdmitsAfter t plan f s (Bring x p a) = (i : ℕ) × Admits t plan (with_place f (length s.tokens) i) (applied t s (Bring x p a))
AdmitsAfter t plan f s (Before x y) = Admits t plan f (applied t s (Before x y))

-- each plan that a formed sheet with a flaw admits is admitted after one of the flaw's children
abbrev pub ChildrenCover : Type 0
ChildrenCover =
    (t : TaskShape) (b : Tables) (s : Sheet) (flaw : Flaw) (plan : List Occ) (f : ℕ → ℕ) → IsAdmissible t b → IsFormed t s → IsFlaw t s flaw →
    IsValid t plan → Admits t plan f s → (d : Decision) × Contains (children s flaw) d × AdmitsAfter t plan f s d
