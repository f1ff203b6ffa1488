use Rattle.std.specs.Prelude.{ℕ, ◌<◌, List, [], length, Contains}
use Rattle.cpt_task.specs.Shape.{TaskShape}
use Rattle.cpt_task.specs.Interference.{Interferes}
use Rattle.cpt_tables.specs.Admissible.{nth_action}
use Rattle.cpt_sheet.specs.declared.data.Kind.{Kind}
use Rattle.cpt_sheet.specs.declared.data.Kind.TheVariants.{Start, End, Act}

-- what it needs: the end needs the goal, and the start nothing
abbrev pub needs_of : TaskShape → Kind → List ℕ
needs_of t Start = []
needs_of t End = t.goal
needs_of t (Act a) = (nth_action t a).pre

-- what it adds: the start adds the initial atoms, and the end nothing
abbrev pub adds_of : TaskShape → Kind → List ℕ
adds_of t Start = t.init
adds_of t End = []
adds_of t (Act a) = (nth_action t a).add

-- what it deletes: the start and the end delete nothing
abbrev pub deletes_of : TaskShape → Kind → List ℕ
deletes_of t Start = []
deletes_of t End = []
deletes_of t (Act a) = (nth_action t a).dele

-- it adds the atom
abbrev pub Adds : TaskShape → Kind → ℕ → Type 0
Adds t k p = Contains (adds_of t k) p

-- it deletes the atom
abbrev pub Deletes : TaskShape → Kind → ℕ → Type 0
Deletes t k p = Contains (deletes_of t k) p

-- one of the actions deletes an atom that the other needs or adds
pub record Interfere (t : TaskShape) (a b : ℕ) : Type 0 where
  pub interfere : Interferes (nth_action t a) (nth_action t b)

-- both are actions of the task, and they interfere
pub record ActionsClash (t : TaskShape) (a b : ℕ) : Type 0 where
  pub first : a < length t.actions
  pub second : b < length t.actions
  pub interfere : Interfere t a b

-- both are actions of the task, and they interfere
abbrev pub Clash : TaskShape → Kind → Kind → Type 0
Clash t (Act a) (Act b) = ActionsClash t a b
Clash t (Act a) Start = ⊥
Clash t (Act a) End = ⊥
Clash t Start k = ⊥
Clash t End k = ⊥

-- the start, the end, or an action of the task
abbrev pub IsKindOf : TaskShape → Kind → Type 0
IsKindOf t Start = Unit {0}
IsKindOf t End = Unit {0}
IsKindOf t (Act a) = a < length t.actions
