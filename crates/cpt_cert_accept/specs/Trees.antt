use Rattle.std.specs.Prelude.{◌≡◌, ℕ, ◌+◌, Bool, true, List, [], ◌∷◌, ◌++◌}
use Rattle.cpt_task.specs.Shape.{TaskShape}
use Rattle.cpt_tables.specs.declared.tables.Tables.{Tables}
use Rattle.cpt_sheet.specs.declared.data.Sheet.{Sheet}
use Rattle.cpt_sheet.specs.declared.data.Step.{Step}
use Rattle.cpt_sheet.specs.declared.data.Decision.{Decision}
use Rattle.cpt_sheet.specs.declared.data.Decision.TheVariants.{Bring}
use Rattle.cpt_sheet.specs.declared.data.Flaw.{Flaw}
use Rattle.cpt_sheet.specs.declared.data.NodeLine.{NodeLine}
use Rattle.cpt_sheet.specs.declared.data.NodeLine.TheVariants.{Child, Narrow, Close, Branch, OpenNode}
use Rattle.cpt_sheet.specs.Live.{IsDead, IsLive}
use Rattle.cpt_calculus.specs.Rules.{IsLegal, narrowed}
use Rattle.cpt_calculus.specs.Decisions.{applied}
use Rattle.cpt_calculus.specs.Flaws.{IsFlaw, children}

-- a part of a tree: a whole node over a sheet, what is left of a node behind step lines that led to the sheet, or a
-- node for each of these decisions at the sheet
pub data Part : Type 0 where
  node : Sheet → Part
  worked : Sheet → Part
  branches : Sheet → List Decision → Part

-- 1 where the line is a child for which a token is brought
abbrev pub bring_of : NodeLine → ℕ
bring_of (Child (Bring x p a)) = 1
bring_of _ = 0

-- how many of the lines are children for which a token is brought
abbrev pub brings : List NodeLine → ℕ
brings [] = 0
brings (l ∷ ls) = bring_of l + brings ls

-- The lines of a part of a tree. A node is step lines, each legal where it stands, and then a close line where the
-- sheet is dead, or a branch on a flaw of a sheet that is not dead, followed by a child line and a node for each child
-- of the flaw, in order. Where nodes may be open, the open line alone is a node too.
pub data IsPart (t : TaskShape) (b : Tables) (may_open : Bool) : Part → List NodeLine → Type 0 where
  left : (s : Sheet) → may_open ≡ true → IsPart t b may_open (node s) (OpenNode ∷ [])
  whole : (s : Sheet) (ls : List NodeLine) → IsPart t b may_open (worked s) ls → IsPart t b may_open (node s) ls
  step : (s : Sheet) (step : Step) (ls : List NodeLine) → IsLegal t b s step → IsPart t b may_open (worked (narrowed s step)) ls → IsPart t b may_open (worked s) (Narrow step ∷ ls)
  close : (s : Sheet) → IsDead s → IsPart t b may_open (worked s) (Close ∷ [])
  branch : (s : Sheet) (flaw : Flaw) (ls : List NodeLine) → IsLive s → IsFlaw t s flaw → IsPart t b may_open (branches s (children s flaw)) ls → IsPart t b may_open (worked s) (Branch flaw ∷ ls)
  none : (s : Sheet) → IsPart t b may_open (branches s []) []
  child : (s : Sheet) (d : Decision) (ds : List Decision) (ls more all : List NodeLine) → IsPart t b may_open (node (applied t s d)) ls → IsPart t b may_open (branches s ds) more →
      all ≡ ls ++ more → IsPart t b may_open (branches s (d ∷ ds)) (Child d ∷ all)

-- the lines of a tree over the sheet
abbrev pub IsTreeOver : TaskShape → Tables → Bool → Sheet → List NodeLine → Type 0
IsTreeOver t b may_open s ls = IsPart t b may_open (node s) ls
