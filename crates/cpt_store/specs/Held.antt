use Rattle.std.specs.Prelude.{◌≡◌, ◌≤◌, ◌<◌, true, List, [], ◌∷◌, ◌++◌, length, map, Option, Some, None, All, IfSome}
use Rattle.std.specs.Option.{option_map}
use Rattle.cpt_task.specs.Shape.{TaskShape}
use Rattle.cpt_sheet.specs.declared.data.Decision.{Decision}
use Rattle.cpt_sheet.specs.declared.data.Decision.TheVariants.{Join, Bring, Before}
use Rattle.cpt_sheet.specs.declared.data.Kind.{Kind}
use Rattle.cpt_sheet.specs.declared.data.Kind.TheVariants.{Act}
use Rattle.cpt_sheet.specs.declared.data.Sheet.{Sheet}
use Rattle.cpt_sheet.specs.declared.data.Step.{Step}
use Rattle.cpt_sheet.specs.Formed.{IsFormed}
use Rattle.cpt_tables.specs.declared.tables.Tables.{Tables}
use Rattle.cpt_calculus.specs.Rules.{IsLegal}
use Rattle.cpt_store.specs.declared.store.Next.{Next}
use Rattle.cpt_store.specs.declared.store.Store.TheInside.{Inside}
use Rattle.cpt_index.specs.declared.index.Index.{Index}
use Rattle.cpt_index.specs.declared.index.Seat.{Seat}
use Rattle.cpt_index.specs.Index.{HasRoomFor, IsIndexOf, IsSeat, kinds_of}
use Rattle.cpt_block.specs.Blocks.{IsFrameOf}
use Rattle.cpt_cells.specs.Decided.{IsReadyFor}
use Rattle.cpt_cells.specs.Shapes.{CellsShape, SheetMark}
use Rattle.cpt_store.specs.Stores.{Mark, StoreShape}

-- a mark of the cells
abbrev pub mark_of : SheetMark → Mark
mark_of m = record { sheet = m.sheet; written = m.written }

-- how a store is seen
abbrev pub shape_of : Inside → StoreShape
shape_of s = record { task = s.task; sheet = s.cells.sheet; marks = map mark_of s.cells.marks; ready = option_map (λ (n : Next). n.decision) s.next; markable = s.markable }

-- a sheet of the task whose tokens can be numbered
pub record IsSheetFor (t : TaskShape) (s : Sheet) : Type 0 where
  pub formed : IsFormed t s
  pub few : length s.tokens ≤ 4200000000

-- the step is legal for some tables
pub record IsLegalFor (t : TaskShape) (s : Sheet) (step : Step) : Type 0 where
  pub tables : Tables
  pub legal : IsLegal t tables s step

-- what is brought, if anything, has room in the lists
abbrev pub IsSeated : TaskShape → Index → Option Seat → Type 0
IsSeated t i z = IfSome z (λ y. IsSeat t y × HasRoomFor t i y)

-- these kinds, and one more
abbrev pub kinds_with : List Kind → Option Kind → List Kind
kinds_with ks None = ks
kinds_with ks (Some k) = ks ++ k ∷ []

-- what the token in the seat stands for
abbrev pub kind_in : Option Seat → Option Kind
kind_in z = option_map (λ y. y.kind) z

-- what a decision brings
abbrev pub brings : Decision → Option Kind
brings (Bring x p a) = Some (Act a)
brings (Join x p y) = None
brings (Before x y) = None

-- what the decision brings has room in the lists
pub record IsSeatFor (t : TaskShape) (i : Index) (d : Decision) (z : Option Seat) : Type 0 where
  pub seated : IsSeated t i z
  pub kind : kind_in z ≡ brings d

-- there is room for the decision in the cells and in the lists
pub record IsNext (t : TaskShape) (i : Index) (c : CellsShape) (n : Next) : Type 0 where
  pub ready : IsReadyFor t c n.decision n.numbers.items
  pub seat : IsSeatFor t i n.decision n.seat

-- there is room for a mark
pub record HasMarkRoom (c : CellsShape) : Type 0 where
  pub mark : 0 < c.mark_room
  pub entries : c.cells ≤ c.entry_room

-- the kinds are the first of those
pub record IsFirstOf (ks ls : List Kind) : Type 0 where
  pub rest : List Kind
  pub is : ls ≡ ks ++ rest

-- what the tokens of each of these sheets stand for
abbrev pub kinds_kept : List Sheet → List (List Kind)
kinds_kept ss = map kinds_of ss

-- the sheets of marks
abbrev pub sheets_of : List SheetMark → List Sheet
sheets_of ms = map (λ m. m.sheet) ms

-- the first of them, and else these
abbrev pub first_of : List (List Kind) → List Kind → List Kind
first_of [] ls = ls
first_of (ks ∷ more) ls = ks

-- each is the first of the next, and the last the first of these
abbrev pub IsGrowing : List (List Kind) → List Kind → Type 0
IsGrowing [] ls = Unit {0}
IsGrowing (ks ∷ more) ls = IsFirstOf ks (first_of more ls) × IsGrowing more ls

-- the sheets are the task's, and their tokens become more from one to the next, up to these kinds
pub record AreKept (t : TaskShape) (ss : List Sheet) (ks : List Kind) : Type 0 where
  pub sheets : All (IsSheetFor t) ss
  pub growing : IsGrowing (kinds_kept ss) ks

-- the cells hold a sheet of the task, and the lists are those of its tokens
pub record IsKeptBy (t : TaskShape) (c : CellsShape) (i : Index) : Type 0 where
  pub sheet : IsSheetFor t c.sheet
  pub frame : IsFrameOf t c.frame
  pub indexed : IsIndexOf t (kinds_of c.sheet) i
  pub kept : AreKept t (sheets_of c.marks) (kinds_of c.sheet)

-- what always holds of a store
pub record IsSound (s : Inside) : Type 0 where
  pub acts : length s.task.actions ≤ 4096
  pub held : IsKeptBy s.task s.cells s.index
  pub room : s.markable ≡ true → HasMarkRoom s.cells
  pub next : IfSome s.next (IsNext s.task s.index s.cells)
