use Rattle.std.specs.Prelude.{◌≡◌, ℕ, ◌+◌, ◌<◌, ◌≤◌, ◌^◌, List, [], ◌∷◌, ◌++◌, length}
use Rattle.cpt_sheet.specs.declared.data.Kind.{Kind}
use Rattle.cpt_sheet.specs.declared.data.Sheet.{Sheet}
use Rattle.cpt_layout.specs.Places.{Place, Frame, IsThere, extended, needs_by}
use Rattle.cpt_layout.specs.Numbers.{cell_of, cells_in}

-- a mark: the sheet when it was set, and how many cells were written since it and before the next mark
pub record SheetMark : Type 0 where
  pub sheet : Sheet
  pub written : ℕ

-- what is seen of cells that hold a sheet: what the cells do not say, the sheet, its marks from the oldest to the newest,

-- what is seen of cells: frame, sheet, marks, how many cells, and spare room for cells, entries and marks
pub record CellsShape : Type 0 where
  pub frame : Frame
  pub sheet : Sheet
  pub marks : List SheetMark
  pub cells : ℕ
  pub cell_room : ℕ
  pub entry_room : ℕ
  pub mark_room : ℕ
  pub token_room : ℕ
  pub need_room : ℕ

-- the marks stay, but for how many cells were written since the newest
pub data KeepsMarks (old new : List SheetMark) : Type 0 where
  same : new ≡ old → KeepsMarks old new
  newest : (ms : List SheetMark) (s : Sheet) (m n : ℕ) → old ≡ ms ++ record { sheet = s; written = m } ∷ [] → new ≡ ms ++ record { sheet = s; written = n } ∷ [] → KeepsMarks old new

-- how many cells were written since the oldest of these marks, mark by mark
abbrev pub written_of : List SheetMark → ℕ
written_of [] = 0
written_of (m ∷ ms) = m.written + written_of ms

-- mark number n and all newer ones are gone, and the sheet is the one of that mark
pub record IsBackAt (n : ℕ) (old new : CellsShape) : Type 0 where
  pub mark : SheetMark
  pub newer : List SheetMark
  pub marks : old.marks ≡ new.marks ++ mark ∷ newer
  pub older : length new.marks ≡ n
  pub sheet : new.sheet ≡ mark.sheet

-- the cell holds something of the sheet
pub record IsCellOf (s : Frame) (n : ℕ) : Type 0 where
  pub place : Place
  pub there : IsThere s place
  pub cell : n ≡ cell_of s place

-- there is as much spare room for a token as before
pub record KeepsRoom (old new : CellsShape) : Type 0 where
  pub cells : new.cell_room ≡ old.cell_room
  pub tokens : new.token_room ≡ old.token_room
  pub needs : new.need_room ≡ old.need_room

-- there is room for a token more of this kind, whose cells are so many
pub record HasRoomFor (c : CellsShape) (k : Kind) (count : ℕ) : Type 0 where
  pub size : count + cells_in c.frame ≡ cells_in (extended c.frame (k ∷ []))
  pub fits : cells_in (extended c.frame (k ∷ [])) < 2 ^ 64
  pub cell_room : count ≤ c.cell_room
  pub token_room : 0 < c.token_room
  pub need_room : length (needs_by c.frame k) ≤ c.need_room
