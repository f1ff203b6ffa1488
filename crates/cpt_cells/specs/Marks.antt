use Rattle.std.specs.List.{IsDistinct}
use Rattle.std.specs.Prelude.{◌≡◌, ℕ, ◌<◌, ◌≤◌, ◌+◌, ◌*◌, ◌^◌, nat_eq, true, List, [], ◌∷◌, length, map, slice_index}
use Rattle.cpt_task.specs.Timeline.{is_in}
use Rattle.cpt_trail.specs.Trails.{Mark, TrailShape, entries_of}
use Rattle.cpt_layout.specs.Places.{Frame, cut, adders_at, NoTwice}
use Rattle.cpt_layout.specs.Numbers.{cells_in}
use Rattle.cpt_layout.specs.Shapes.{LayoutShape}
use Rattle.cpt_layout.specs.Sheets.{seen}
use Rattle.cpt_cells.specs.Shapes.{SheetMark, CellsShape}

-- how many tokens there are, as a cell behind those of the outside actions says
abbrev pub count_at : Frame → List ℕ → ℕ
count_at s cells = slice_index cells (2 * length s.pre)

-- a mark of the trail, as one of sheets: its tokens are the first ones of today
abbrev pub mark_of : Frame → Mark → SheetMark
mark_of s m = record { sheet = seen (cut s (count_at s m.cells)) m.cells; written = length m.kept }

-- from mark to mark the tokens become more, from `low` to n, and at each there were the cells of its tokens
abbrev pub IsChain : Frame → ℕ → List Mark → ℕ → Type 0
IsChain s low [] n = low ≤ n
IsChain s low (m ∷ ms) n = (low ≤ count_at s m.cells) × (length m.cells ≡ cells_in (cut s (count_at s m.cells))) × IsChain s (count_at s m.cells) ms n

-- the cells with an entry since a mark are different, and were there at it
abbrev pub IsOnce : Mark → Type 0
IsOnce m = IsDistinct nat_eq m.kept × ((q : ℕ) → is_in q m.kept ≡ true → q < length m.cells)

-- each of the marks has each cell once
abbrev pub AreOnce : List Mark → Type 0
AreOnce [] = Unit {0}
AreOnce (m ∷ ms) = IsOnce m × AreOnce ms

-- each cell that was there at a mark has an entry since, or there is spare room for it
abbrev pub HasRoom : ℕ → List Mark → Type 0
HasRoom r [] = Unit {0}
HasRoom r (m ∷ ms) = (length m.cells ≤ r + entries_of (m ∷ ms)) × HasRoom r ms

-- how a trail is seen whose cells have this layout
abbrev pub seen_by : TrailShape → LayoutShape → CellsShape
seen_by t l = record {
  frame = l.frame;
  sheet = seen l.frame t.cells;
  marks = map (mark_of l.frame) t.marks;
  cells = length t.cells;
  cell_room = t.cell_room;
  entry_room = t.entry_room;
  mark_room = t.mark_room;
  token_room = l.token_room;
  need_room = l.need_room;
}

-- each place has its cell, one cell more has the number of tokens, and there is no other cell, nor was there at a mark;
-- there is room for each entry
pub record IsHeldBy (t : TrailShape) (s : Frame) (n : ℕ) : Type 0 where
  pub cells : length t.cells ≡ cells_in s
  pub end : n ≡ length t.cells
  pub fits : length t.cells < 2 ^ 64
  pub tokens : count_at s t.cells ≡ length s.kinds
  pub adders : (p : ℕ) → NoTwice (adders_at s p)
  pub chain : IsChain s 0 t.marks (length s.kinds)
  pub once : AreOnce t.marks
  pub room : HasRoom t.entry_room t.marks
