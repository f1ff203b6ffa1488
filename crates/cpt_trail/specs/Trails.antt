use Rattle.std.specs.Prelude.{◌≡◌, ℕ, ◌+◌, ◌&&◌, Bool, false, not, List, [], ◌∷◌, ◌++◌, length, nat_lt}
use Rattle.cpt_task.specs.Timeline.{is_in}

-- a mark: the cells as they were when it was set, and the cells for which an entry was kept since it and before the
-- next mark, in the order in which they were written
pub record Mark : Type 0 where
  pub cells : List ℕ
  pub kept : List ℕ

-- what is seen of a trail: its cells, its marks from the oldest to the newest, and the spare room for cells, for
-- entries and for marks
pub record TrailShape : Type 0 where
  pub cells : List ℕ
  pub marks : List Mark
  pub cell_room : ℕ
  pub entry_room : ℕ
  pub mark_room : ℕ

-- whether a cell was there at a mark and has no entry since
abbrev pub is_unkept : ℕ → Mark → Bool
is_unkept c m = nat_lt c (length m.cells) && not (is_in c m.kept)

-- whether a write of the cell keeps an entry: it was there at the newest mark and has no entry since
abbrev pub keeps : ℕ → List Mark → Bool
keeps c [] = false
keeps c (m ∷ []) = is_unkept c m
keeps c (m ∷ (n ∷ ms)) = keeps c (n ∷ ms)

-- the marks, with the cell among those that the newest has an entry for
abbrev pub with_kept : ℕ → List Mark → List Mark
with_kept c [] = []
with_kept c (m ∷ []) = record m { kept = m.kept ++ c ∷ [] } ∷ []
with_kept c (m ∷ (n ∷ ms)) = m ∷ with_kept c (n ∷ ms)

-- how many entries these marks have
abbrev pub entries_of : List Mark → ℕ
entries_of [] = 0
entries_of (m ∷ ms) = length m.kept + entries_of ms

-- mark number n and all newer ones are gone, and the cells are those of that mark; the room of what is gone is spare
-- again
pub record IsBackTo (n : ℕ) (t u : TrailShape) : Type 0 where
  pub mark : Mark
  pub newer : List Mark
  pub marks : t.marks ≡ u.marks ++ mark ∷ newer
  pub older : length u.marks ≡ n
  pub cells : u.cells ≡ mark.cells
  pub cell_room : u.cell_room + length u.cells ≡ t.cell_room + length t.cells
  pub entry_room : u.entry_room + entries_of u.marks ≡ t.entry_room + entries_of t.marks
  pub mark_room : u.mark_room + length u.marks ≡ t.mark_room + length t.marks
