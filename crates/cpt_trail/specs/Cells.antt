use Rattle.std.specs.Prelude.{◌≡◌, ℕ, suc, ◌-◌, ◌≤◌, ◌<◌, ◌&&◌, not, min, List, [], ◌∷◌, ◌++◌, length, map, take, drop, reverse, nat_lt, slice_index, All, vec_len, vec_capacity}
use Rattle.cpt_task.specs.Timeline.{is_in}
use Rattle.cpt_trail.specs.declared.entries.Entry.{Entry}
use Rattle.cpt_trail.specs.declared.entries.Level.{Level}
use Rattle.cpt_trail.specs.declared.trail.Trail.TheInside.{Inside}
use Rattle.cpt_trail.specs.Trails.{Mark, TrailShape}
use Rattle.cpt_trail.specs.Undone.{undone}

-- the numbers of a level's cells as they were when it was set
abbrev pub at_level : (Entry → ℕ) → Level → List Entry → List ℕ → List ℕ
at_level f l es xs = undone f (drop l.entries es) (take l.cells xs)

-- the marks from the oldest to the newest, of levels from the newest to the oldest
abbrev pub marks_of : List Level → List Entry → List ℕ → List Mark
marks_of [] es xs = []
marks_of (l ∷ ls) es xs =
    let back = at_level (λ e. e.value) l es xs in
    marks_of ls (take l.entries es) back ++ record { cells = back; kept = map (λ e. e.cell) (drop l.entries es) } ∷ []

-- the newest level: a stamp is below the number of levels exactly where the next write keeps an entry
pub record IsTop (n : ℕ) (l : Level) (es : List Entry) (stamps : List ℕ) : Type 0 where
  pub cells : l.cells ≤ length stamps
  pub entries : l.entries ≤ length es
  pub within : All (λ e. e.cell < l.cells) (drop l.entries es)
  pub fresh : (c : ℕ) → c < length stamps → nat_lt (slice_index stamps c) n ≡ nat_lt c l.cells && not (is_in c (map (λ e. e.cell) (drop l.entries es)))

-- stamps of levels, from the newest to the oldest
abbrev pub IsStamped : List Level → List Entry → List ℕ → Type 0
IsStamped [] es stamps = (es ≡ []) × ((c : ℕ) → c < length stamps → slice_index stamps c ≤ 0)
IsStamped (l ∷ ls) es stamps =
    IsTop (suc (length ls)) l es stamps
    × ((c : ℕ) → c < length stamps → slice_index stamps c ≤ suc (length ls))
    × IsStamped ls (take l.entries es) (at_level (λ e. e.stamp) l es stamps)

-- how a trail is seen
abbrev pub shape_of : Inside → TrailShape
shape_of t = record {
  cells = t.values.items;
  marks = marks_of (reverse t.levels.items) t.entries.items t.values.items;
  cell_room = min (vec_capacity t.values - vec_len t.values) (vec_capacity t.stamps - vec_len t.stamps);
  entry_room = vec_capacity t.entries - vec_len t.entries;
  mark_room = vec_capacity t.levels - vec_len t.levels;
}

-- what always holds of a trail
pub record IsSound (t : Inside) : Type 0 where
  pub lengths : length t.stamps.items ≡ length t.values.items
  pub stamped : IsStamped (reverse t.levels.items) t.entries.items t.stamps.items
