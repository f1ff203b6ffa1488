use Rattle.std.specs.Prelude.{◌≡◌, ℕ, ◌+◌, ◌-◌, ◌<◌, min, List, length, slice_index, vec_len, vec_capacity}
use Rattle.cpt_layout.specs.Places.{Frame, table, needs_at, adders_at, NoTwice}
use Rattle.cpt_layout.specs.Numbers.{base, needs_before, head}
use Rattle.cpt_layout.specs.Shapes.{LayoutShape}
use Rattle.cpt_layout.specs.declared.layout.Layout.TheInside.{Inside}

-- where each token begins, how many needs stand before it, and where each of its needs begins; nobody stands twice among
-- the adders of an atom
pub record IsLaid (s : Frame) (bs fs hs : List ℕ) : Type 0 where
  pub bases : bs ≡ table (base s) 0 (length s.kinds)
  pub firsts : fs ≡ table (needs_before s) 0 (length s.kinds)
  pub count : length hs ≡ needs_before s (length s.kinds)
  pub heads : (x j : ℕ) → x < length s.kinds → j < length (needs_at s x) → slice_index hs (needs_before s x + j) ≡ head s x j
  pub adders : (p : ℕ) → NoTwice (adders_at s p)

-- what a layout is seen as
abbrev pub frame_of : Inside → Frame
frame_of l = record { bound = l.bound; pre = l.pre; goal = l.goal; adders = l.adders; kinds = l.kinds.items }

-- what is seen of a layout: its frame, and the room for tokens and for preconditions
abbrev pub shape_of : Inside → LayoutShape
shape_of l = record {
  frame = frame_of l;
  token_room = min (vec_capacity l.kinds - vec_len l.kinds) (min (vec_capacity l.bases - vec_len l.bases) (vec_capacity l.firsts - vec_len l.firsts));
  need_room = vec_capacity l.heads - vec_len l.heads;
}

-- its lists number the cells of its frame
abbrev pub IsSound : Inside → Type 0
IsSound l = IsLaid (frame_of l) l.bases.items l.firsts.items l.heads.items
