use Rattle.std.specs.Prelude.{ℕ}
use Rattle.cpt_layout.specs.Places.{Frame}

-- what is seen of a layout: what the cells do not say, and the spare room for tokens and for their needs
pub record LayoutShape : Type 0 where
  pub frame : Frame
  pub token_room : ℕ
  pub need_room : ℕ
