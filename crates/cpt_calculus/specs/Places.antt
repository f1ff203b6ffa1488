use Rattle.std.specs.Prelude.{◌≡◌, ℕ, ◌<◌, ◌≤◌, ◌==◌, Bool, true, false, List, length, slice_get, unwrap_or}
use Rattle.cpt_sheet.specs.declared.data.Cand.{Cand}
use Rattle.cpt_sheet.specs.declared.data.Cand.TheVariants.{Tok, Out}
use Rattle.cpt_sheet.specs.declared.data.Need.{Need}
use Rattle.cpt_sheet.specs.View.{no_need}

-- the first precondition that is the atom, or the length where none is
pub record IsPlaceFor (ns : List Need) (p i : ℕ) : Type 0 where
  pub within : i ≤ length ns
  pub none_before : (k : ℕ) → k < i → ((unwrap_or (slice_get ns k) no_need).atom == p) ≡ false
  pub here : i < length ns → ((unwrap_or (slice_get ns i) no_need).atom == p) ≡ true

-- an outside action
abbrev pub is_outside : Cand → Bool
is_outside (Tok x) = false
is_outside (Out a) = true
