use Rattle.std.specs.Prelude.{◌≡◌, ℕ, ◌<◌, ◌≤◌, ◌==◌, true, false, List, length, slice_index}
use Rattle.cpt_task.specs.declared.span.Span.TheVariants.{At, Never}
use Rattle.cpt_sheet.specs.declared.data.Cand.{Cand}
use Rattle.cpt_sheet.specs.declared.data.Cand.TheVariants.{Tok, Out}
use Rattle.cpt_sheet.specs.declared.data.Change.{Change}
use Rattle.cpt_sheet.specs.Formed.{IsPlaced}
use Rattle.cpt_sheet.specs.declared.data.Change.TheVariants.{Raise, Lower, Take, Post}
use Rattle.cpt_sheet.specs.declared.data.Sheet.{Sheet}
use Rattle.cpt_sheet.specs.Edits.{changed}
use Rattle.cpt_sheet.specs.View.{before, has, cands}
use Rattle.cpt_layout.specs.Places.{Place, out_lo, out_hi, tok_lo, tok_hi, order, member, Frame, IsThere, needs_at, atom_at, adders_at, NoTwice}
use Rattle.cpt_layout.specs.Numbers.{cell_of, base}
use Rattle.cpt_layout.specs.Sheets.{span_from, IsSmall}

-- the place of the first precondition of the token that is the atom
pub record IsNeedAt (s : Frame) (x p j : ℕ) : Type 0 where
  pub adders : NoTwice (adders_at s (atom_at s x j))
  pub within : j < length (needs_at s x)
  pub here : (atom_at s x j == p) ≡ true
  pub none_before : (k : ℕ) → k < j → (atom_at s x k == p) ≡ false

-- what a number at a place makes of a sheet: an end of an interval; 1 posts an order, and 0 takes a candidate
abbrev pub Puts : Frame → Sheet → Sheet → Place → ℕ → Type 0
Puts f s t (out_lo a) n = t ≡ changed s (Raise (Out a) (span_from n))
Puts f s t (out_hi a) n = t ≡ changed s (Lower (Out a) (At n))
Puts f s t (tok_lo x) n = t ≡ changed s (Raise (Tok x) (span_from n))
Puts f s t (tok_hi x) n = t ≡ changed s (Lower (Tok x) (At n))
Puts f s t (order x y) n = n ≡ 1 → before s x y ≡ false → t ≡ changed s (Post x y)
Puts f s t (member x j c) n = (p : ℕ) → n ≡ 0 → IsNeedAt f x p j → has c (cands s x p) ≡ true → t ≡ changed s (Take x p c)

-- where the interval of a token or of an outside action stands
abbrev pub lo_of : Cand → Place
lo_of (Tok x) = tok_lo x
lo_of (Out a) = out_lo a

-- where the greatest moment lies of a token or an outside action
abbrev pub hi_of : Cand → Place
hi_of (Tok x) = tok_hi x
hi_of (Out a) = out_hi a

-- the sheet has such an interval
abbrev pub IsSpanOf : Sheet → Cand → Type 0
IsSpanOf s (Tok x) = x < length s.tokens
IsSpanOf s (Out a) = a < length s.outs

-- the cell of the candidate in the list of the token for the atom
pub record IsCandCell (s : Frame) (x p : ℕ) (c : Cand) (n : ℕ) : Type 0 where
  pub place : ℕ
  pub need : IsNeedAt s x p place
  pub there : IsThere s (member x place c)
  pub cell : n ≡ cell_of s (member x place c)
  pub below : n < base s (length s.kinds)

-- the place of the first number of the list that is p, or the length
pub record IsFirstIn (ns : List ℕ) (p j : ℕ) : Type 0 where
  pub within : j ≤ length ns
  pub none_before : (k : ℕ) → k < j → (slice_index ns k == p) ≡ false
  pub here : j < length ns → (slice_index ns j == p) ≡ true

-- the change is of something that is there, and narrows: what a legal step at a formed sheet gives
abbrev pub CanMake : Sheet → Change → Type 0
CanMake s (Raise c v) = IsSpanOf s c × IsSmall v
CanMake s (Lower c (At n)) = IsSpanOf s c
CanMake s (Lower c Never) = ⊥
CanMake s (Take x p c) = (x < length s.tokens) × (has c (cands s x p) ≡ true)
CanMake s (Post x y) = IsPlaced s x y × (before s x y ≡ false)
