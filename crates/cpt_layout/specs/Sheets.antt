use Rattle.std.specs.Prelude.{◌≡◌, ◌≢◌, ℕ, ◌&&◌, ◌==◌, Bool, not, List, length, slice_index, if◌then◌else◌}
use Rattle.cpt_task.specs.declared.span.Span.{Span}
use Rattle.cpt_task.specs.declared.span.Span.TheVariants.{At, Never}
use Rattle.cpt_sheet.specs.declared.data.Cand.{Cand}
use Rattle.cpt_sheet.specs.declared.data.Cand.TheVariants.{Tok, Out}
use Rattle.cpt_sheet.specs.declared.data.Interval.{Interval}
use Rattle.cpt_sheet.specs.declared.data.Need.{Need}
use Rattle.cpt_sheet.specs.declared.data.Token.{Token}
use Rattle.cpt_sheet.specs.declared.data.Sheet.{Sheet}
use Rattle.cpt_layout.specs.Places.{Place, out_lo, out_hi, tok_lo, tok_hi, order, member, Frame, IsThere, table, kept, kind_at, needs_at, atom_at, all_cands, all_pairs}
use Rattle.cpt_layout.specs.Numbers.{cell_of}

-- the span that a number stands for: the greatest number of 64 bits is Never
abbrev pub span_from : ℕ → Span
span_from v = if v == 18446744073709551615 then Never else At v

-- the number that stands for a span
abbrev pub number_of : Span → ℕ
number_of (At v) = v
number_of Never = 18446744073709551615

-- a span that a number below 2^64 - 1 or Never stands for
abbrev pub IsSmall : Span → Type 0
IsSmall (At n) = n ≢ 18446744073709551615
IsSmall Never = Unit {0}

-- whether the candidate is in the list of the token at this place: never the token itself
abbrev pub is_cand : (Place → ℕ) → ℕ → ℕ → Cand → Bool
is_cand v x j (Tok y) = not (y == x) && (v (member x j (Tok y)) == 1)
is_cand v x j (Out a) = v (member x j (Out a)) == 1

-- whether the order stands: never between a token and itself
abbrev pub is_order : (Place → ℕ) → ℕ × ℕ → Bool
is_order v o = not (o.0 == o.1) && (v (order o.0 o.1) == 1)

-- the interval of an outside action that lies in places
abbrev pub out_from : (Place → ℕ) → ℕ → Interval
out_from v a = record { lo = span_from (v (out_lo a)); hi = v (out_hi a) }

-- the interval of a token that lies in places
abbrev pub span_at : (Place → ℕ) → ℕ → Interval
span_at v x = record { lo = span_from (v (tok_lo x)); hi = v (tok_hi x) }

-- the j-th precondition of a token, with the candidates that lie in places
abbrev pub need_from : Frame → (Place → ℕ) → ℕ → ℕ → Need
need_from s v x j = record { atom = atom_at s x j; cands = kept (is_cand v x j) (all_cands s (atom_at s x j)) }

-- a token that lies in places
abbrev pub token_from : Frame → (Place → ℕ) → ℕ → Token
token_from s v x = record { kind = kind_at s x; span = span_at v x; lists = table (need_from s v x) 0 (length (needs_at s x)) }

-- the orders of n tokens that lie in places
abbrev pub orders_from : (Place → ℕ) → ℕ → List (ℕ × ℕ)
orders_from v n = kept (is_order v) (all_pairs n 0 n)

-- the sheet whose numbers stand at these places
abbrev pub sheet_from : Frame → (Place → ℕ) → Sheet
sheet_from s v = record {
  bound = s.bound;
  tokens = table (token_from s v) 0 (length s.kinds);
  outs = table (out_from v) 0 (length s.pre);
  orders = orders_from v (length s.kinds);
}

-- one place holds another number
pub record IsPutAt (s : Frame) (v w : Place → ℕ) (q : Place) (n : ℕ) : Type 0 where
  pub here : w q ≡ n
  pub others : (r : Place) → IsThere s r → r ≢ q → w r ≡ v r

-- the number at a place, where these are the cells
abbrev pub number_at : Frame → List ℕ → Place → ℕ
number_at s cells q = slice_index cells (cell_of s q)

-- the sheet that lies in the cells
abbrev pub seen : Frame → List ℕ → Sheet
seen s cells = sheet_from s (number_at s cells)
