use Rattle.std.specs.Prelude.{ℕ, ◌==◌, List, [], ◌∷◌, slice_set, if◌then◌else◌}
use Rattle.cpt_task.specs.declared.span.Span.{Span}
use Rattle.cpt_task.specs.declared.span.Span.TheVariants.{At, Never}
use Rattle.cpt_sheet.specs.declared.data.Cand.{Cand}
use Rattle.cpt_sheet.specs.declared.data.Cand.TheVariants.{Tok, Out}
use Rattle.cpt_sheet.specs.declared.data.Interval.{Interval}
use Rattle.cpt_sheet.specs.declared.data.Need.{Need}
use Rattle.cpt_sheet.specs.declared.data.Token.{Token}
use Rattle.cpt_sheet.specs.declared.data.Sheet.{Sheet}
use Rattle.cpt_sheet.specs.declared.data.Change.{Change}
use Rattle.cpt_sheet.specs.declared.data.Change.TheVariants.{Raise, Lower, Take, Post}
use Rattle.cpt_sheet.specs.View.{token_at, span_of, hi, same, has_order, pair_lt}

-- the list without the candidate
abbrev pub without : Cand → List Cand → List Cand
without c [] = []
without c (d ∷ ds) = if same d c then ds else d ∷ without c ds

-- the preconditions with another list for an atom, made from the old one
abbrev pub revised : ℕ → (List Cand → List Cand) → List Need → List Need
revised p f [] = []
revised p f (n ∷ ns) = if n.atom == p then (record n { cands = f n.cands } ∷ ns) else (n ∷ revised p f ns)

-- the orders with one more at its place
abbrev pub with_order : ℕ → ℕ → List (ℕ × ℕ) → List (ℕ × ℕ)
with_order x y [] = (x, y) ∷ []
with_order x y (o ∷ os) = if pair_lt x y o.0 o.1 then ((x, y) ∷ (o ∷ os)) else (o ∷ with_order x y os)

-- the orders with this one among them
abbrev pub posted : ℕ → ℕ → List (ℕ × ℕ) → List (ℕ × ℕ)
posted x y os = if has_order x y os then os else with_order x y os

-- the sheet with another token of this number
abbrev pub with_token : Sheet → ℕ → Token → Sheet
with_token s x t = record s { tokens = slice_set s.tokens x t }

-- the sheet with another interval of a token or an outside action
abbrev pub with_span : Sheet → Cand → Interval → Sheet
with_span s (Tok x) i = with_token s x (record (token_at s x) { span = i })
with_span s (Out a) i = record s { outs = slice_set s.outs a i }

-- the sheet with another list for a token and an atom, made from the old one
abbrev pub with_list : Sheet → ℕ → ℕ → (List Cand → List Cand) → Sheet
with_list s x p f = with_token s x (record (token_at s x) { lists = revised p f (token_at s x).lists })

-- the sheet with this order
abbrev pub with_posted : Sheet → ℕ → ℕ → Sheet
with_posted s x y = record s { orders = posted x y s.orders }

-- the moment of a span, or another one where it is Never
abbrev pub moment_or : Span → ℕ → ℕ
moment_or (At v) n = v
moment_or Never n = n

-- the sheet with a change
abbrev pub changed : Sheet → Change → Sheet
changed s (Raise c v) = with_span s c (record (span_of s c) { lo = v })
changed s (Lower c v) = with_span s c (record (span_of s c) { hi = moment_or v (hi s c) })
changed s (Take x p c) = with_list s x p (without c)
changed s (Post x y) = with_posted s x y
