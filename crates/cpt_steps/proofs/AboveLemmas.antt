-- what narrows a sheet narrows each sheet above it
use Rattle.std.proofs.Common.{ℕ, ◌≤◌, arith}
use Rattle.std.proofs.lemmas.Bool.{both_ways, false_from_ne_true}
use Rattle.cpt_task.specs.declared.span.Span.{Span}
use Rattle.cpt_task.specs.declared.span.Span.TheVariants.{At, Never}
use Rattle.cpt_tables.specs.Spans.{◌<ˢ◌}
use Rattle.cpt_tables.proofs.SpanLemmas.{le_lt}
use Rattle.cpt_sheet.specs.declared.data.Change.TheVariants.{Raise, Lower, Take, Post}
use Rattle.cpt_sheet.specs.View.{lo, hi, before}
use Rattle.cpt_calculus.proofs.Below.{los, his, parts}
use Rattle.cpt_calculus.proofs.Parts.{Part-has}
use Rattle.cpt_steps.specs.Landing.{MovesAbove}

lt_up : (v : Span) (m n : ℕ) → v <ˢ At m → m ≤ n → v <ˢ At n
lt_up (At k) m n l e = omega arith
lt_up Never m n l e = l

pub moves_above : MovesAbove
moves_above a b h (Raise c v) m = le_lt (lo a c) (lo b c) v (los a b h c) m
moves_above a b h (Lower c v) m = lt_up v (hi b c) (hi a c) m (his a b h c)
moves_above a b h (Take x p c) m = Part-has c (parts a b h x p) m
moves_above a b h (Post x y) m = false_from_ne_true (before a x y) (λ e. both_ways (before b x y) m (h.orders x y e))
