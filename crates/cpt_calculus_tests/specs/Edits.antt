use Rattle.std.specs.Prelude.{◌≤◌}
use Rattle.cpt_task.specs.declared.span.Span.{Span}
use Rattle.cpt_task.specs.declared.span.Span.TheVariants.{At, Never}
use Rattle.cpt_tables.specs.Spans.{IsBelow}
use Rattle.cpt_sheet.specs.declared.data.Cand.TheVariants.{Tok, Out}
use Rattle.cpt_sheet.specs.declared.data.Sheet.{Sheet}
use Rattle.cpt_sheet.specs.declared.data.Change.{Change}
use Rattle.cpt_sheet.specs.declared.data.Change.TheVariants.{Raise, Lower, Take, Post}
use Rattle.cpt_sheet.specs.Formed.{IsPlaced}

-- the moment is within the bound
abbrev pub IsWithin : Sheet → Span → Type 0
IsWithin s (At n) = n ≤ s.bound
IsWithin s Never = ⊥

-- a change, in whatever direction, after which a formed sheet is formed
abbrev pub KeepsFormed : Sheet → Change → Type 0
KeepsFormed s (Raise (Tok x) v) = IsBelow 4000000000000000 v
KeepsFormed s (Raise (Out a) v) = IsBelow 2000000000000000 v
KeepsFormed s (Lower c v) = IsWithin s v
KeepsFormed s (Take x p c) = Unit {0}
KeepsFormed s (Post x y) = IsPlaced s x y
