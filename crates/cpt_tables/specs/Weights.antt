use Rattle.std.specs.Prelude.{ℕ, ◌+◌, ◌*◌, List, [], ◌∷◌, All, slice_index_or}
use Rattle.cpt_task.specs.declared.span.Span.{Span}
use Rattle.cpt_task.specs.declared.span.Span.TheVariants.{At, Never}
use Rattle.cpt_tables.specs.Spans.{IsBelow}

-- the value at a place
abbrev pub value_at : List Span → ℕ → Span
value_at xs k = slice_index_or xs k Never

-- the sum of f over a list
abbrev pub total : (Span → ℕ) → List Span → ℕ
total f [] = 0
total f (x ∷ xs) = f x + total f xs

-- 1 for a finite value
abbrev pub one_for : Span → ℕ
one_for (At m) = 1
one_for Never = 0

-- how many values are finite
abbrev pub reached : List Span → ℕ
reached = total one_for

-- a value as a number, where Never is more than each finite one
abbrev pub weight_of : Span → ℕ
weight_of (At m) = m
weight_of Never = 1000000000000000

-- how far the values are from zeros
abbrev pub weight : List Span → ℕ
weight = total weight_of

-- each finite value is at most 100,000 for each finite value of the list
abbrev pub IsSmall : List Span → Type 0
IsSmall xs = All (IsBelow (100000 * reached xs + 1)) xs

-- one duration more than a value of the list can be
abbrev pub IsNextTo : List Span → Span → Type 0
IsNextTo xs v = IsBelow (100000 * reached xs + 100001) v
