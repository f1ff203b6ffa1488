use Rattle.std.specs.Prelude.{ℕ, ◌+◌, ◌<◌, ◌≤◌, max, min}
use Rattle.cpt_task.specs.declared.span.Span.{Span}
use Rattle.cpt_task.specs.declared.span.Span.TheVariants.{At, Never}

infix 4 ◌≤ˢ◌
infix 4 ◌<ˢ◌
infixl 6 ◌+ˢ◌
-- the first is no later than the second; Never is later than every moment
abbrev pub ◌≤ˢ◌ : Span → Span → Type 0
At a ≤ˢ At b = a ≤ b
At a ≤ˢ Never = Unit {0}
Never ≤ˢ At b = ⊥
Never ≤ˢ Never = Unit {0}

-- the first is earlier than the second
abbrev pub ◌<ˢ◌ : Span → Span → Type 0
At a <ˢ At b = a < b
At a <ˢ Never = Unit {0}
Never <ˢ b = ⊥

-- the sum of two spans
abbrev pub ◌+ˢ◌ : Span → Span → Span
At a +ˢ At b = At (a + b)
At a +ˢ Never = Never
Never +ˢ b = Never

-- the greater of two spans
abbrev pub span_max : Span → Span → Span
span_max (At a) (At b) = At (max a b)
span_max (At a) Never = Never
span_max Never b = Never

-- the lesser of two spans
abbrev pub span_min : Span → Span → Span
span_min (At a) (At b) = At (min a b)
span_min (At a) Never = At a
span_min Never b = b

-- not Never
abbrev pub IsFinite : Span → Type 0
IsFinite (At a) = Unit {0}
IsFinite Never = ⊥

-- a span that is below n where it is finite
abbrev pub IsBelow : ℕ → Span → Type 0
IsBelow n (At a) = a < n
IsBelow n Never = Unit {0}
