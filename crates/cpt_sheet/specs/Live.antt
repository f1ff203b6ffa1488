use Rattle.std.specs.Prelude.{ℕ, Bool, false, nat_le, ◌≡◌, ◌≢◌, ◌⊎◌, [], All, Contains}
use Rattle.cpt_task.specs.declared.span.Span.{Span}
use Rattle.cpt_task.specs.declared.span.Span.TheVariants.{At, Never}
use Rattle.cpt_tables.specs.Spans.{◌≤ˢ◌, ◌<ˢ◌}
use Rattle.cpt_sheet.specs.declared.data.Interval.{Interval}
use Rattle.cpt_sheet.specs.declared.data.Need.{Need}
use Rattle.cpt_sheet.specs.declared.data.Token.{Token}
use Rattle.cpt_sheet.specs.declared.data.Sheet.{Sheet}

-- an interval with a moment
abbrev pub IsOpen : Interval → Type 0
IsOpen i = i.lo ≤ˢ At i.hi

-- an interval without a moment
abbrev pub IsShut : Interval → Type 0
IsShut i = At i.hi <ˢ i.lo

-- the span is no later than the moment
abbrev pub is_by : Span → ℕ → Bool
is_by (At m) n = nat_le m n
is_by Never n = false

-- the interval has a moment
abbrev pub is_open : Interval → Bool
is_open i = is_by i.lo i.hi

-- a token without a moment, or with an empty candidate list
abbrev pub IsDeadToken : Token → Type 0
IsDeadToken t = IsShut t.span ⊎ ((n : Need) × Contains t.lists n × (n.cands ≡ []))

-- a token with a moment and without an empty candidate list
abbrev pub IsLiveToken : Token → Type 0
IsLiveToken t = IsOpen t.span × All (λ n. n.cands ≢ []) t.lists

-- some token has no moment or an empty candidate list
abbrev pub IsDead : Sheet → Type 0
IsDead s = (t : Token) × Contains s.tokens t × IsDeadToken t

-- no token has no moment or an empty candidate list
abbrev pub IsLive : Sheet → Type 0
IsLive s = All IsLiveToken s.tokens
