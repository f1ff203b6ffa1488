use Rattle.std.specs.Prelude.{ℕ, zero, suc, ◌+◌, ◌-◌, ◌<◌, if◌then◌else◌, length}
use Rattle.std.proofs.Common.{sum_by}
use Rattle.cpt_task.specs.declared.span.Span.{Span}
use Rattle.cpt_task.specs.declared.span.Span.TheVariants.{At, Never}
use Rattle.cpt_task.specs.Shape.{TaskShape}
use Rattle.cpt_tables.specs.declared.tables.Tables.{Tables}
use Rattle.cpt_sheet.specs.declared.data.Interval.{Interval}
use Rattle.cpt_sheet.specs.declared.data.Token.{Token}
use Rattle.cpt_sheet.specs.declared.data.Sheet.{Sheet}
use Rattle.cpt_sheet.specs.declared.data.Step.{Step}
use Rattle.cpt_sheet.specs.declared.data.Change.{Change}
use Rattle.cpt_sheet.specs.Edits.{changed}
use Rattle.cpt_sheet.specs.View.{before}
use Rattle.cpt_sheet.specs.Formed.{IsFormed}
use Rattle.cpt_calculus.specs.Rules.{IsLegal, narrowed}
use Rattle.cpt_steps.specs.Landing.{CanMake}

-- how often a first moment can still be raised, at most
abbrev pub span_room : Span → ℕ
span_room (At n) = 4000000000000000 - n
span_room Never = 0

-- how often the ends of an interval can still move
abbrev pub interval_room : Interval → ℕ
interval_room i = span_room i.lo + i.hi

-- how often a token's interval and lists can still narrow
abbrev pub token_room : Token → ℕ
token_room z = interval_room z.span + sum_by (λ n. length n.cands) z.lists

-- the sum of f over the numbers below n
abbrev pub sum_below : (ℕ → ℕ) → ℕ → ℕ
sum_below f zero = 0
sum_below f (suc n) = sum_below f n + f n

-- 1 where the order can still be posted
abbrev pub order_room : Sheet → ℕ → ℕ → ℕ
order_room s x y = if before s x y then 0 else 1

-- how many orders of n tokens do not stand yet
abbrev pub orders_room : Sheet → ℕ → ℕ
orders_room s n = sum_below (λ x. sum_below (order_room s x) n) n

-- how many steps a sheet has left, at most
abbrev pub room : Sheet → ℕ
room s = (sum_by token_room s.tokens + sum_by interval_room s.outs) + orders_room s (length s.tokens)

-- each change that can be made in a formed sheet leaves less room
abbrev pub ChangesLessen : Type 0
ChangesLessen = (t : TaskShape) (s : Sheet) (ch : Change) → IsFormed t s → CanMake t s ch → room (changed s ch) < room s

-- each legal step of a formed sheet leaves less room
abbrev pub StepsLessen : Type 0
StepsLessen = (t : TaskShape) (b : Tables) (s : Sheet) (step : Step) → IsFormed t s → IsLegal t b s step → room (narrowed s step) < room s
