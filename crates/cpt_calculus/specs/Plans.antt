use Rattle.std.specs.Prelude.{◌≡◌, ◌≢◌, ℕ, ◌≤◌, ◌<◌, ◌⊎◌, true, List, length, Contains}
use Rattle.cpt_task.specs.declared.plan.Occ.{Occ}
use Rattle.cpt_task.specs.declared.span.Span.TheVariants.{At}
use Rattle.cpt_task.specs.Shape.{TaskShape}
use Rattle.cpt_task.specs.Timeline.{occurrence_at, action_of, end_of, makespan}
use Rattle.cpt_tables.specs.Spans.{◌≤ˢ◌}
use Rattle.cpt_sheet.specs.declared.data.Cand.{Cand}
use Rattle.cpt_sheet.specs.declared.data.Cand.TheVariants.{Tok, Out}
use Rattle.cpt_sheet.specs.declared.data.Kind.{Kind}
use Rattle.cpt_sheet.specs.declared.data.Kind.TheVariants.{Start, End, Act}
use Rattle.cpt_sheet.specs.declared.data.Sheet.{Sheet}
use Rattle.cpt_sheet.specs.View.{lo, hi, kind_of, has, has_need, cands, before}

-- who acts in a plan: the start, the end, or the occurrence at a place
pub data Who : Type 0 where
  begin : Who
  finish : Who
  place : ℕ → Who

-- when it begins: the start at 0, and the end at the makespan
abbrev pub begins : TaskShape → List Occ → Who → ℕ
begins t plan begin = 0
begins t plan finish = makespan t plan
begins t plan (place i) = (occurrence_at plan i).start

-- when it ends
abbrev pub ends : TaskShape → List Occ → Who → ℕ
ends t plan begin = 0
ends t plan finish = makespan t plan
ends t plan (place i) = end_of t (occurrence_at plan i)

-- whom a token of this kind stands for, where f gives the places of the tokens
abbrev pub who_of_kind : (ℕ → ℕ) → ℕ → Kind → Who
who_of_kind f x Start = begin
who_of_kind f x End = finish
who_of_kind f x (Act a) = place (f x)

-- whom a token stands for
abbrev pub who : (ℕ → ℕ) → Sheet → ℕ → Who
who f s x = who_of_kind f x (kind_of s (Tok x))

-- an occurrence of the action for which no token stands
pub record IsOutside (f : ℕ → ℕ) (plan : List Occ) (s : Sheet) (a i : ℕ) : Type 0 where
  pub within : i < length plan
  pub action : (occurrence_at plan i).act ≡ a
  pub free : (x : ℕ) → x < length s.tokens → who f s x ≢ place i

-- a token or an outside action stands for the start, the end or an occurrence
abbrev pub StandsFor : (ℕ → ℕ) → List Occ → Sheet → Cand → Who → Type 0
StandsFor f plan s (Tok x) w = (x < length s.tokens) × (who f s x ≡ w)
StandsFor f plan s (Out a) w = (i : ℕ) × (w ≡ place i) × IsOutside f plan s a i

-- an occurrence that adds the atom and ends by the moment
pub record IsAdder (t : TaskShape) (plan : List Occ) (p moment i : ℕ) : Type 0 where
  pub within : i < length plan
  pub adds : Contains (action_of t (occurrence_at plan i)).add p
  pub ended : end_of t (occurrence_at plan i) ≤ moment

-- the occurrence at i ends after that at j, or with it and stands no later in the list
abbrev pub IsNoEarlier : TaskShape → List Occ → ℕ → ℕ → Type 0
IsNoEarlier t plan i j =
    (end_of t (occurrence_at plan j) < end_of t (occurrence_at plan i))
    ⊎ ((end_of t (occurrence_at plan j) ≡ end_of t (occurrence_at plan i)) × (i ≤ j))

-- the last adder of an atom before a moment: the adder with the greatest end, and of these the first in the list
pub record IsLastAdder (t : TaskShape) (plan : List Occ) (p moment i : ℕ) : Type 0 where
  pub adder : IsAdder t plan p moment i
  pub last : (j : ℕ) → IsAdder t plan p moment j → IsNoEarlier t plan i j

-- who adds the atom last before a moment: the start where no occurrence does
abbrev pub Supplies : TaskShape → List Occ → ℕ → ℕ → Who → Type 0
Supplies t plan p moment begin = (j : ℕ) → IsAdder t plan p moment j → ⊥
Supplies t plan p moment finish = ⊥
Supplies t plan p moment (place i) = IsLastAdder t plan p moment i

-- the sheet admits the plan, where f gives the place of each action token
pub record Admits (t : TaskShape) (plan : List Occ) (f : ℕ → ℕ) (s : Sheet) : Type 0 where
  pub placed : (x a : ℕ) → x < length s.tokens → kind_of s (Tok x) ≡ Act a → (f x < length plan) × ((occurrence_at plan (f x)).act ≡ a)
  pub apart : (x y : ℕ) → x < length s.tokens → y < length s.tokens → who f s x ≡ who f s y → x ≡ y
  pub bound : makespan t plan ≤ s.bound
  pub spans : (c : Cand) (w : Who) → StandsFor f plan s c w → (lo s c ≤ˢ At (begins t plan w)) × (begins t plan w ≤ hi s c)
  pub orders : (x y : ℕ) → before s x y ≡ true → ends t plan (who f s x) ≤ begins t plan (who f s y)
  pub supplied : (x p : ℕ) → has_need s x p ≡ true → (c : Cand) (w : Who) → StandsFor f plan s c w →
      Supplies t plan p (begins t plan (who f s x)) w → has c (cands s x p) ≡ true
