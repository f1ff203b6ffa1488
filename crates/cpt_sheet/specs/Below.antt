use Rattle.std.specs.Prelude.{◌≡◌, ℕ, ◌≤◌, true, List, [], ◌∷◌}
use Rattle.std.specs.List.{AllZip}
use Rattle.cpt_tables.specs.Spans.{◌≤ˢ◌}
use Rattle.cpt_sheet.specs.declared.data.Cand.{Cand}
use Rattle.cpt_sheet.specs.declared.data.Interval.{Interval}
use Rattle.cpt_sheet.specs.declared.data.Need.{Need}
use Rattle.cpt_sheet.specs.declared.data.Token.{Token}
use Rattle.cpt_sheet.specs.declared.data.Sheet.{Sheet}
use Rattle.cpt_sheet.specs.View.{before}

-- the first list is the second with some elements left out
pub data Part : List Cand → List Cand → Type 0 where
  done : Part [] []
  skip : {y : Cand} {xs ys : List Cand} → Part xs ys → Part xs (y ∷ ys)
  keep : {x : Cand} {xs ys : List Cand} → Part xs ys → Part (x ∷ xs) (x ∷ ys)

-- each moment of the second interval is one of the first
abbrev pub IntervalBelow : Interval → Interval → Type 0
IntervalBelow i j = (i.lo ≤ˢ j.lo) × (j.hi ≤ i.hi)

-- the same atom, and the second list is a part of the first
abbrev pub NeedBelow : Need → Need → Type 0
NeedBelow n m = (m.atom ≡ n.atom) × Part m.cands n.cands

-- the same kind, and all of the second token is below the first
abbrev pub TokenBelow : Token → Token → Type 0
TokenBelow t u = (u.kind ≡ t.kind) × IntervalBelow t.span u.span × AllZip NeedBelow t.lists u.lists

-- sheet b is below sheet a
pub record IsBelowSheet (a b : Sheet) : Type 0 where
  pub bound : b.bound ≡ a.bound
  pub tokens : AllZip TokenBelow a.tokens b.tokens
  pub outs : AllZip IntervalBelow a.outs b.outs
  pub orders : (x y : ℕ) → before a x y ≡ true → before b x y ≡ true
