-- a legal step is a change that can be made
use Rattle.std.proofs.Common.{◌≡◌, ℕ, ◌≤◌, List, [], true, length, slice_get, ◌∷◌, refl, sym, ap, subst, arith, inl, inr}
use Rattle.std.proofs.lemmas.Bool.{cases_lt, false≢true}
use Rattle.cpt_task.specs.declared.span.Span.{Span}
use Rattle.cpt_task.specs.declared.span.Span.TheVariants.{At, Never}
use Rattle.cpt_task.specs.Shape.{TaskShape}
use Rattle.cpt_tables.specs.declared.tables.Tables.{Tables}
use Rattle.cpt_tables.specs.Spans.{◌<ˢ◌, IsBelow}
use Rattle.cpt_sheet.specs.declared.data.Cand.{Cand}
use Rattle.cpt_sheet.specs.declared.data.Cand.TheVariants.{Tok, Out}
use Rattle.cpt_sheet.specs.declared.data.Change.TheVariants.{Raise, Lower, Take}
use Rattle.cpt_sheet.specs.declared.data.Interval.{Interval}
use Rattle.cpt_sheet.specs.declared.data.Sheet.{Sheet}
use Rattle.cpt_sheet.specs.declared.data.Step.{Step}
use Rattle.cpt_sheet.specs.declared.data.Step.TheVariants.{R1, R2, R3, R4, R5, R6, R7, R8, R9After, R9Ahead, R10, R11After, R11Ahead, R12After, R12Ahead, R13}
use Rattle.cpt_sheet.specs.declared.data.Token.{Token}
use Rattle.cpt_sheet.specs.Formed.{IsFormed, IsPlaced}
use Rattle.cpt_sheet.specs.View.{cands, has, hi, list_for, lo, no_span, no_token}
use Rattle.cpt_sheet.proofs.FormedLemmas.{at_past}
use Rattle.cpt_calculus.specs.Rules.{Allowed, IsLegal, Moves, change_of, only}
use Rattle.cpt_calculus.proofs.Keeps.{place_after, place_ahead, place_clash, place_lone}
use Rattle.cpt_layout.specs.Puts.{CanMake, IsSpanOf}
use Rattle.cpt_layout.specs.Sheets.{IsSmall}
use Rattle.cpt_cells.specs.Lists.{token_of}

small : (n : ℕ) (v : Span) → n ≤ 4000000000000000 → IsBelow n v → IsSmall v
small n (At m) l h = λ e. omega arith
small n Never l h = tt

raise_there : (s : Sheet) (c : Cand) (v : Span) → lo s c <ˢ v → IsSpanOf s c
raise_there s (Tok x) v h = elim (cases_lt x (length s.tokens)) [ inl l ↦ l | inr m ↦ absurd (subst (λ (z : Token). z.span.lo <ˢ v) (at_past s.tokens no_token x m) h) ]
raise_there s (Out a) v h = elim (cases_lt a (length s.outs)) [ inl l ↦ l | inr m ↦ absurd (subst (λ (z : Interval). z.lo <ˢ v) (at_past s.outs no_span a m) h) ]

zero_low : (v : Span) → v <ˢ At 0 → ⊥
zero_low (At m) h = omega arith
zero_low Never h = h

lower_there : (s : Sheet) (c : Cand) (v : Span) → v <ˢ At (hi s c) → IsSpanOf s c
lower_there s (Tok x) v h = elim (cases_lt x (length s.tokens)) [ inl l ↦ l | inr m ↦ absurd (zero_low v (subst (λ (z : Token). v <ˢ At z.span.hi) (at_past s.tokens no_token x m) h)) ]
lower_there s (Out a) v h = elim (cases_lt a (length s.outs)) [ inl l ↦ l | inr m ↦ absurd (zero_low v (subst (λ (z : Interval). v <ˢ At z.hi) (at_past s.outs no_span a m) h)) ]

can_lower : (s : Sheet) (c : Cand) (v : Span) → v <ˢ At (hi s c) → CanMake s (Lower c v)
can_lower s c (At m) h = lower_there s c (At m) h
can_lower s c Never h = h

can_take : (s : Sheet) (x p : ℕ) (c : Cand) → has c (cands s x p) ≡ true → CanMake s (Take x p c)
can_take s x p c h = (elim (cases_lt x (length s.tokens)) [ inl l ↦ l | inr m ↦ absurd (false≢true (subst (λ (z : Token). has c (list_for p z.lists) ≡ true) (at_past s.tokens no_token x m) h)) ], h)

can_raise : (s : Sheet) (c : Cand) (v : Span) (n : ℕ) → lo s c <ˢ v → n ≤ 4000000000000000 → IsBelow n v → CanMake s (Raise c v)
can_raise s c v n m l b = (raise_there s c v m, small n v l b)

pub can_make : (t : TaskShape) (w : Tables) (s : Sheet) (step : Step) → IsFormed t s → IsLegal t w s step → CanMake s (change_of s step)
can_make t w s step f legal = go step legal.allowed legal.moves
  where
    go : (step : Step) → Allowed t w s step → Moves s (change_of s step) → CanMake s (change_of s step)
    go (R1 x y v) h m = can_raise s (Tok y) v 4000000000000000 m (omega arith) h.moment
    go (R2 x y v) h m = can_lower s (Tok x) v m
    go (R3 x y) h m = (place_clash t s f x y h.different h.clash, m)
    go (R4 x p v) h m = can_raise s (Tok x) v 4000000000000000 m (omega arith) h.moment
    go (R5 x p c) h m = can_take s x p c m
    go (R6 x p) h m = (subst (λ z. IsPlaced s z x) (sym (ap (λ l. only l) h.one.1)) (place_lone t s f x p h.one.0 h.need h.one.1), m)
    go (R7 x p a) h m = can_take s x p (Out a) m
    go (R8 x p c d) h m = can_take s x p c m
    go (R9After x p d) h m = (place_after t s f x p d h.0 h.1, m)
    go (R9Ahead x p d) h m = (subst (λ z. IsPlaced s d z) (sym (ap (λ l. only l) h.1.one)) (place_ahead t s f x p d h.0 h.1), m)
    go (R10 a p v) h m = can_raise s (Out a) v 2000000000000000 m (omega arith) h.moment
    go (R11After x p a v) h m = can_raise s (Out a) v 2000000000000000 m (omega arith) h.3.moment
    go (R11Ahead x p a v) h m = can_lower s (Out a) v m
    go (R12After x a v) h m = can_raise s (Out a) v 2000000000000000 m (omega arith) h.after.moment
    go (R12Ahead x a v) h m = can_lower s (Out a) v m
    go (R13 x p c q) h m = can_take s x p c m

-- the token that a list begins with
pub only_is : (cs : List Cand) → token_of (slice_get cs 0) ≡ only cs
only_is [] = refl
only_is (Tok y ∷ cs) = refl
only_is (Out a ∷ cs) = refl

pub only_past : (s : Sheet) (x p : ℕ) → length s.tokens ≤ x → 0 ≡ only (cands s x p)
only_past s x p l = sym (ap (λ (z : Token). only (list_for p z.lists)) (at_past s.tokens no_token x l))
