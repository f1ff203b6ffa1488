-- what lies below a sheet, by what is read of it
use Rattle.std.proofs.Common.{◌≡◌, ◌≢◌, ℕ, suc, zero, ◌≤◌, ◌<◌, List, [], ◌∷◌, Bool, true, false, ◌||◌, ◌&&◌, ◌==◌, if◌then◌else◌, Some, slice_get, unwrap_or, length, refl, sym, ◌∙◌, ap, subst, arith, inl, inr, ◌⊎◌}
use Rattle.std.specs.List.{AllZip, AllByRecursion as ByRecursion, find}
use Rattle.std.specs.Option.{option_map_or}
use Rattle.std.proofs.lemmas.Bool.{cases_lt, or_cases, or_left, or_right, and_parts, and_from, eqb-true, eq-eqb}
use Rattle.std.proofs.lemmas.List.Elements.{recursion_from_All}
use Rattle.cpt_tables.specs.Spans.{◌≤ˢ◌}
use Rattle.cpt_tables.proofs.SpanLemmas.{le_refl}
use Rattle.cpt_sheet.specs.declared.data.Cand.{Cand}
use Rattle.cpt_sheet.specs.declared.data.Cand.TheVariants.{Tok, Out}
use Rattle.cpt_sheet.specs.declared.data.Interval.{Interval}
use Rattle.cpt_sheet.specs.declared.data.Need.{Need}
use Rattle.cpt_sheet.specs.declared.data.Token.{Token}
use Rattle.cpt_sheet.specs.declared.data.Sheet.{Sheet}
use Rattle.cpt_sheet.specs.View.{lo, hi, kind_of, cands, has_need, has_atom, list_for, span_of, token_at, no_token, no_span, has_order, pair_lt}
use Rattle.cpt_sheet.specs.Edits.{with_order, posted}
use Rattle.cpt_sheet.specs.Live.{IsLive, IsLiveToken}
use Rattle.cpt_sheet.specs.Below.{Part, IntervalBelow, NeedBelow, TokenBelow, IsBelowSheet}
use Rattle.cpt_sheet.specs.Below.Part.{done}
use Rattle.cpt_sheet.proofs.FormedLemmas.{at_past}
use Rattle.cpt_calculus.proofs.Zips.{zip_refl, zip_at}
use Rattle.cpt_calculus.proofs.Parts.{Part-refl}

pub interval_refl : (i : Interval) → IntervalBelow i i
interval_refl i = (le_refl i.lo, omega arith)

pub need_refl : (n : Need) → NeedBelow n n
need_refl n = (refl, Part-refl n.cands)

pub token_refl : (t : Token) → TokenBelow t t
token_refl t = (refl, interval_refl t.span, zip_refl NeedBelow need_refl t.lists)

pub list_cons : (q : ℕ) (n : Need) (ns : List Need) → list_for q (n ∷ ns) ≡ (if n.atom == q then n.cands else list_for q ns)
list_cons q n ns =
    elim (n.atom == q) as (λ t. option_map_or (λ m. m.cands) (if t then Some n else find (λ m. m.atom == q) ns) [] ≡ (if t then n.cands else list_for q ns))
    [ true ↦ refl | false ↦ refl ]

-- the lists of one atom
pub lists_part : (p : ℕ) (ns ms : List Need) → AllZip NeedBelow ns ms → Part (list_for p ms) (list_for p ns)
lists_part p [] [] h = done
lists_part p [] (m ∷ ms) h = absurd h
lists_part p (n ∷ ns) [] h = absurd h
lists_part p (n ∷ ns) (m ∷ ms) h =
    subst (λ l. Part l (list_for p (n ∷ ns))) (sym (list_cons p m ms))
    (subst (λ l. Part (if m.atom == p then m.cands else list_for p ms) l) (sym (list_cons p n ns))
    (subst (λ z. Part (if z == p then m.cands else list_for p ms) (if n.atom == p then n.cands else list_for p ns)) (sym h.0.0)
    (elim (n.atom == p) as (λ t. Part (if t then m.cands else list_for p ms) (if t then n.cands else list_for p ns))
    [ true ↦ h.0.1 | false ↦ lists_part p ns ms h.1 ])))

pub atoms_same : (p : ℕ) (ns ms : List Need) → AllZip NeedBelow ns ms → has_atom p ms ≡ has_atom p ns
atoms_same p [] [] h = refl
atoms_same p [] (m ∷ ms) h = absurd h
atoms_same p (n ∷ ns) [] h = absurd h
atoms_same p (n ∷ ns) (m ∷ ms) h = let e = atoms_same p ns ms h.1 in let k = h.0.0 in cc

-- a list of a live token is not empty
lists_live : (p : ℕ) (ns : List Need) → ByRecursion (λ n. n.cands ≢ []) ns → has_atom p ns ≡ true → list_for p ns ≢ []
lists_live p [] l h e = cc
lists_live p (n ∷ ns) l h e = go (n.atom == p) h (sym (list_cons p n ns) ∙ e) (λ k. lists_live p ns l.1 k)
  where
    go : (t : Bool) → (t || has_atom p ns) ≡ true → (if t then n.cands else list_for p ns) ≡ [] → (has_atom p ns ≡ true → list_for p ns ≢ []) → ⊥
    go true k e ih = l.0 e
    go false k e ih = ih k e

-- an element that is there
pub at_within : {X : Type 0} (xs : List X) (d : X) (P : X → Type 0) (i : ℕ) → ByRecursion P xs → i < length xs → P (unwrap_or (slice_get xs i) d)
at_within [] d P i h l = absurd (omega arith)
at_within (x ∷ xs) d P zero h l = h.0
at_within (x ∷ xs) d P (suc i) h l = at_within xs d P i h.1 (omega arith)

pub live_lists : (s : Sheet) → IsLive s → (x p : ℕ) → has_need s x p ≡ true → cands s x p ≢ []
live_lists s live x p h =
    elim (cases_lt x (length s.tokens)) [
      | inl l ↦ lists_live p (token_at s x).lists (recursion_from_All (λ n. n.cands ≢ []) (token_at s x).lists (at_within s.tokens no_token IsLiveToken x (recursion_from_All IsLiveToken s.tokens live) l).1) h
      | inr m ↦ absurd (let e : has_atom p no_token.lists ≡ true = subst (λ t. has_atom p t.lists ≡ true) (at_past s.tokens no_token x m) h in cc)
    ]

module _ (a b : Sheet) (below : IsBelowSheet a b) where
  pub token_below : (x : ℕ) → TokenBelow (token_at a x) (token_at b x)
  token_below x = zip_at TokenBelow no_token (token_refl no_token) a.tokens b.tokens x below.tokens

  pub span_below : (c : Cand) → IntervalBelow (span_of a c) (span_of b c)
  span_below (Tok x) = (token_below x).1
  span_below (Out y) = zip_at IntervalBelow no_span (interval_refl no_span) a.outs b.outs y below.outs

  pub kinds : (c : Cand) → kind_of b c ≡ kind_of a c
  kinds (Tok x) = (token_below x).0
  kinds (Out y) = refl

  pub los : (c : Cand) → lo a c ≤ˢ lo b c
  los c = (span_below c).0

  pub his : (c : Cand) → hi b c ≤ hi a c
  his c = (span_below c).1

  pub parts : (x p : ℕ) → Part (cands b x p) (cands a x p)
  parts x p = lists_part p (token_at a x).lists (token_at b x).lists (token_below x).2

  pub same_need : (x p : ℕ) → has_need b x p ≡ has_need a x p
  same_need x p = atoms_same p (token_at a x).lists (token_at b x).lists (token_below x).2

or_swap : (a b c : Bool) → (a || (b || c)) ≡ (b || (a || c))
or_swap true true c = refl
or_swap true false c = refl
or_swap false true c = refl
or_swap false false c = refl

-- the orders with one more are that one and the old ones
pub order_with : (x y u v : ℕ) (os : List (ℕ × ℕ)) → has_order u v (with_order x y os) ≡ (((x == u) && (y == v)) || has_order u v os)
order_with x y u v [] = refl
order_with x y u v (o ∷ os) =
    elim (pair_lt x y o.0 o.1)
    as (λ t. has_order u v (if t then ((x, y) ∷ (o ∷ os)) else (o ∷ with_order x y os)) ≡ (((x == u) && (y == v)) || has_order u v (o ∷ os))) [
      | true ↦ refl
      | false ↦ ap (λ t. ((o.0 == u) && (o.1 == v)) || t) (order_with x y u v os) ∙ or_swap ((o.0 == u) && (o.1 == v)) ((x == u) && (y == v)) (has_order u v os)
    ]

-- an order that stands is no news
stands_already : (x y u v : ℕ) (os : List (ℕ × ℕ)) → has_order x y os ≡ true → (t : Bool) → ((x == u) && (y == v)) ≡ t → has_order u v os ≡ (t || has_order u v os)
stands_already x y u v os h true e =
    let m = and_parts (x == u) (y == v) e in
    subst (λ z. has_order z v os ≡ true) (eqb-true x u m.0) (subst (λ z. has_order x z os ≡ true) (eqb-true y v m.1) h)
stands_already x y u v os h false e = refl

pub order_posted : (x y u v : ℕ) (os : List (ℕ × ℕ)) → has_order u v (posted x y os) ≡ (((x == u) && (y == v)) || has_order u v os)
order_posted x y u v os = go (has_order x y os) refl
  where
    go : (t : Bool) → has_order x y os ≡ t → has_order u v (if t then os else with_order x y os) ≡ (((x == u) && (y == v)) || has_order u v os)
    go true h = stands_already x y u v os h ((x == u) && (y == v)) refl
    go false h = order_with x y u v os

-- posting keeps orders
pub posted_more : (x y u v : ℕ) (os : List (ℕ × ℕ)) → has_order u v os ≡ true → has_order u v (posted x y os) ≡ true
posted_more x y u v os h = order_posted x y u v os ∙ or_right ((x == u) && (y == v)) (has_order u v os) h

pub posted_here : (x y : ℕ) (os : List (ℕ × ℕ)) → has_order x y (posted x y os) ≡ true
posted_here x y os = order_posted x y x y os ∙ or_left ((x == x) && (y == y)) (has_order x y os) (and_from (x == x) (y == y) (eq-eqb x x refl) (eq-eqb y y refl))

-- an order that stands after one was posted is that one or an old one
pub posted_cases : (x y u v : ℕ) (os : List (ℕ × ℕ)) → has_order u v (posted x y os) ≡ true → ((x ≡ u) × (y ≡ v)) ⊎ (has_order u v os ≡ true)
posted_cases x y u v os h =
    elim (or_cases ((x == u) && (y == v)) (has_order u v os) (sym (order_posted x y u v os) ∙ h)) [
      | inl m ↦ (let k = and_parts (x == u) (y == v) m in inl (eqb-true x u k.0, eqb-true y v k.1))
      | inr m ↦ inr m
    ]
