-- decisions keep a sheet formed
use Rattle.std.proofs.Common.{◌≡◌, ◌≢◌, ℕ, ◌+◌, ◌≤◌, ◌<◌, List, [], ◌∷◌, Bool, true, false, if◌then◌else◌, length, map, refl, sym, ◌∙◌, ap, subst, arith, inl, inr, ◌⊎◌, length-append, length-set}
use Rattle.std.proofs.lemmas.List.{length-map}
use Rattle.std.proofs.Common.{Result, Ok, Err}
use Rattle.std.specs.Prelude.{OnOk}
use Rattle.cpt_task.specs.declared.memory.Memory.{Memory}
use Rattle.std.proofs.lemmas.Bool.{cases_lt, or_cases, or_left, or_right}
use Rattle.cpt_task.specs.Shape.{TaskShape}
use Rattle.cpt_tables.specs.Spans.{IsBelow}
use Rattle.cpt_tables.specs.Admissible.{nth_action}
use Rattle.cpt_sheet.specs.declared.data.Cand.{Cand}
use Rattle.cpt_sheet.specs.declared.data.Cand.TheVariants.{Tok, Out}
use Rattle.cpt_sheet.specs.declared.data.Kind.TheVariants.{Act}
use Rattle.cpt_sheet.specs.declared.data.Interval.{Interval}
use Rattle.cpt_sheet.specs.declared.data.Need.{Need}
use Rattle.cpt_sheet.specs.declared.data.Token.{Token}
use Rattle.cpt_sheet.specs.declared.data.Sheet.{Sheet}
use Rattle.cpt_sheet.specs.declared.data.Decision.{Decision}
use Rattle.cpt_sheet.specs.declared.data.Decision.TheVariants.{Join, Bring, Before}
use Rattle.cpt_sheet.specs.Roles.{Adds, needs_of}
use Rattle.cpt_sheet.specs.View.{kind_of, token_at, no_token, no_span, span_of, has, same, has_order, before, cands, list_for, lo, hi}
use Rattle.cpt_sheet.specs.Edits.{posted, with_order, revised}
use Rattle.cpt_sheet.specs.Formed.{IsFormed, IsActionOf, CanAdd, Precedes, IsAscending, IsIncreasing, IsPlaced}
use Rattle.cpt_sheet.proofs.FormedLemmas.{lo_below}
use Rattle.cpt_calculus.specs.Decisions.{Fits, applied, brought, behind_tokens, beside, offered, with_offers, joined, with_new}
use Rattle.cpt_calculus.proofs.Parts.{same_is, same_self}
use Rattle.cpt_calculus.proofs.Orders.{increasing_with}
use Rattle.cpt_calculus.proofs.Below.{posted_more, posted_here, posted_cases}
use Rattle.cpt_calculus.proofs.Brings.{map_at, offer_list, offered_atoms}
use Rattle.cpt_calculus.proofs.Reading.{cand_there}
use Rattle.cpt_calculus.proofs.Views.{kind_with_list, span_with_list, atoms_with_list, cands_with_list}
use Rattle.cpt_calculus.proofs.Keeps.{list_formed, posted_formed}
use Rattle.cpt_calculus.proofs.Adders.{IsAdderIn, made_adder, made_ascending, atoms_made, has_one, ascending_one}
use Rattle.cpt_calculus.proofs.Snocs.{SnocAt, snoc_at}
use Rattle.cpt_calculus.proofs.Snocs.SnocAt.{old, newest, past}

-- a join
join_formed : (t : TaskShape) (s : Sheet) (x p y : ℕ) → IsFormed t s → has (Tok y) (cands s x p) ≡ true → IsFormed t (joined s x p y)
join_formed t s x p y f h =
    list_formed t s x p (λ cs. Tok y ∷ []) f (λ c k. subst (λ z. has z (cands s x p) ≡ true) (has_one c (Tok y) k) h) (ascending_one (Tok y))

-- a token behind the tokens of a list
behind_member : (n : ℕ) (c : Cand) (cs : List Cand) → has c (behind_tokens n cs) ≡ true → (has c cs ≡ true) ⊎ (Tok n ≡ c)
behind_member n c [] h = inr (has_one c (Tok n) h)
behind_member n c (Tok y ∷ cs) h =
    elim (or_cases (same (Tok y) c) (has c (behind_tokens n cs)) h) [
      | inl k ↦ inl (or_left (same (Tok y) c) (has c cs) k)
      | inr k ↦ elim (behind_member n c cs k) [ inl m ↦ inl (or_right (same (Tok y) c) (has c cs) m) | inr m ↦ inr m ]
    ]
behind_member n c (Out a ∷ cs) h =
    elim (or_cases (same (Tok n) c) (has c (Out a ∷ cs)) h) [ inl k ↦ inr (same_is (Tok n) c k) | inr k ↦ inl k ]

-- the tokens of the list are below n
abbrev AreBelow : ℕ → List Cand → Type 0
AreBelow n cs = (y : ℕ) → has (Tok y) cs ≡ true → y < n

below_rest : (n : ℕ) (c : Cand) (cs : List Cand) → AreBelow n (c ∷ cs) → AreBelow n cs
below_rest n c cs h y k = h y (or_right (same c (Tok y)) (has (Tok y) cs) k)

-- behind an outside action stand no tokens
out_first : (a : ℕ) (n : ℕ) (d : Cand) (cs : List Cand) → IsAscending (Out a ∷ cs) → has d (Out a ∷ cs) ≡ true → Precedes (Tok n) d
out_first a n (Out e) cs h k = tt
out_first a n (Tok e) cs h k = elim (or_cases (same (Out a) (Tok e)) (has (Tok e) cs) k) [ inl m ↦ cc | inr m ↦ absurd (h.0 (Tok e) m) ]

behind_ascending : (n : ℕ) (cs : List Cand) → AreBelow n cs → IsAscending cs → IsAscending (behind_tokens n cs)
behind_ascending n [] b h = ascending_one (Tok n)
behind_ascending n (Tok y ∷ cs) b h = (
  (λ d k. elim (behind_member n d cs k) [
    | inl m ↦ h.0 d m
    | inr e ↦ subst (λ z. Precedes (Tok y) z) e (b y (or_left (same (Tok y) (Tok y)) (has (Tok y) cs) (same_self (Tok y))))
  ]),
  behind_ascending n cs (below_rest n (Tok y) cs b) h.1,
)
behind_ascending n (Out a ∷ cs) b h = ((λ d k. out_first a n d cs h k), h)

beside_member : (a n : ℕ) (c : Cand) (cs : List Cand) → has c (beside a n cs) ≡ true → (has c cs ≡ true) ⊎ ((Tok n ≡ c) × (has (Out a) cs ≡ true))
beside_member a n c cs h = go (has (Out a) cs) refl h
  where
    go : (b : Bool) → has (Out a) cs ≡ b → has c (if b then behind_tokens n cs else cs) ≡ true → (has c cs ≡ true) ⊎ ((Tok n ≡ c) × (has (Out a) cs ≡ true))
    go true e k = elim (behind_member n c cs k) [ inl m ↦ inl m | inr m ↦ inr (m, e) ]
    go false e k = inl k

beside_ascending : (a n : ℕ) (cs : List Cand) → AreBelow n cs → IsAscending cs → IsAscending (beside a n cs)
beside_ascending a n cs b h = go (has (Out a) cs)
  where
    go : (c : Bool) → IsAscending (if c then behind_tokens n cs else cs)
    go true = behind_ascending n cs b h
    go false = h

-- the tokens with the offers
token_offered : (s : Sheet) (a n y : ℕ) → token_at (with_offers s a n) y ≡ offered a n (token_at s y)
token_offered s a n y = map_at a n s.tokens y

increasing_posted : (x y : ℕ) (os : List (ℕ × ℕ)) → IsIncreasing os → IsIncreasing (posted x y os)
increasing_posted x y os h = go (has_order x y os) refl
  where
    go : (b : Bool) → has_order x y os ≡ b → IsIncreasing (if b then os else with_order x y os)
    go true e = h
    go false e = increasing_with x y os e h

module _ (t : TaskShape) (s : Sheet) (x p a : ℕ) (f : IsFormed t s) (h : has (Out a) (cands s x p) ≡ true) where
  abbrev n : ℕ
  n = length s.tokens

  abbrev mid : Sheet
  mid = joined (with_offers s a n) x p n

  abbrev all : Sheet
  all = with_new mid (brought t s a) x

  there : x < n
  there = cand_there s x p (Out a) h

  adds_here : (y q : ℕ) → has (Out a) (cands s y q) ≡ true → (a < length t.actions) × Adds t (Act a) q
  adds_here y q k = f.supply y q (Out a) k

  mid_count : length mid.tokens ≡ n
  mid_count = length-set (with_offers s a n).tokens x (record (token_at (with_offers s a n) x) { lists = revised p (λ cs. Tok n ∷ []) (token_at (with_offers s a n) x).lists }) ∙ length-map s.tokens (offered a n)

  all_count : length all.tokens ≡ n + 1
  all_count = let e = mid_count in let k = length-append mid.tokens (brought t s a ∷ []) in omega arith

  mid_kind : (y : ℕ) → kind_of mid (Tok y) ≡ kind_of s (Tok y)
  mid_kind y = kind_with_list (with_offers s a n) x p (λ cs. Tok n ∷ []) y ∙ ap (λ (z : Token). z.kind) (token_offered s a n y)

  mid_span : (y : ℕ) → span_of mid (Tok y) ≡ span_of s (Tok y)
  mid_span y = span_with_list (with_offers s a n) x p (λ cs. Tok n ∷ []) (Tok y) ∙ ap (λ (z : Token). z.span) (token_offered s a n y)

  mid_atoms : (y : ℕ) → map (λ (m : Need). m.atom) (token_at mid y).lists ≡ map (λ (m : Need). m.atom) (token_at s y).lists
  mid_atoms y =
      atoms_with_list (with_offers s a n) x p (λ cs. Tok n ∷ []) y
      ∙ (ap (λ (z : Token). map (λ (m : Need). m.atom) z.lists) (token_offered s a n y) ∙ offered_atoms a n (token_at s y).lists)

  offers_cands : (y q : ℕ) → cands (with_offers s a n) y q ≡ beside a n (cands s y q)
  offers_cands y q = ap (λ (z : Token). list_for q z.lists) (token_offered s a n y) ∙ offer_list a n q (token_at s y).lists

  -- the list is the old one with the offer, or it is the named one
  mid_cands : (y q : ℕ) → (cands mid y q ≡ beside a n (cands s y q)) ⊎ ((y ≡ x) × (q ≡ p) × (cands mid y q ≡ Tok n ∷ []))
  mid_cands y q =
      elim (cands_with_list (with_offers s a n) x p (λ cs. Tok n ∷ []) y q)
      [ inl e ↦ inl (e ∙ offers_cands y q) | inr e ↦ inr e ]

  all_at : (y : ℕ) → SnocAt mid.tokens (brought t s a) no_token y (token_at all y)
  all_at y = snoc_at mid.tokens (brought t s a) no_token y

  at_old : (y : ℕ) → y < n → token_at all y ≡ token_at mid y
  at_old y lt = go (all_at y)
    where
      go : SnocAt mid.tokens (brought t s a) no_token y (token_at all y) → token_at all y ≡ token_at mid y
      go (old l e) = e
      go (newest l e) = let k = mid_count in absurd (omega arith)
      go (past l e) = let k = mid_count in absurd (omega arith)

  at_new : (y : ℕ) → y ≡ n → token_at all y ≡ brought t s a
  at_new y same = go (all_at y)
    where
      go : SnocAt mid.tokens (brought t s a) no_token y (token_at all y) → token_at all y ≡ brought t s a
      go (old l e) = let k = mid_count in absurd (omega arith)
      go (newest l e) = e
      go (past l e) = let k = mid_count in absurd (omega arith)

  at_far : (y : ℕ) → n < y → token_at all y ≡ no_token
  at_far y lt = go (all_at y)
    where
      go : SnocAt mid.tokens (brought t s a) no_token y (token_at all y) → token_at all y ≡ no_token
      go (old l e) = let k = mid_count in absurd (omega arith)
      go (newest l e) = let k = mid_count in absurd (omega arith)
      go (past l e) = e

  kind_old : (y : ℕ) → y < n → kind_of all (Tok y) ≡ kind_of s (Tok y)
  kind_old y lt = ap (λ (z : Token). z.kind) (at_old y lt) ∙ mid_kind y

  kind_new : (y : ℕ) → y ≡ n → kind_of all (Tok y) ≡ Act a
  kind_new y e = ap (λ (z : Token). z.kind) (at_new y e)

  lift : (y q : ℕ) (c : Cand) → CanAdd t s y q c → CanAdd t all y q c
  lift y q (Tok z) k = let e = all_count in let l = k.0 in (omega arith, k.1, subst (λ j. Adds t j q) (sym (kind_old z k.0)) k.2)
  lift y q (Out o) k = k

  new_adds : (y q : ℕ) → y ≢ n → Adds t (Act a) q → CanAdd t all y q (Tok n)
  new_adds y q ne k = let e = all_count in (omega arith, (λ m. ne (sym m)), subst (λ j. Adds t j q) (sym (kind_new n refl)) k)

  old_supply : (y q : ℕ) (c : Cand) → y < n → has c (cands mid y q) ≡ true → CanAdd t all y q c
  old_supply y q c lt k =
      elim (mid_cands y q) [
        | inl e ↦ elim (beside_member a n c (cands s y q) (subst (λ (l : List Cand). has c l ≡ true) e k)) [
          | inl m ↦ lift y q c (f.supply y q c m)
          | inr m ↦ subst (λ z. CanAdd t all y q z) m.0 (new_adds y q (λ j. omega arith) (adds_here y q m.1).1)
        ]
        | inr e ↦ subst (λ z. CanAdd t all y q z) (has_one c (Tok n) (subst (λ (l : List Cand). has c l ≡ true) e.2 k))
            (new_adds y q (λ j. omega arith) (subst (λ z. Adds t (Act a) z) (sym e.1) (adds_here x p h).1))
      ]

  new_supply : (y q : ℕ) (c : Cand) → y ≡ n → IsAdderIn t s q c → CanAdd t all y q c
  new_supply y q (Tok z) e k = let m = all_count in let l = k.0 in (omega arith, (λ j. omega arith), subst (λ j. Adds t j q) (sym (kind_old z k.0)) k.1)
  new_supply y q (Out o) e k = k

  old_below : (y q : ℕ) → AreBelow n (cands s y q)
  old_below y q z k = (f.supply y q (Tok z) k).0

  all_supply : (y q : ℕ) (c : Cand) → has c (cands all y q) ≡ true → CanAdd t all y q c
  all_supply y q c k =
      elim (cases_lt y n) [
        | inl l ↦ old_supply y q c l (subst (λ (z : Token). has c (list_for q z.lists) ≡ true) (at_old y l) k)
        | inr m ↦ elim (cases_lt n y) [
          | inl l ↦ absurd (let e : has c (list_for q no_token.lists) ≡ true = subst (λ (z : Token). has c (list_for q z.lists) ≡ true) (at_far y l) k in cc)
          | inr l ↦ (let e : y ≡ n = omega arith in
              new_supply y q c e (made_adder t s q (nth_action t a).pre c (subst (λ (z : Token). has c (list_for q z.lists) ≡ true) (at_new y e) k)))
        ]
      ]

  all_ascending : (y q : ℕ) → IsAscending (cands all y q)
  all_ascending y q =
      elim (cases_lt y n) [
        | inl l ↦ subst (λ (z : Token). IsAscending (list_for q z.lists)) (sym (at_old y l))
            (elim (mid_cands y q) [
              | inl e ↦ subst (λ (z : List Cand). IsAscending z) (sym e) (beside_ascending a n (cands s y q) (old_below y q) (f.ascending y q))
              | inr e ↦ subst (λ (z : List Cand). IsAscending z) (sym e.2) (ascending_one (Tok n))
            ])
        | inr m ↦ elim (cases_lt n y) [
          | inl l ↦ subst (λ (z : Token). IsAscending (list_for q z.lists)) (sym (at_far y l)) tt
          | inr l ↦ (let e : y ≡ n = omega arith in
              subst (λ (z : Token). IsAscending (list_for q z.lists)) (sym (at_new y e)) (made_ascending t s q (nth_action t a).pre))
        ]
      ]

  -- the interval of a token is an old one
  all_span : (y : ℕ) → (span_of all (Tok y) ≡ span_of s (Tok y)) ⊎ ((span_of all (Tok y) ≡ span_of s (Out a)) ⊎ (span_of all (Tok y) ≡ no_span))
  all_span y =
      elim (cases_lt y n) [
        | inl l ↦ inl (ap (λ (z : Token). z.span) (at_old y l) ∙ mid_span y)
        | inr m ↦ elim (cases_lt n y) [
          | inl l ↦ inr (inr (ap (λ (z : Token). z.span) (at_far y l)))
          | inr l ↦ (let e : y ≡ n = omega arith in inr (inl (ap (λ (z : Token). z.span) (at_new y e))))
        ]
      ]

  all_within : (c : Cand) → hi all c ≤ s.bound
  all_within (Tok y) =
      elim (all_span y) [
        | inl e ↦ subst (λ (z : Interval). z.hi ≤ s.bound) (sym e) (f.within (Tok y))
        | inr k ↦ elim k [
          | inl e ↦ subst (λ (z : Interval). z.hi ≤ s.bound) (sym e) (f.within (Out a))
          | inr e ↦ subst (λ (z : Interval). z.hi ≤ s.bound) (sym e) (omega arith)
        ]
      ]
  all_within (Out o) = f.within (Out o)

  all_below : (y : ℕ) → IsBelow 4000000000000000 (lo all (Tok y))
  all_below y =
      elim (all_span y) [
        | inl e ↦ subst (λ (z : Interval). IsBelow 4000000000000000 z.lo) (sym e) (f.tokens_below y)
        | inr k ↦ elim k [
          | inl e ↦ subst (λ (z : Interval). IsBelow 4000000000000000 z.lo) (sym e) (lo_below t s (Out a) f)
          | inr e ↦ subst (λ (z : Interval). IsBelow 4000000000000000 z.lo) (sym e) tt
        ]
      ]

  all_needs : (y : ℕ) → y < length all.tokens → map (λ (m : Need). m.atom) (token_at all y).lists ≡ needs_of t (kind_of all (Tok y))
  all_needs y lt =
      elim (cases_lt y n) [
        | inl l ↦ ap (λ (z : Token). map (λ (m : Need). m.atom) z.lists) (at_old y l) ∙ (mid_atoms y ∙ (f.needs y l ∙ ap (λ k. needs_of t k) (sym (kind_old y l))))
        | inr m ↦ (let k = all_count in let e : y ≡ n = omega arith in
            ap (λ (z : Token). map (λ (m : Need). m.atom) z.lists) (at_new y e) ∙ (atoms_made t s (nth_action t a).pre ∙ ap (λ k. needs_of t k) (sym (kind_new y e))))
      ]

  all_actions : (y : ℕ) → 2 ≤ y → y < length all.tokens → IsActionOf t (kind_of all (Tok y))
  all_actions y two lt =
      elim (cases_lt y n) [
        | inl l ↦ subst (λ k. IsActionOf t k) (sym (kind_old y l)) (f.actions y two l)
        | inr m ↦ (let k = all_count in let e : y ≡ n = omega arith in
            (a, kind_new y e, (adds_here x p h).0))
      ]

  placed_old : (u v : ℕ) → IsPlaced s u v → IsPlaced all u v
  placed_old u v k = let e = all_count in let i = k.first in let j = k.second in
      record { first = omega arith; second = omega arith; different = k.different; forward = k.forward }

  placed_after_start : IsPlaced all 0 n
  placed_after_start = let e = all_count in let k = f.two in
      record { first = omega arith; second = omega arith; different = λ m. omega arith; forward = λ m. (let l = m.0 in omega arith) }

  placed_before_end : IsPlaced all n 1
  placed_before_end = let e = all_count in let k = f.two in
      record { first = omega arith; second = omega arith; different = λ m. omega arith; forward = λ m. (let l = m.1 in omega arith) }

  placed_before_user : IsPlaced all n x
  placed_before_user = let e = all_count in let k = f.two in let i = there in
      record { first = omega arith; second = omega arith; different = λ m. omega arith; forward = λ m. (let l = m.0 in omega arith) }

  -- the number of the new token is that of the tokens before
  orders_are : all.orders ≡ posted n x (posted n 1 (posted 0 n s.orders))
  orders_are = ap (λ k. posted k x (posted k 1 (posted 0 k s.orders))) mid_count

  named : (u v : ℕ) → has_order u v (posted n x (posted n 1 (posted 0 n s.orders))) ≡ true → before all u v ≡ true
  named u v k = subst (λ (os : List (ℕ × ℕ)). has_order u v os ≡ true) (sym orders_are) k

  all_orders : (u v : ℕ) → before all u v ≡ true → IsPlaced all u v
  all_orders u v k =
      elim (posted_cases n x u v (posted n 1 (posted 0 n s.orders)) (subst (λ (os : List (ℕ × ℕ)). has_order u v os ≡ true) orders_are k)) [
        | inl e ↦ subst (λ z. IsPlaced all z v) e.0 (subst (λ z. IsPlaced all n z) e.1 placed_before_user)
        | inr k1 ↦ elim (posted_cases n 1 u v (posted 0 n s.orders) k1) [
          | inl e ↦ subst (λ z. IsPlaced all z v) e.0 (subst (λ z. IsPlaced all n z) e.1 placed_before_end)
          | inr k2 ↦ elim (posted_cases 0 n u v s.orders k2) [
            | inl e ↦ subst (λ z. IsPlaced all z v) e.0 (subst (λ z. IsPlaced all 0 z) e.1 placed_after_start)
            | inr k3 ↦ placed_old u v (f.orders u v k3)
          ]
        ]
      ]

  all_more : (u v : ℕ) → before s u v ≡ true → before all u v ≡ true
  all_more u v k = named u v (posted_more n x u v (posted n 1 (posted 0 n s.orders)) (posted_more n 1 u v (posted 0 n s.orders) (posted_more 0 n u v s.orders k)))

  all_after_start : (y : ℕ) → 2 ≤ y → y < length all.tokens → before all 0 y ≡ true
  all_after_start y two lt =
      elim (cases_lt y n) [
        | inl l ↦ all_more 0 y (f.after_start y two l)
        | inr m ↦ (let k = all_count in let e : n ≡ y = omega arith in
            subst (λ z. before all 0 z ≡ true) e (named 0 n (posted_more n x 0 n (posted n 1 (posted 0 n s.orders)) (posted_more n 1 0 n (posted 0 n s.orders) (posted_here 0 n s.orders)))))
      ]

  all_before_end : (y : ℕ) → 2 ≤ y → y < length all.tokens → before all y 1 ≡ true
  all_before_end y two lt =
      elim (cases_lt y n) [
        | inl l ↦ all_more y 1 (f.before_end y two l)
        | inr m ↦ (let k = all_count in let e : n ≡ y = omega arith in
            subst (λ z. before all z 1 ≡ true) e (named n 1 (posted_more n x n 1 (posted n 1 (posted 0 n s.orders)) (posted_here n 1 (posted 0 n s.orders)))))
      ]

  pub bring_formed : IsFormed t all
  bring_formed = record {
    two = (let e = all_count in let k = f.two in omega arith);
    start = kind_old 0 (let k = f.two in omega arith) ∙ f.start;
    end = kind_old 1 (let k = f.two in omega arith) ∙ f.end;
    actions = all_actions;
    outs = f.outs;
    needs = all_needs;
    supply = all_supply;
    ascending = all_ascending;
    bound = f.bound;
    within = all_within;
    outs_below = f.outs_below;
    tokens_below = all_below;
    orders = all_orders;
    increasing = subst (λ (os : List (ℕ × ℕ)). IsIncreasing os) (sym orders_are) (increasing_posted n x (posted n 1 (posted 0 n s.orders)) (increasing_posted n 1 (posted 0 n s.orders) (increasing_posted 0 n s.orders f.increasing)));
    ends = all_more 0 1 f.ends;
    after_start = all_after_start;
    before_end = all_before_end;
  }

-- a decision that fits keeps a sheet formed
pub applied_formed : (t : TaskShape) (s : Sheet) (d : Decision) → Fits s d → IsFormed t s → IsFormed t (applied t s d)
applied_formed t s (Join x p y) h f = join_formed t s x p y f h
applied_formed t s (Bring x p a) h f = bring_formed t s x p a f h
applied_formed t s (Before x y) h f = posted_formed t s x y f h

pub apply_ok : (t : TaskShape) (s u : Sheet) (d : Decision) (r : Result (Unit {0}) Memory) → Fits s d → OnOk r (u ≡ applied t s d) → OnOk r (IsFormed t s → IsFormed t u)
apply_ok t s u d (Ok x) h e = λ f. subst (λ (z : Sheet). IsFormed t z) (sym e) (applied_formed t s d h f)
apply_ok t s u d (Err x) h e = e
