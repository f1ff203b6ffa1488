-- the plan of a leaf is valid
use Rattle.std.proofs.Common.{◌≡◌, ◌≢◌, ℕ, zero, suc, ◌+◌, ◌≤◌, ◌<◌, ◌==◌, ◌&&◌, ◌||◌, not, nat_lt, nat_eq, ◌⊎◌, inl, inr, Bool, true, false, List, [], ◌∷◌, length, map, Contains, slice_index_or, refl, sym, ap, ◌∙◌, subst, arith, eq-eqb, if◌then◌else◌}
use Rattle.std.specs.List.{All, list_any}
use Rattle.std.proofs.lemmas.Bool.{cases_order, cases_Bool, eqb-true, or_right, or_left, and_parts}
use Rattle.std.proofs.lemmas.List.Elements.{recursion_from_All}
use Rattle.std.proofs.lemmas.List.Folds.{list_any_at}
use Rattle.cpt_task.specs.declared.plan.Occ.{Occ}
use Rattle.cpt_task.specs.declared.span.Span.{Span}
use Rattle.cpt_task.specs.declared.span.Span.TheVariants.{At, Never}
use Rattle.cpt_task.specs.Interference.{Interferes}
use Rattle.cpt_task.specs.Shape.{TaskShape}
use Rattle.cpt_task.specs.Timeline.{idle, action_of, end_of, occurrence_at, makespan, is_in, adds_at, deletes_at, holds_at, HoldsFrom, IsMet, IsApart, IsOccurrence, HoldsThen, IsValid}
use Rattle.cpt_tables.specs.declared.tables.Tables.{Tables}
use Rattle.cpt_tables.specs.Spans.{◌≤ˢ◌, ◌<ˢ◌, ◌+ˢ◌}
use Rattle.cpt_tables.specs.Admissible.{nth_action}
use Rattle.cpt_tables.specs.Shapes.{most_dist}
use Rattle.cpt_tables.proofs.SpanLemmas.{le_cases}
use Rattle.cpt_sheet.specs.declared.data.Cand.{Cand}
use Rattle.cpt_sheet.specs.declared.data.Cand.TheVariants.{Tok, Out}
use Rattle.cpt_sheet.specs.declared.data.Kind.{Kind}
use Rattle.cpt_sheet.specs.declared.data.Kind.TheVariants.{Start, End, Act}
use Rattle.cpt_sheet.specs.declared.data.Need.{Need}
use Rattle.cpt_sheet.specs.declared.data.Sheet.{Sheet}
use Rattle.cpt_sheet.specs.declared.data.Step.TheVariants.{R1, R6}
use Rattle.cpt_sheet.specs.declared.data.Flaw.TheVariants.{Threat, OpenNeed, Clash as ClashFlaw}
use Rattle.cpt_sheet.specs.Gaps.{gap, reach, arrival}
use Rattle.cpt_sheet.specs.Live.{IsLiveToken}
use Rattle.cpt_sheet.specs.Roles.{needs_of, Adds, Deletes, Clash}
use Rattle.cpt_sheet.specs.View.{token_at, no_token, lo, hi, kind_of, same, has, has_need, has_atom, cands, before}
use Rattle.cpt_calculus.specs.Rules.{IsToken, only}
use Rattle.cpt_calculus.proofs.Below.{at_within, live_lists}
use Rattle.cpt_soundness.proofs.PlanLemmas.{end_le, nil_has}
use Rattle.cpt_outcome.specs.Leaves.{IsSolved, IsTokenMap}

-- how long what it stands for lasts
unfoldable pub lasts : TaskShape → Kind → ℕ
lasts t Start = 0
lasts t End = 0
lasts t (Act a) = (nth_action t a).dur

reach-long : (t : TaskShape) (b : Tables) (k : Kind) (ps : List ℕ) (m n : ℕ) → (At m +ˢ reach t b k ps) ≤ˢ At n → (m + lasts t k ≤ n) × (k ≢ End)
unfolding lasts
reach-long t b Start ps m n h = (go (reach t b Start ps) h, λ e. cc)
  where
    go : (v : Span) → (At m +ˢ v) ≤ˢ At n → m + 0 ≤ n
    go (At d) h = omega arith
    go Never h = absurd h
reach-long t b End ps m n h = absurd h
reach-long t b (Act a) ps m n h = (go (nat_lt a (length t.actions)) (most_dist b.dists a ps) h, λ e. cc)
  where
    go : (c : Bool) (v : Span) → (At m +ˢ (if c then At (nth_action t a).dur +ˢ v else Never)) ≤ˢ At n → m + (nth_action t a).dur ≤ n
    go true (At d) h = omega arith
    go true Never h = absurd h
    go false v h = absurd h

pub gap-long : (t : TaskShape) (b : Tables) (k l : Kind) (m n : ℕ) → (At m +ˢ gap t b k l) ≤ˢ At n → (m + lasts t k ≤ n) × (k ≢ End) × (l ≢ Start)
gap-long t b k Start m n h = absurd h
gap-long t b k End m n h = let r = reach-long t b k (needs_of t End) m n h in (r.0, r.1, λ e. cc)
gap-long t b k (Act c) m n h = let r = reach-long t b k (needs_of t (Act c)) m n h in (r.0, r.1, λ e. cc)

pub finite : (v : Span) (m : ℕ) → v ≤ˢ At m → (n : ℕ) × (v ≡ At n) × (n ≤ m)
finite (At n) m h = (n, refl, h)
finite Never m h = absurd h

pub next : (n : ℕ) (v : Span) → At n <ˢ v → At (suc n) ≤ˢ v
next n (At m) h = h
next n Never h = tt

clash-sym : (t : TaskShape) (k l : Kind) → Clash t k l → Clash t l k
clash-sym t Start l h = absurd h
clash-sym t End l h = absurd h
clash-sym t (Act a) Start h = absurd h
clash-sym t (Act a) End h = absurd h
clash-sym t (Act a) (Act c) h = record { first = h.second; second = h.first; interfere = record { interfere = advance h.interfere.interfere } }
  where
    advance : Interferes (nth_action t a) (nth_action t c) → Interferes (nth_action t c) (nth_action t a)
    advance (inl d) = inr d
    advance (inr d) = inl d

atom-listed : (p : ℕ) (ns : List Need) → Contains (map (λ (n : Need). n.atom) ns) p → has_atom p ns ≡ true
atom-listed p [] c = absurd (nil_has p c)
atom-listed p (n ∷ ns) (zero, lt, e) = or_left (n.atom == p) (has_atom p ns) (eq-eqb n.atom p e)
atom-listed p (n ∷ ns) (suc k, lt, e) = or_right (n.atom == p) (has_atom p ns) (atom-listed p ns (k, omega arith, e))

module _ (t : TaskShape) (b : Tables) (u : Sheet) (h : IsSolved t b u) where
  -- a token begins at a moment
  starts : (x : ℕ) → x < length u.tokens → (n : ℕ) × (lo u (Tok x) ≡ At n) × (n ≤ hi u (Tok x))
  starts x lt = finite (lo u (Tok x)) (hi u (Tok x)) (at_within u.tokens no_token IsLiveToken x (recursion_from_All IsLiveToken u.tokens h.live) lt).0

  -- rule 1 is done
  arrives : (x y : ℕ) → before u x y ≡ true → arrival t b u (Tok x) (Tok y) ≤ˢ lo u (Tok y)
  arrives x y o = go (le_cases (arrival t b u (Tok x) (Tok y)) (lo u (Tok y)))
    where
      s : (n : ℕ) × (lo u (Tok y) ≡ At n) × (n ≤ hi u (Tok y))
      s = starts y (h.formed.orders x y o).second

      go : (arrival t b u (Tok x) (Tok y) ≤ˢ lo u (Tok y)) ⊎ (lo u (Tok y) <ˢ arrival t b u (Tok x) (Tok y)) → arrival t b u (Tok x) (Tok y) ≤ˢ lo u (Tok y)
      go (inl le) = le
      go (inr lt) = absurd (h.closed (R1 x y (At (suc s.0))) refl (record {
        live = h.live;
        allowed = record { order = o; limit = next s.0 (arrival t b u (Tok x) (Tok y)) (subst (λ z. z <ˢ arrival t b u (Tok x) (Tok y)) s.1 lt); moment = omega (arith, s.2, h.formed.within (Tok y), h.formed.bound) };
        moves = subst (λ z. z <ˢ At (suc s.0)) (sym s.1) (omega arith);
      }))

  -- so the first token ends before the second begins
  after : (x y m n : ℕ) → before u x y ≡ true → lo u (Tok x) ≡ At m → lo u (Tok y) ≡ At n → (m + lasts t (kind_of u (Tok x)) ≤ n) × (kind_of u (Tok x) ≢ End) × (kind_of u (Tok y) ≢ Start)
  after x y m n o em en =
      gap-long t b (kind_of u (Tok x)) (kind_of u (Tok y)) m n (subst (λ z. (z +ˢ gap t b (kind_of u (Tok x)) (kind_of u (Tok y))) ≤ˢ At n) em (subst (λ z. arrival t b u (Tok x) (Tok y) ≤ˢ z) en (arrives x y o)))

  -- each list is one token
  one : (x p : ℕ) → has_need u x p ≡ true → (y : ℕ) × IsToken (cands u x p) y
  one x p n = go (cands u x p) (live_lists u h.live x p n) (λ none. h.flawless (OpenNeed x p) (live_lists u h.live x p n, none))
    where
      go : (cs : List Cand) → cs ≢ [] → (((y : ℕ) → IsToken cs y → ⊥) → ⊥) → (y : ℕ) × IsToken cs y
      go [] some not_open = absurd (some refl)
      go (Tok y ∷ []) some not_open = (y, refl)
      go (Tok y ∷ c ∷ cs) some not_open = absurd (not_open (λ z e. cc))
      go (Out a ∷ cs) some not_open = absurd (not_open (λ z e. cc))

  -- rule 6 is done
  supplied : (x p y : ℕ) → has_need u x p ≡ true → IsToken (cands u x p) y → before u y x ≡ true
  supplied x p y n e = go (cases_Bool (before u y x))
    where
      go : (before u y x ≡ true) ⊎ (before u y x ≡ false) → before u y x ≡ true
      go (inl o) = o
      go (inr o) = absurd (h.closed (R6 x p) refl (record { live = h.live; allowed = record { need = n; one = (y, e) }; moves = subst (λ z. before u (only z) x ≡ false) (sym e) o }))

  -- who supplies adds
  adds : (x p y : ℕ) → IsToken (cands u x p) y → (y < length u.tokens) × (y ≢ x) × Adds t (kind_of u (Tok y)) p
  adds x p y e = h.formed.supply x p (Tok y) (subst (λ z. has (Tok y) z ≡ true) (sym e) (or_left (y == y) false (eq-eqb y y refl)))

  -- no threat
  kept : (x p y d : ℕ) → has_need u x p ≡ true → IsToken (cands u x p) y → Deletes t (kind_of u (Tok d)) p → d ≢ x → d ≢ y → (before u d y ≡ true) ⊎ (before u x d ≡ true)
  kept x p y d n e del dx dy = go (cases_Bool (before u d y)) (cases_Bool (before u x d))
    where
      go : (before u d y ≡ true) ⊎ (before u d y ≡ false) → (before u x d ≡ true) ⊎ (before u x d ≡ false) → (before u d y ≡ true) ⊎ (before u x d ≡ true)
      go (inl o) q = inl o
      go (inr o) (inl q) = inr q
      go (inr o) (inr q) = absurd (h.flawless (Threat x p d) (y, record { need = n; one = e; deletes = del; other = dx; different = dy }, o, q))

  -- no clash
  ordered : (x y : ℕ) → x ≢ y → Clash t (kind_of u (Tok x)) (kind_of u (Tok y)) → (before u x y ≡ true) ⊎ (before u y x ≡ true)
  ordered x y ne c = go (cases_order x y) (cases_Bool (before u x y)) (cases_Bool (before u y x))
    where
      go : (x ≡ y) ⊎ ((x < y) ⊎ (y < x)) → (before u x y ≡ true) ⊎ (before u x y ≡ false) → (before u y x ≡ true) ⊎ (before u y x ≡ false) → (before u x y ≡ true) ⊎ (before u y x ≡ true)
      go o (inl p) q = inl p
      go o (inr p) (inl q) = inr q
      go (inl e) (inr p) (inr q) = absurd (ne e)
      go (inr (inl lt)) (inr p) (inr q) = absurd (h.flawless (ClashFlaw x y) (record { ordered = lt; interfere = c; not_first = p; not_last = q }))
      go (inr (inr lt)) (inr p) (inr q) = absurd (h.flawless (ClashFlaw y x) (record { ordered = lt; interfere = clash-sym t (kind_of u (Tok x)) (kind_of u (Tok y)) c; not_first = q; not_last = p }))

pub index-same : {A : Type 0} (xs : List A) (k : ℕ) (d e : A) → k < length xs → slice_index_or xs k d ≡ slice_index_or xs k e
index-same [] k d e lt = absurd (omega arith)
index-same (x ∷ xs) zero d e lt = refl
index-same (x ∷ xs) (suc k) d e lt = index-same xs k d e (omega arith)

all-from : {A : Type 0} (P : A → Type 0) (xs : List A) (d : A) → ((k : ℕ) → k < length xs → P (slice_index_or xs k d)) → All P xs
all-from P xs d h = λ k e lt. subst P (index-same xs k d e lt) (h k lt)

any-place : {A : Type 0} (p : A → Bool) (xs : List A) (d : A) → list_any p xs ≡ true → (k : ℕ) × (k < length xs) × (p (slice_index_or xs k d) ≡ true)
any-place p [] d h = absurd (cc)
any-place p (x ∷ xs) d h = go (p x) refl h (λ k. any-place p xs d k)
  where
    go : (c : Bool) → p x ≡ c → (c || list_any p xs) ≡ true → (list_any p xs ≡ true → (k : ℕ) × (k < length xs) × (p (slice_index_or xs k d) ≡ true)) → (k : ℕ) × (k < suc (length xs)) × (p (slice_index_or (x ∷ xs) k d) ≡ true)
    go true e h ih = (0, omega arith, e)
    go false e h ih = let r = ih h in (suc r.0, omega (arith, r.1), r.2)

pub in-list : (p : ℕ) (xs : List ℕ) → is_in p xs ≡ true → Contains xs p
in-list p xs h = let a = any-place (nat_eq p) xs p h in (a.0, a.1, sym (eqb-true p (slice_index_or xs a.0 p) a.2))

pub listed : (p : ℕ) (xs : List ℕ) → Contains xs p → is_in p xs ≡ true
listed p xs (k, lt, e) = list_any_at (nat_eq p) xs k p lt (eq-eqb p (slice_index_or xs k p) (sym e))

none-at : (c : Bool) → (c ≡ true → ⊥) → c ≡ false
none-at true h = absurd (h refl)
none-at false h = refl

split : (from time : ℕ) → from ≤ suc time → (from ≤ time) ⊎ (from ≡ suc time)
split from time le = grind arith

stays : (a d e : Bool) → a ≡ true → d ≡ false → ((a && not d) || e) ≡ true
stays true false e p q = refl
stays true true e p q = absurd (cc)
stays false d e p q = absurd (cc)

module _ (t : TaskShape) (b : Tables) (u : Sheet) (h : IsSolved t b u) (plan : List Occ) (g : ℕ → ℕ) (leaf : IsTokenMap u plan g) where
  -- the occurrence at a place
  occ : ℕ → Occ
  occ i = occurrence_at plan i

  kind-lasts : (i : ℕ) → i < length plan → lasts t (kind_of u (Tok (g i))) ≡ (action_of t (occurrence_at plan i)).dur
  unfolding lasts
  kind-lasts i lt = ap (lasts t) (leaf.act i lt)

  -- an action of the task, which lasts
  of-task : (i : ℕ) → i < length plan → (occurrence_at plan i).act < length t.actions
  of-task i lt = let a = h.formed.actions (g i) (leaf.token i lt).0 (leaf.token i lt).1 in go a.0 a.1 a.2 (leaf.act i lt)
    where
      go : (c : ℕ) → kind_of u (Tok (g i)) ≡ Act c → c < length t.actions → kind_of u (Tok (g i)) ≡ Act (occurrence_at plan i).act → (occurrence_at plan i).act < length t.actions
      go c e lt f = let same : c ≡ (occurrence_at plan i).act = cc in subst (λ z. z < length t.actions) same lt

  long : (i : ℕ) → i < length plan → 1 ≤ (action_of t (occurrence_at plan i)).dur
  long i lt = (h.bounds.durations (occurrence_at plan i).act idle (of-task i lt)).0

  -- where an order stands between the tokens of two places, the first occurrence ends before the second begins
  apart : (i j : ℕ) → i < length plan → j < length plan → before u (g i) (g j) ≡ true → end_of t (occurrence_at plan i) ≤ (occurrence_at plan j).start
  apart i j li lj o = let a = after t b u h (g i) (g j) (occurrence_at plan i).start (occurrence_at plan j).start o (leaf.start i li) (leaf.start j lj) in omega (arith, a.0, kind-lasts i li)

  deletes-kind : (i p : ℕ) → i < length plan → Contains (action_of t (occurrence_at plan i)).dele p → Deletes t (kind_of u (Tok (g i))) p
  deletes-kind i p lt c = subst (λ z. Deletes t z p) (sym (leaf.act i lt)) c

  -- no two that interfere overlap
  no-clash : IsApart t plan
  no-clash i j lt lj (over, interfere) = go (ordered t b u h (g i) (g j) different clash)
    where
      li : i < length plan
      li = omega arith

      different : g i ≢ g j
      different e = let k : i ≡ j = leaf.apart i j li lj e in omega (arith, k)

      clash : Clash t (kind_of u (Tok (g i))) (kind_of u (Tok (g j)))
      clash = subst (λ z. Clash t z (kind_of u (Tok (g j)))) (sym (leaf.act i li)) (subst (λ z. Clash t (Act (occurrence_at plan i).act) z) (sym (leaf.act j lj)) (record { first = of-task i li; second = of-task j lj; interfere = record { interfere = interfere } }))

      go : (before u (g i) (g j) ≡ true) ⊎ (before u (g j) (g i) ≡ true) → ⊥
      go (inl o) = omega (arith, apart i j li lj o, over.second)
      go (inr o) = omega (arith, apart j i lj li o, over.first)

  -- who adds an atom: the start, from moment 0 on, or an occurrence, from its end on
  Since : ℕ → ℕ → ℕ → Type 0
  Since y p from = ((kind_of u (Tok y) ≡ Start) × (from ≡ 0) × (is_in p t.init ≡ true)) ⊎ ((j : ℕ) × (j < length plan) × (g j ≡ y) × (from ≡ end_of t (occurrence_at plan j)) × (is_in p (action_of t (occurrence_at plan j)).add ≡ true))

  since : (y p : ℕ) → y < length u.tokens → Adds t (kind_of u (Tok y)) p → (from : ℕ) × Since y p from
  unfolding Since
  since zero p lt a = (0, inl (h.formed.start, refl, listed p t.init (subst (λ z. Adds t z p) h.formed.start a)))
  since (suc zero) p lt a = absurd (nil_has p (subst (λ z. Adds t z p) h.formed.end a))
  since (suc (suc y)) p lt a =
      let w = leaf.whole (suc (suc y)) (omega arith) lt in
      (end_of t (occurrence_at plan w.0), inr (w.0, w.1, w.2, refl, listed p (action_of t (occurrence_at plan w.0)).add (subst (λ z. Adds t z p) (subst (λ z. kind_of u (Tok z) ≡ Act (occurrence_at plan w.0).act) w.2 (leaf.act w.0 w.1)) a)))

  adds-then : (j p : ℕ) → j < length plan → is_in p (action_of t (occurrence_at plan j)).add ≡ true → adds_at t plan (end_of t (occurrence_at plan j)) p ≡ true
  adds-then j p lt a = list_any_at (λ o. nat_eq (end_of t o) (end_of t (occurrence_at plan j)) && is_in p (action_of t o).add) plan j (record { act = 0; start = 0 }) lt
      (both (nat_eq (end_of t (occurrence_at plan j)) (end_of t (occurrence_at plan j))) (is_in p (action_of t (occurrence_at plan j)).add) (eq-eqb _ _ refl) a)
    where
      both : (c d : Bool) → c ≡ true → d ≡ true → (c && d) ≡ true
      both true true e f = refl
      both true false e f = f
      both false d e f = e

  deleted-by : (time p : ℕ) → deletes_at t plan time p ≡ true → (i : ℕ) × (i < length plan) × (end_of t (occurrence_at plan i) ≡ time) × Contains (action_of t (occurrence_at plan i)).dele p
  deleted-by time p e =
      let a = any-place (λ o. nat_eq (end_of t o) time && is_in p (action_of t o).dele) plan (record { act = 0; start = 0 }) e in
      let k = and_parts (nat_eq (end_of t (occurrence_at plan a.0)) time) (is_in p (action_of t (occurrence_at plan a.0)).dele) a.2 in
      (a.0, a.1, eqb-true (end_of t (occurrence_at plan a.0)) time k.0, in-list p (action_of t (occurrence_at plan a.0)).dele k.1)

  -- what is supplied holds until who needs it is done: nothing that deletes it ends in between
  module _ (x p y from to : ℕ) (need : has_need u x p ≡ true) (sole : IsToken (cands u x p) y) (supply : Since y p from)
      (self : (i : ℕ) → i < length plan → g i ≡ x → to ≤ end_of t (occurrence_at plan i))
      (away : (i : ℕ) → i < length plan → before u x (g i) ≡ true → to ≤ (occurrence_at plan i).start) where
    -- a deleter that ends in between
    harmless : (time i : ℕ) → i < length plan → end_of t (occurrence_at plan i) ≡ suc time → Contains (action_of t (occurrence_at plan i)).dele p → from ≤ time → suc time < to → ⊥
    unfolding Since
    harmless time i lt e d low high = go (cases_order (g i) x) (cases_order (g i) y)
      where
        not-x : g i ≢ x
        not-x same = omega (arith, self i lt same, e)

        not-y : Since y p from → g i ≢ y
        not-y (inl (k, z, n)) same = let f : Act (occurrence_at plan i).act ≡ Start = sym (leaf.act i lt) ∙ (ap (λ w. kind_of u (Tok w)) same ∙ k) in cc
        not-y (inr (j, lj, gj, z, n)) same = let k : i ≡ j = leaf.apart i j lt lj (same ∙ sym gj) in let f : end_of t (occurrence_at plan i) ≡ from = subst (λ w. end_of t (occurrence_at plan w) ≡ from) (sym k) (sym z) in omega (arith, f, e)

        ahead : Since y p from → before u (g i) y ≡ true → ⊥
        ahead (inl (k, z, n)) o = let s = starts t b u h y (h.formed.orders (g i) y o).second in (after t b u h (g i) y (occurrence_at plan i).start s.0 o (leaf.start i lt) s.1).2 k
        ahead (inr (j, lj, gj, z, n)) o = omega (arith, apart i j lt lj (subst (λ w. before u (g i) w ≡ true) (sym gj) o), e, z)

        go : (g i ≡ x) ⊎ ((g i < x) ⊎ (x < g i)) → (g i ≡ y) ⊎ ((g i < y) ⊎ (y < g i)) → ⊥
        go q r = end (kept t b u h x p y (g i) need sole (deletes-kind i p lt d) not-x (not-y supply))
          where
            end : (before u (g i) y ≡ true) ⊎ (before u x (g i) ≡ true) → ⊥
            end (inl o) = ahead supply o
            end (inr o) = omega (arith, away i lt o, e)

    lasts-on : (time : ℕ) → from ≤ time → time < to → holds_at t plan time p ≡ true
    unfolding Since
    lasts-on zero low high = first supply
      where
        first : Since y p from → is_in p t.init ≡ true
        first (inl (k, z, n)) = n
        first (inr (j, lj, gj, z, n)) = absurd (omega (arith, z, long j lj))
    lasts-on (suc time) low high = go (split from time low) (λ le. lasts-on time le (omega arith))
      where
        now : Since y p from → from ≡ suc time → holds_at t plan (suc time) p ≡ true
        now (inl (k, z, n)) e = absurd (omega (arith, e, z))
        now (inr (j, lj, gj, z, n)) e = or_right (holds_at t plan time p && not (deletes_at t plan (suc time) p)) (adds_at t plan (suc time) p) (subst (λ w. adds_at t plan w p ≡ true) (sym z ∙ e) (adds-then j p lj n))

        go : (from ≤ time) ⊎ (from ≡ suc time) → (from ≤ time → holds_at t plan time p ≡ true) → holds_at t plan (suc time) p ≡ true
        go (inl le) ih = stays (holds_at t plan time p) (deletes_at t plan (suc time) p) (adds_at t plan (suc time) p) (ih le) (none-at (deletes_at t plan (suc time) p) (λ e. let d = deleted-by (suc time) p e in harmless time d.0 d.1 d.2 d.3 le high))
        go (inr e) ih = now supply e

  -- a need of a token is in its lists
  need-of : (x p : ℕ) → x < length u.tokens → Contains (needs_of t (kind_of u (Tok x))) p → has_need u x p ≡ true
  need-of x p lt c = atom-listed p (token_at u x).lists (subst (λ z. Contains z p) (sym (h.formed.needs x lt)) c)

  -- what an occurrence needs holds until it ends
  holds-during : (i p : ℕ) → i < length plan → Contains (action_of t (occurrence_at plan i)).pre p → HoldsFrom t plan (occurrence_at plan i).start (end_of t (occurrence_at plan i)) p
  unfolding Since
  holds-during i p lt c time low high =
      let need = need-of (g i) p (leaf.token i lt).1 (subst (λ z. Contains (needs_of t z) p) (sym (leaf.act i lt)) c) in
      let o = one t b u h (g i) p need in
      let a = adds t b u h (g i) p o.0 o.1 in
      let w = since o.0 p a.0 a.2 in
      let low' = early o.0 w.0 w.1 (supplied t b u h (g i) p o.0 need o.1) in
      lasts-on (g i) p o.0 w.0 (end_of t (occurrence_at plan i)) need o.1 w.1 self (λ k lk f. apart i k lt lk f) time (omega (arith, low')) high
    where
      self : (k : ℕ) → k < length plan → g k ≡ g i → end_of t (occurrence_at plan i) ≤ end_of t (occurrence_at plan k)
      self k lk e = subst (λ z. end_of t (occurrence_at plan i) ≤ end_of t (occurrence_at plan z)) (sym (leaf.apart k i lk lt e)) (omega arith)

      early : (y from : ℕ) → Since y p from → before u y (g i) ≡ true → from ≤ (occurrence_at plan i).start
      early y from (inl (k, z, n)) o = omega (arith, z)
      early y from (inr (j, lj, gj, z, n)) o = omega (arith, z, apart j i lj lt (subst (λ w. before u w (g i) ≡ true) (sym gj) o))

  -- what the goal needs holds at the end
  holds-last : (p : ℕ) → Contains t.goal p → HoldsThen t plan (makespan t plan) p
  unfolding Since
  holds-last p c =
      let need = need-of 1 p h.formed.two (subst (λ z. Contains (needs_of t z) p) (sym h.formed.end) c) in
      let o = one t b u h 1 p need in
      let a = adds t b u h 1 p o.0 o.1 in
      let w = since o.0 p a.0 a.2 in
      lasts-on 1 p o.0 w.0 (suc (makespan t plan)) need o.1 w.1 self away (makespan t plan) (early o.0 w.0 w.1) (omega arith)
    where
      self : (k : ℕ) → k < length plan → g k ≡ 1 → suc (makespan t plan) ≤ end_of t (occurrence_at plan k)
      self k lk e = absurd (omega (arith, (leaf.token k lk).0, e))

      away : (k : ℕ) → k < length plan → before u 1 (g k) ≡ true → suc (makespan t plan) ≤ (occurrence_at plan k).start
      away k lk o = let s = starts t b u h 1 h.formed.two in absurd ((after t b u h 1 (g k) s.0 (occurrence_at plan k).start o s.1 (leaf.start k lk)).1 h.formed.end)

      early : (y from : ℕ) → Since y p from → from ≤ makespan t plan
      early y from (inl (k, z, n)) = omega (arith, z)
      early y from (inr (j, lj, gj, z, n)) = omega (arith, z, end_le t plan j lj)

  within-bound : (i : ℕ) → i < length plan → end_of t (occurrence_at plan i) ≤ u.bound
  within-bound i lt =
      let s = starts t b u h 1 h.formed.two in
      let a = after t b u h (g i) 1 (occurrence_at plan i).start s.0 (h.formed.before_end (g i) (leaf.token i lt).0 (leaf.token i lt).1) (leaf.start i lt) s.1 in
      omega (arith, a.0, kind-lasts i lt, s.2, h.formed.within (Tok 1))

makespan-le : (t : TaskShape) (plan : List Occ) (n : ℕ) → ((i : ℕ) → i < length plan → end_of t (occurrence_at plan i) ≤ n) → makespan t plan ≤ n
makespan-le t [] n h = omega arith
makespan-le t (o ∷ os) n h = let ih = makespan-le t os n (λ i lt. h (suc i) (omega arith)) in omega (arith, h 0 (omega arith), ih)

pub leaf-valid : (t : TaskShape) (b : Tables) (u : Sheet) (plan : List Occ) (g : ℕ → ℕ) → IsSolved t b u → IsTokenMap u plan g → IsValid t plan × (makespan t plan ≤ u.bound)
leaf-valid t b u plan g h leaf = (
  record {
    of_task = all-from (IsOccurrence t) plan (record { act = 0; start = 0 }) (λ i lt. of-task t b u h plan g leaf i lt);
    apart = no-clash t b u h plan g leaf;
    met = all-from (IsMet t plan) plan (record { act = 0; start = 0 }) (λ i lt k d lk. holds-during t b u h plan g leaf i (slice_index_or (action_of t (occurrence_at plan i)).pre k d) lt (there (action_of t (occurrence_at plan i)).pre k d lk));
    goal = λ k d lk. holds-last t b u h plan g leaf (slice_index_or t.goal k d) (there t.goal k d lk);
  },
  makespan-le t plan u.bound (within-bound t b u h plan g leaf),
)
  where
    there : (xs : List ℕ) (k d : ℕ) → k < length xs → Contains xs (slice_index_or xs k d)
    there xs k d lt = (k, lt, index-same xs k (slice_index_or xs k d) d lt)
