-- how many tokens a closed live sheet can have
use native.Mathlib.Numerals.{unary_clauses}
use Rattle.std.proofs.Common.{◌≡◌, ◌≢◌, ℕ, zero, suc, ◌+◌, ◌*◌, ◌^◌, ◌-◌, ◌≤◌, ◌<◌, ◌/◌, ◌%◌, ◌||◌, ◌⊎◌, inl, inr, Bool, true, false, List, [], ◌∷◌, length, Contains, slice_index_or, refl, sym, ap, ◌∙◌, subst, arith}
use Rattle.std.specs.List.{IsDistinct, list_any, AllByRecursion}
use Rattle.std.proofs.Math.Dec.{eqb}
use Rattle.std.proofs.Math.Nat.{mul-le-mul_right, pow-suc}
use Rattle.std.proofs.lemmas.Bool.{eqb-true, cases_lt}
use Rattle.std.proofs.lemmas.List.Elements.{recursion_from_All}
use Rattle.std.proofs.lemmas.Map.Keys.{IsDistinct-cons}
use Rattle.std.proofs.lemmas.Map.Steps.{length-le_from_distinct_below}
use Rattle.std.proofs.lemmas.Nat.{div-mul-add, mod-mul-add}
use Rattle.cpt_task.specs.declared.span.Span.{Span}
use Rattle.cpt_task.specs.declared.span.Span.TheVariants.{At}
use Rattle.cpt_task.specs.Shape.{TaskShape, InBounds}
use Rattle.cpt_task.specs.Timeline.{idle}
use Rattle.cpt_tables.specs.declared.tables.Tables.{Tables}
use Rattle.cpt_tables.specs.Spans.{◌≤ˢ◌, ◌<ˢ◌, ◌+ˢ◌}
use Rattle.cpt_tables.proofs.SpanLemmas.{le_cases}
use Rattle.cpt_sheet.specs.declared.data.Cand.TheVariants.{Tok}
use Rattle.cpt_sheet.specs.declared.data.Kind.TheVariants.{Start, End}
use Rattle.cpt_sheet.specs.declared.data.Sheet.{Sheet}
use Rattle.cpt_sheet.specs.declared.data.Step.TheVariants.{R1}
use Rattle.cpt_sheet.specs.Formed.{IsFormed}
use Rattle.cpt_sheet.specs.Gaps.{gap, arrival}
use Rattle.cpt_sheet.specs.Live.{IsLive, IsLiveToken}
use Rattle.cpt_sheet.specs.Roles.{needs_of}
use Rattle.cpt_sheet.specs.View.{token_at, no_token, lo, hi, kind_of, has_need, cands, before}
use Rattle.cpt_calculus.specs.Rules.{IsToken, IsLegal}
use Rattle.cpt_calculus.proofs.Below.{at_within}
use Rattle.cpt_soundness.proofs.PlanLemmas.{nil_has}
use Rattle.cpt_soundness.proofs.ActingLemmas.{atom_there}
use Rattle.cpt_outcome.specs.Enough.{geometric, NeedsAtMost, IsBrought, AreBrought}
use Rattle.cpt_outcome.proofs.LeafLemmas.{lasts, gap-long, finite, next, index-same}

-- numbers below n with no two the same are at most n
values : (ℕ → ℕ) → ℕ → List ℕ
values f zero = []
values f (suc m) = f m ∷ values f m

pub pigeon : (n m : ℕ) (f : ℕ → ℕ) → ((i : ℕ) → i < m → f i < n) → ((i j : ℕ) → i < j → j < m → f i ≢ f j) → m ≤ n
unfolding values IsDistinct
pigeon n m f below apart = omega (arith, long m, length-le_from_distinct_below (values f m) n (distinct m (λ i j l k. apart i j l (omega arith))) inside)
  where
    long : (m : ℕ) → length (values f m) ≡ m
    long zero = refl
    long (suc m) = ap suc (long m)

    others : (v k : ℕ) → ((i : ℕ) → i < k → f i ≢ v) → AllByRecursion (λ y. eqb v y ≡ false) (values f k)
    others v zero h = tt
    others v (suc k) h = (none (eqb v (f k)) (λ e. h k (omega arith) (sym (eqb-true v (f k) e))), others v k (λ i l. h i (omega arith)))
      where
        none : (c : Bool) → (c ≡ true → ⊥) → c ≡ false
        none true h = absurd (h refl)
        none false h = refl

    distinct : (k : ℕ) → ((i j : ℕ) → i < j → j < k → f i ≢ f j) → IsDistinct eqb (values f k)
    distinct zero h = tt
    distinct (suc k) h = IsDistinct-cons eqb (f k) (values f k) (others (f k) k (λ i l. h i k l (omega arith))) (distinct k (λ i j l m. h i j l (omega arith)))

    inside : (q : ℕ) → list_any (eqb q) (values f m) ≡ true → q < n
    inside q e = found m (λ i l. below i l) e
      where
        found : (k : ℕ) → ((i : ℕ) → i < k → f i < n) → list_any (eqb q) (values f k) ≡ true → q < n
        found zero h e = absurd (cc)
        found (suc k) h e = go (eqb q (f k)) refl e (λ e. found k (λ i l. h i (omega arith)) e)
          where
            go : (c : Bool) → eqb q (f k) ≡ c → (c || list_any (eqb q) (values f k)) ≡ true → (list_any (eqb q) (values f k) ≡ true → q < n) → q < n
            go true d e ih = let same = eqb-true q (f k) d in omega (arith, same, h k (omega arith))
            go false d e ih = ih e

-- the same, where each has such a number by a relation
pub pigeon-by : (n m : ℕ) (R : ℕ → ℕ → Type 0) → ((i : ℕ) → i < m → (c : ℕ) × (c < n) × R i c) → ((i j c : ℕ) → i < m → j < m → R i c → R j c → i ≡ j) → m ≤ n
pigeon-by n m R has one = pigeon n m (λ i. (pick i (cases_lt i m)).0) (λ i l. ((pick i (cases_lt i m)).1 l).0)
    (λ i j lt lj e. let li : i < m = omega arith in
    let same = one i j (pick j (cases_lt j m)).0 li lj (subst (λ z. R i z) e ((pick i (cases_lt i m)).1 li).1) ((pick j (cases_lt j m)).1 lj).1 in omega (arith, same))
  where
    pick : (i : ℕ) → (i < m) ⊎ (m ≤ i) → (c : ℕ) × (i < m → (c < n) × R i c)
    pick i (inl l) = let h = has i l in (h.0, λ k. (h.1, h.2))
    pick i (inr g) = (0, λ l. absurd (omega arith))

-- a number of rows of this width and a place in a row
pub row-same : (a i c j w : ℕ) → i < w → j < w → a * w + i ≡ c * w + j → (a ≡ c) × (i ≡ j)
row-same a i c j w li lj e =
    (sym (div-mul-add a w i li) ∙ (ap (λ z. z / w) e ∙ div-mul-add c w j lj), sym (mod-mul-add a w i li) ∙ (ap (λ z. z % w) e ∙ mod-mul-add c w j lj))

pub geometric-step : (k n : ℕ) → geometric k (suc n) ≡ geometric k n * k + k
geometric-step k zero = first
  where
    first : 0 + k ^ 1 ≡ 0 * k + k
    first = let e : k ^ 0 ≡ 1 = simp unary_clauses in let f : k ^ 1 ≡ k ^ 0 * k = pow-suc k 0 in let g : k ^ 0 * k ≡ 1 * k = ap (λ z. z * k) e in omega (arith, f, g)
geometric-step k (suc n) = let ih = geometric-step k n in omega (arith, ih, pow-suc k (suc n))

pub geometric-more : (k m n : ℕ) → m ≤ n → geometric k m ≤ geometric k n
geometric-more k zero n le = omega arith
geometric-more k (suc m) zero le = absurd (omega arith)
geometric-more k (suc m) (suc n) le =
    let ih = geometric-more k m n (omega arith) in
    omega (arith, geometric-step k m, geometric-step k n, mul-le-mul_right k ih)

-- a token with its code: the end has 0, and a token that was brought for need i of the one with code c has c * k + i + 1
pub data Coded (t : TaskShape) (u : Sheet) (k : ℕ) : ℕ → ℕ → Type 0 where
  last : Coded t u k 1 0
  brought : (x c i : ℕ) (w : IsBrought u x) → 2 ≤ x → i < k → slice_index_or (needs_of t (kind_of u (Tok w.consumer))) i w.atom ≡ w.atom → i < length (needs_of t (kind_of u (Tok w.consumer))) →
      Coded t u k w.consumer c → Coded t u k x (suc (c * k + i))

pub one-coded : (t : TaskShape) (u : Sheet) (k x y c d : ℕ) → Coded t u k x c → Coded t u k y d → c ≡ d → x ≡ y
one-coded t u k x y c d last last e = refl
one-coded t u k x y c d last (brought z f j w l lj n m q) e = absurd (cc)
one-coded t u k x y c d (brought z f j w l lj n m q) last e = absurd (cc)
one-coded t u k x y c d (brought x' a i v lx li n m p) (brought y' b j w ly lj o r q) e =
    let rows = row-same a i b j k li lj (omega (arith, e)) in
    let older : v.consumer ≡ w.consumer = one-coded t u k v.consumer w.consumer a b p q rows.0 in
    sole v.consumer w.consumer v.atom w.atom older (atom v.consumer w.consumer i j v.atom w.atom older rows.1 n m o) v.sole w.sole
  where
    atom : (vc wc i j va wa : ℕ) → vc ≡ wc → i ≡ j → slice_index_or (needs_of t (kind_of u (Tok vc))) i va ≡ va → i < length (needs_of t (kind_of u (Tok vc))) → slice_index_or (needs_of t (kind_of u (Tok wc))) j wa ≡ wa → va ≡ wa
    atom vc wc i j va wa e f n m o =
        let same : slice_index_or (needs_of t (kind_of u (Tok vc))) i wa ≡ wa = subst (λ z. slice_index_or (needs_of t (kind_of u (Tok z))) i wa ≡ wa) (sym e) (subst (λ z. slice_index_or (needs_of t (kind_of u (Tok wc))) z wa ≡ wa) (sym f) o) in
        sym n ∙ (index-same (needs_of t (kind_of u (Tok vc))) i va wa m ∙ same)

    sole : (vc wc va wa : ℕ) → vc ≡ wc → va ≡ wa → IsToken (cands u vc va) x → IsToken (cands u wc wa) y → x ≡ y
    sole vc wc va wa e f g h = let same : cands u vc va ≡ cands u wc wa = rw (e, f) refl in cc

module _ (t : TaskShape) (b : Tables) (u : Sheet) (inside : InBounds t) (formed : IsFormed t u) (live : IsLive u) (closed : (x y : ℕ) (v : Span) → IsLegal t b u (R1 x y v) → ⊥) where
  -- a token begins at a moment
  pub begins-at : (x : ℕ) → x < length u.tokens → (n : ℕ) × (lo u (Tok x) ≡ At n) × (n ≤ hi u (Tok x))
  begins-at x lt = finite (lo u (Tok x)) (hi u (Tok x)) (at_within u.tokens no_token IsLiveToken x (recursion_from_All IsLiveToken u.tokens live) lt).0

  arrives : (x y : ℕ) → before u x y ≡ true → arrival t b u (Tok x) (Tok y) ≤ˢ lo u (Tok y)
  arrives x y o = go (le_cases (arrival t b u (Tok x) (Tok y)) (lo u (Tok y)))
    where
      s : (n : ℕ) × (lo u (Tok y) ≡ At n) × (n ≤ hi u (Tok y))
      s = begins-at y (formed.orders x y o).second

      go : (arrival t b u (Tok x) (Tok y) ≤ˢ lo u (Tok y)) ⊎ (lo u (Tok y) <ˢ arrival t b u (Tok x) (Tok y)) → arrival t b u (Tok x) (Tok y) ≤ˢ lo u (Tok y)
      go (inl le) = le
      go (inr lt) = absurd (closed x y (At (suc s.0)) (record {
        live = live;
        allowed = record { order = o; limit = next s.0 (arrival t b u (Tok x) (Tok y)) (subst (λ z. z <ˢ arrival t b u (Tok x) (Tok y)) s.1 lt); moment = omega (arith, s.2, formed.within (Tok y), formed.bound) };
        moves = subst (λ z. z <ˢ At (suc s.0)) (sym s.1) (omega arith);
      }))

  pub comes-after : (x y m n : ℕ) → before u x y ≡ true → lo u (Tok x) ≡ At m → lo u (Tok y) ≡ At n → (m + lasts t (kind_of u (Tok x)) ≤ n) × (kind_of u (Tok x) ≢ End) × (kind_of u (Tok y) ≢ Start)
  comes-after x y m n o em en =
      gap-long t b (kind_of u (Tok x)) (kind_of u (Tok y)) m n (subst (λ z. (z +ˢ gap t b (kind_of u (Tok x)) (kind_of u (Tok y))) ≤ˢ At n) em (subst (λ z. arrival t b u (Tok x) (Tok y) ≤ˢ z) en (arrives x y o)))

  -- a token that is an action lasts
  pub lasting : (x : ℕ) → 2 ≤ x → x < length u.tokens → 1 ≤ lasts t (kind_of u (Tok x))
  unfolding lasts
  lasting x low high = let a = formed.actions x low high in subst (λ z. 1 ≤ lasts t z) (sym a.1) (inside.durations a.0 idle a.2).0

module _ (t : TaskShape) (b : Tables) (u : Sheet) (k : ℕ) (inside : InBounds t) (formed : IsFormed t u) (live : IsLive u) (closed : (x y : ℕ) (v : Span) → IsLegal t b u (R1 x y v) → ⊥)
    (all : AreBrought u) (few : NeedsAtMost t k) where
  starts : (x : ℕ) → x < length u.tokens → (n : ℕ) × (lo u (Tok x) ≡ At n) × (n ≤ hi u (Tok x))
  starts = begins-at t b u inside formed live closed

  after : (x y m n : ℕ) → before u x y ≡ true → lo u (Tok x) ≡ At m → lo u (Tok y) ≡ At n → (m + lasts t (kind_of u (Tok x)) ≤ n) × (kind_of u (Tok x) ≢ End) × (kind_of u (Tok y) ≢ Start)
  after = comes-after t b u inside formed live closed

  long : (x : ℕ) → 2 ≤ x → x < length u.tokens → 1 ≤ lasts t (kind_of u (Tok x))
  long = lasting t b u inside formed live closed

  -- who needs an atom is not the start
  not-start : (x p : ℕ) → x < length u.tokens → has_need u x p ≡ true → 1 ≤ x
  not-start zero p lt n = absurd (nil_has p (subst (λ z. Contains (needs_of t z) p) formed.start (subst (λ z. Contains z p) (formed.needs 0 lt) (atom_there p (token_at u 0).lists n))))
  not-start (suc x) p lt n = omega arith

  needs-few : (x : ℕ) → x < length u.tokens → length (needs_of t (kind_of u (Tok x))) ≤ k
  needs-few zero lt = rw formed.start (omega arith)
  needs-few (suc zero) lt = rw formed.end few.goal
  needs-few (suc (suc x)) lt = let a = formed.actions (suc (suc x)) (omega arith) lt in rw a.1 (few.actions a.0 idle a.2)

  -- each token has a code
  coded : (n x : ℕ) → x < n → 1 ≤ x → x < length u.tokens → (c : ℕ) × Coded t u k x c
  coded zero x lt low high = absurd (omega arith)
  coded (suc n) zero lt low high = absurd (omega arith)
  coded (suc n) (suc zero) lt low high = (0, last)
  coded (suc n) (suc (suc x)) lt low high =
      let w = all (suc (suc x)) (omega arith) high in
      let there : w.consumer < length u.tokens = omega (arith, w.older) in
      let need = atom_there w.atom (token_at u w.consumer).lists w.need in
      let place = subst (λ z. Contains z w.atom) (formed.needs w.consumer there) need in
      let up = coded n w.consumer (omega (arith, w.older)) (not-start w.consumer w.atom there w.need) there in
      (suc (up.0 * k + place.0), brought (suc (suc x)) up.0 place.0 w (omega arith) (omega (arith, place.1, needs-few w.consumer there)) place.2 place.1 up.1)

  -- a code is at most what a tree of this height has
  low-code : (x c e m : ℕ) → Coded t u k x c → x < length u.tokens → lo u (Tok 1) ≡ At e → lo u (Tok x) ≡ At m → (d : ℕ) × (d + m ≤ e) × (c ≤ geometric k d)
  low-code x c e m last lt ee em = let same : e ≡ m = at e m (sym ee ∙ em) in (0, omega (arith, same), omega arith)
    where
      at : (e m : ℕ) → At e ≡ At m → e ≡ m
      at e m h = cc
  low-code x c e m (brought y f i w low li n l p) lt ee em =
      let there : w.consumer < length u.tokens = omega (arith, w.older) in
      let s = starts w.consumer there in
      let ih = low-code w.consumer f e s.0 p there ee s.1 in
      let a = after x w.consumer m s.0 w.order em s.1 in
      (suc ih.0, omega (arith, ih.1, a.0, long x low lt), omega (arith, geometric-step k ih.0, mul-le-mul_right k ih.2, li))

  -- so there are not too many
  pub few-tokens : length u.tokens ≤ 2 + geometric k u.bound
  few-tokens = let h = pigeon-by (geometric k u.bound) (length u.tokens - 2) (λ i c. Coded t u k (i + 2) (suc c)) has one in omega arith
    where
      end : (n : ℕ) × (lo u (Tok 1) ≡ At n) × (n ≤ hi u (Tok 1))
      end = starts 1 formed.two

      positive : (x c : ℕ) → 2 ≤ x → Coded t u k x c → (d : ℕ) × (c ≡ suc d)
      positive x c low last = absurd (omega arith)
      positive x c low (brought y f i w ly li n l p) = (f * k + i, refl)

      has : (i : ℕ) → i < length u.tokens - 2 → (c : ℕ) × (c < geometric k u.bound) × Coded t u k (i + 2) (suc c)
      has i lt =
          let l : i + 2 < length u.tokens = omega arith in
          let c = coded (suc (i + 2)) (i + 2) (omega arith) (omega arith) l in
          let d = positive (i + 2) c.0 (omega arith) c.1 in
          let s = starts (i + 2) l in
          let h = low-code (i + 2) c.0 end.0 s.0 c.1 l end.1 s.1 in
          let more = geometric-more k h.0 u.bound (omega (arith, h.1, end.2, formed.within (Tok 1))) in
          (d.0, omega (arith, d.1, h.2, more), subst (λ z. Coded t u k (i + 2) z) d.1 c.1)

      one : (i j c : ℕ) → i < length u.tokens - 2 → j < length u.tokens - 2 → Coded t u k (i + 2) (suc c) → Coded t u k (j + 2) (suc c) → i ≡ j
      one i j c li lj p q = let e = one-coded t u k (i + 2) (j + 2) (suc c) (suc c) p q refl in omega (arith, e)
