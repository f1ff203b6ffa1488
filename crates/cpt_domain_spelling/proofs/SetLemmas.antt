use Rattle.std.proofs.Common.{◌≡◌, ◌≢◌, ℕ, zero, suc, ◌+◌, ◌<◌, ◌≤◌, max, ◌++◌, ◌∷◌, [], Bool, true, false, List, length, All, inl, inr, refl, ap, ◌∙◌, sym, subst, arith}
use Rattle.std.specs.Prelude.{◌==◌, if◌then◌else◌, slice_index_or}
use Rattle.std.proofs.lemmas.Bool.{cases_eq, eq-eqb, ne_eqb}
use Rattle.std.proofs.lemmas.List.Elements.{All-cons, All-head, All-nil, All-tail}
use Rattle.cpt_declared.specs.Kinds.{has}
use Rattle.cpt_domain_spelling.specs.Siblings.{AreByFirstPlace, NoneTwice}
use Rattle.cpt_domain_spelling.proofs.ItemLemmas.{unless, when}
use Rattle.cpt_domain_spelling.proofs.KindLemmas.{has_all, has_append, has_front, has_none}

pub has_head : (k : ℕ) (ks : List ℕ) → has (k ∷ ks) k ≡ true
has_head k ks = when _ _ (eq-eqb k k refl)

pub has_tail : (x : ℕ) (ks : List ℕ) (k : ℕ) → has ks k ≡ true → has (x ∷ ks) k ≡ true
has_tail x ks k h = by_test (x == k) h where
  by_test : (t : Bool) → has ks k ≡ true → (if t then true else has ks k) ≡ true
  by_test true h = refl
  by_test false h = h

pub has_back : (a b : List ℕ) (k : ℕ) → has (a ++ b) k ≡ false → has b k ≡ false
has_back a b k h = by_test (has a k) (sym (has_append a b k) ∙ h) where
  by_test : (t : Bool) → (if t then true else has b k) ≡ false → has b k ≡ false
  by_test true e = cc
  by_test false e = e

pub has_neither : (a b : List ℕ) (k : ℕ) → has a k ≡ false → has b k ≡ false → has (a ++ b) k ≡ false
has_neither a b k h g = has_append a b k ∙ unless _ _ h ∙ g

pub has_left : (a b : List ℕ) (k : ℕ) → has a k ≡ true → has (a ++ b) k ≡ true
has_left a b k h = has_append a b k ∙ when _ _ h

pub has_right : (a b : List ℕ) (k : ℕ) → has b k ≡ true → has (a ++ b) k ≡ true
has_right a b k h = has_append a b k ∙ by_test (has a k) h where
  by_test : (t : Bool) → has b k ≡ true → (if t then true else has b k) ≡ true
  by_test true h = refl
  by_test false h = h

-- what is among these numbers is below a bound
pub has_above : (bound k : ℕ) (ks : List ℕ) → All (λ j. j < bound) ks → bound ≤ k → has ks k ≡ false
has_above bound k ks below le = has_none ks k (λ i lt same. let z = below i 0 lt in omega (arith, z, same, le))

-- no number twice, from the first on
abbrev pub Apart : List ℕ → Type 0
Apart [] = Unit {0}
Apart (k ∷ ks) = (has ks k ≡ false) × Apart ks

pub apart_join : (a b : List ℕ) → Apart a → Apart b → ((k : ℕ) → has a k ≡ true → has b k ≡ false) → Apart (a ++ b)
apart_join [] b p q d = q
apart_join (x ∷ a) b p q d = (has_neither a b x p.0 (d x (has_head x a)), apart_join a b p.1 q (λ k h. d k (has_tail x a k h)))

pub apart_split : (a b : List ℕ) (k : ℕ) → Apart (a ++ b) → has a k ≡ true → has b k ≡ false
apart_split [] b k p h = absurd (cc)
apart_split (x ∷ a) b k p h =
    elim (cases_eq x k) [
      | inl e ↦ subst (λ j. has b j ≡ false) e (has_back a b x p.0)
      | inr ne ↦ apart_split a b k p.1 (sym (unless _ _ (ne_eqb x k ne)) ∙ h)
    ]

pub has_index : (ks : List ℕ) (i x : ℕ) → i < length ks → has ks (slice_index_or ks i x) ≡ true
has_index [] i x lt = absurd (omega arith)
has_index (k ∷ ks) zero x lt = has_head k ks
has_index (k ∷ ks) (suc i) x lt = has_tail k ks (slice_index_or ks i x) (has_index ks i x (omega arith))

pub apart_once : (ks : List ℕ) → Apart ks → NoneTwice ks
apart_once [] p i j lt within same = absurd (omega arith)
apart_once (k ∷ ks) p zero zero lt within same = absurd (omega arith)
apart_once (k ∷ ks) p zero (suc j) lt within same =
    let there = has_index ks j 0 (omega arith) in
    let bad : has ks k ≡ true = ap (has ks) same ∙ there in
    let none = p.0 in cc
apart_once (k ∷ ks) p (suc i) zero lt within same = absurd (omega arith)
apart_once (k ∷ ks) p (suc i) (suc j) lt within same = apart_once ks p.1 i j (omega arith) (omega arith) same

-- the numbers but zero
abbrev pub proper : List ℕ → List ℕ
proper [] = []
proper (zero ∷ ks) = proper ks
proper (suc k ∷ ks) = suc k ∷ proper ks

pub proper_append : (a b : List ℕ) → proper (a ++ b) ≡ proper a ++ proper b
proper_append [] b = refl
proper_append (zero ∷ a) b = proper_append a b
proper_append (suc k ∷ a) b = ap (λ ks. suc k ∷ ks) (proper_append a b)

pub proper_has : (ks : List ℕ) (k : ℕ) → has ks k ≡ false → has (proper ks) k ≡ false
proper_has [] k h = refl
proper_has (zero ∷ ks) k h = proper_has ks k (has_back (0 ∷ []) ks k h)
proper_has (suc j ∷ ks) k h = has_neither (suc j ∷ []) (proper ks) k (has_front (suc j ∷ []) ks k h) (proper_has ks k (has_back (suc j ∷ []) ks k h))

pub proper_back : (ks : List ℕ) (k : ℕ) → 0 < k → has (proper ks) k ≡ false → has ks k ≡ false
proper_back [] k some h = refl
proper_back (zero ∷ ks) k some h = has_neither (0 ∷ []) ks k (unless _ _ (ne_eqb 0 k (omega arith))) (proper_back ks k some h)
proper_back (suc j ∷ ks) k some h = has_neither (suc j ∷ []) ks k (has_front (suc j ∷ []) (proper ks) k h) (proper_back ks k some (has_back (suc j ∷ []) (proper ks) k h))

pub proper_all : (P : ℕ → Type 0) (ks : List ℕ) → All P ks → All (λ k. (0 < k) × P k) (proper ks)
proper_all P [] h = All-nil (λ k. (0 < k) × P k)
proper_all P (zero ∷ ks) h = proper_all P ks (All-tail P 0 ks h)
proper_all P (suc k ∷ ks) h = All-cons (λ k. (0 < k) × P k) (suc k) (proper ks) (omega arith, All-head P (suc k) ks h) (proper_all P ks (All-tail P (suc k) ks h))

-- how many types are known behind these
abbrev pub known_after : ℕ → List ℕ → ℕ
known_after known [] = known
known_after known (k ∷ ks) = known_after (max known (k + 1)) ks

pub known_push : (known : ℕ) (ks : List ℕ) (k : ℕ) → known_after known (ks ++ k ∷ []) ≡ max (known_after known ks) (k + 1)
known_push known [] k = refl
known_push known (j ∷ ks) k = known_push (max known (j + 1)) ks k

pub first_push : (known : ℕ) (ks : List ℕ) (k : ℕ) → AreByFirstPlace known ks → k ≤ known_after known ks → AreByFirstPlace known (ks ++ k ∷ [])
first_push known [] k f le = (le, tt)
first_push known (j ∷ ks) k f le = (f.0, first_push (max known (j + 1)) ks k f.1 le)

-- types that are known already add nothing
pub first_known : (known : ℕ) (ks more : List ℕ) → AreByFirstPlace known ks → All (λ k. k < known_after known ks) more → AreByFirstPlace known (ks ++ more)
first_known known (j ∷ ks) more f below = (f.0, first_known (max known (j + 1)) ks more f.1 below)
first_known known [] [] f below = tt
first_known known [] (k ∷ more) f below =
    let lt = All-head (λ j. j < known) k more below in
    let same : known ≡ max known (k + 1) = omega (arith, lt) in
    let le : k ≤ known = omega (arith, lt) in
    let rest : All (λ j. j < known) more = All-tail (λ j. j < known) k more below in
    (le, first_known (max known (k + 1)) [] more tt (subst (λ n. All (λ j. j < n) more) same rest))

abbrev is_known : List ℕ → ℕ → Bool
is_known ks zero = true
is_known ks (suc k) = has ks (suc k)

-- the numbers below a bound, but zero, that are not among these
abbrev with_unknown : Bool → ℕ → List ℕ → List ℕ
with_unknown true k ks = ks
with_unknown false k ks = k ∷ ks

abbrev pub absent_below : ℕ → List ℕ → List ℕ
absent_below zero ks = []
absent_below (suc n) ks = with_unknown (is_known ks n) n (absent_below n ks)

-- each of them is there
record IsAbsent (bound : ℕ) (ks : List ℕ) (k : ℕ) : Type 0 where
  some : 0 < k
  lt : k < bound
  none : has ks k ≡ false

unknown_is : (ks : List ℕ) (n : ℕ) → is_known ks n ≡ false → (0 < n) × (has ks n ≡ false)
unknown_is ks zero e = absurd (cc)
unknown_is ks (suc n) e = (omega arith, e)

absent_more : (n bound : ℕ) (ks more : List ℕ) (t : Bool) → is_known ks n ≡ t → n < bound → All (IsAbsent bound ks) more → All (IsAbsent bound ks) (with_unknown t n more)
absent_more n bound ks more true e lt h = h
absent_more n bound ks more false e lt h =
    let u = unknown_is ks n e in
    All-cons (IsAbsent bound ks) n more (record { some = u.0; lt = lt; none = u.1 }) h

absent_all : (n bound : ℕ) (ks : List ℕ) → n ≤ bound → All (IsAbsent bound ks) (absent_below n ks)
absent_all zero bound ks le = All-nil (IsAbsent bound ks)
absent_all (suc n) bound ks le = absent_more n bound ks (absent_below n ks) (is_known ks n) refl (omega arith) (absent_all n bound ks (omega arith))

pub absent_real : (bound : ℕ) (ks : List ℕ) → All (λ k. (0 < k) × (k < bound)) (absent_below bound ks)
absent_real bound ks i x lt = let a = absent_all bound bound ks (omega arith) i x lt in (a.some, a.lt)

pub absent_none : (bound : ℕ) (ks : List ℕ) (k : ℕ) → has (absent_below bound ks) k ≡ true → has ks k ≡ false
absent_none bound ks k h = (has_all (IsAbsent bound ks) (absent_below bound ks) k (absent_all bound bound ks (omega arith)) h).none

apart_more : (n : ℕ) (more : List ℕ) (t : Bool) → has more n ≡ false → Apart more → Apart (with_unknown t n more)
apart_more n more true h p = p
apart_more n more false h p = (h, p)

pub absent_apart : (n : ℕ) (ks : List ℕ) → Apart (absent_below n ks)
absent_apart zero ks = tt
absent_apart (suc n) ks =
    apart_more n (absent_below n ks) (is_known ks n) (has_none (absent_below n ks) n (λ i lt same. let a = (absent_all n n ks (omega arith) i 0 lt).lt in omega (arith, a, same))) (absent_apart n ks)

there_more : (n k : ℕ) (ks more : List ℕ) (t : Bool) → is_known ks n ≡ t → 0 < k → has ks k ≡ false → (k ≢ n → has more k ≡ true) → has (with_unknown t n more) k ≡ true
there_more n k ks more true e some none h = h (λ s. bad n ks e (subst (λ j. 0 < j) s some) (ap (has ks) (sym s) ∙ none)) where
  bad : (n : ℕ) (ks : List ℕ) → is_known ks n ≡ true → 0 < n → has ks n ≡ false → ⊥
  bad zero ks e some none = omega arith
  bad (suc n) ks e some none = cc
there_more n k ks more false e some none h =
    elim (cases_eq n k) [
      | inl s ↦ when _ _ (eq-eqb n k s)
      | inr ne ↦ has_tail n more k (h (λ s. ne (sym s)))
    ]

pub absent_there : (n : ℕ) (ks : List ℕ) (k : ℕ) → 0 < k → k < n → has ks k ≡ false → has (absent_below n ks) k ≡ true
absent_there zero ks k some lt none = absurd (omega arith)
absent_there (suc n) ks k some lt none =
    there_more n k ks (absent_below n ks) (is_known ks n) refl some none (λ ne. absent_there n ks k some (omega (arith, ne)) none)
