use Rattle.std.proofs.Common.{◌≡◌, ℕ, zero, suc, ◌+◌, ◌-◌, ◌<◌, ◌≤◌, ◌⊎◌, inl, inr, Bool, true, false, ◌||◌, nat_eq, nat_lt, cond, Option, None, Some, Result, Ok, Err, List, [], ◌∷◌, length, get_or, All, Contains, refl, sym, ap, ◌∙◌, subst, arith}
use Rattle.std.specs.List.{cons_option, position_or_len}
use Rattle.std.specs.List.Sorted.{IsStrictlyIncreasing, IsBinarySearchResult}
use Rattle.std.specs.Ordering.{nat_cmp}
use Rattle.std.specs.Result.{result_ok}
use Rattle.std.proofs.lemmas.List.Sorted.{searched}
use Rattle.std.specs.Cmp.{nat_eq_equiv}
use Rattle.std.proofs.lemmas.Bool.{eqb-true, eq-eqb, ne_eqb}
use Rattle.std.proofs.lemmas.Bool.Decides.{nat_tests, eqb_tells}
use Rattle.std.proofs.lemmas.Grind.{get_or_default_zero}
use Rattle.std.proofs.lemmas.List.Elements.{All-nil, All-cons, All-head, All-tail}
use Rattle.std.proofs.lemmas.List.Quantifiers.{position-Some}
use Rattle.std.proofs.lemmas.List.Sums.{position_or_len_is}
use Rattle.std.proofs.lemmas.Map.Views.{Contains-from_any, list_any-from_Contains}
use Rattle.cpt_task.specs.Timeline.{is_in}
use Rattle.cpt_task.proofs.Order.{no_less}
use Rattle.cpt_reach.specs.Kept.{new_number, renumbered}

-- in an increasing list what stands later is greater
pub strictly_less : (xs : List ℕ) → IsStrictlyIncreasing xs → (i j : ℕ) → i < j → j < length xs → get_or xs i 0 < get_or xs j 0
strictly_less xs inc i j lt within =
    let e : (i + 1) + (j - (i + 1)) ≡ j = omega arith in
    let next : get_or xs i 0 < get_or xs (i + 1) 0 = inc i (omega arith) in
    let far : get_or xs (i + 1) 0 ≤ get_or xs ((i + 1) + (j - (i + 1))) 0 = no_less xs inc (i + 1) (j - (i + 1)) (omega arith) in
    omega (arith, next, far, ap (λ n. get_or xs n 0) e)

three_ways : (i j : ℕ) → (i < j) ⊎ ((j < i) ⊎ (i ≡ j))
three_ways i j = grind arith

pub same_place : (xs : List ℕ) → IsStrictlyIncreasing xs → (i j : ℕ) → i < length xs → j < length xs → get_or xs i 0 ≡ get_or xs j 0 → i ≡ j
same_place xs inc i j a b e =
    elim (three_ways i j) [
      | inl lt ↦ let h : get_or xs i 0 < get_or xs j 0 = strictly_less xs inc i j lt b in absurd (omega (arith, h, e))
      | inr h ↦ elim h [
        | inl lt ↦ let h : get_or xs j 0 < get_or xs i 0 = strictly_less xs inc j i lt a in absurd (omega (arith, h, e))
        | inr same ↦ same
      ]
    ]

-- a lesser place has a lesser number, and the other way round
pub less_place : (xs : List ℕ) → IsStrictlyIncreasing xs → (i j : ℕ) → i < length xs → j < length xs → get_or xs i 0 < get_or xs j 0 → i < j
less_place xs inc i j a b less =
    elim (three_ways i j) [
      | inl lt ↦ lt
      | inr h ↦ elim h [
        | inl lt ↦ let h : get_or xs j 0 < get_or xs i 0 = strictly_less xs inc j i lt a in absurd (omega (arith, h, less))
        | inr same ↦ absurd (omega (arith, less, ap (λ n. get_or xs n 0) same))
      ]
    ]

some_at : (n m i : ℕ) → m ≡ i → i < n → cond (nat_lt m n) (Some m) None ≡ Some i
some_at n m i e lt = grind (arith, nat_tests)

-- the number at a place has it as its new number
pub new_number-at : (xs : List ℕ) → IsStrictlyIncreasing xs → (i p : ℕ) → i < length xs → get_or xs i 0 ≡ p → new_number xs p ≡ Some i
unfolding new_number
new_number-at xs inc i p lt e =
    some_at (length xs) (position_or_len (nat_eq p) xs) i
    (position_or_len_is (nat_eq p) xs i 0 (omega arith)
    (λ k less. ne_eqb p (get_or xs k 0) (λ same. let h : get_or xs k 0 < get_or xs i 0 = strictly_less xs inc k i less lt in absurd (omega (arith, h, e, same))))
    (λ within. eq-eqb p (get_or xs i 0) (sym e)))
    lt

-- a new number is the place of the old one
pub at-new_number : (xs : List ℕ) (p i : ℕ) → new_number xs p ≡ Some i → (i < length xs) × (get_or xs i 0 ≡ p)
unfolding new_number
at-new_number xs p i e = let h = position-Some (nat_eq p) xs i 0 e in (h.0, sym (eqb-true p (get_or xs i 0) h.1))

nowhere : Option ℕ
nowhere = None

no_place : (n m : ℕ) → n ≤ m → cond (nat_lt m n) (Some m) nowhere ≡ nowhere
unfolding nowhere
no_place n m le = grind (arith, nat_tests)

-- a number that stands nowhere has no new one
pub new_number-none : (xs : List ℕ) (p : ℕ) → ((k : ℕ) → k < length xs → get_or xs k 0 ≡ p → ⊥) → new_number xs p ≡ None
unfolding new_number nowhere
new_number-none xs p none =
    no_place (length xs) (position_or_len (nat_eq p) xs)
    (let e : position_or_len (nat_eq p) xs ≡ length xs = position_or_len_is (nat_eq p) xs (length xs) 0 (omega arith) (λ k lt. ne_eqb p (get_or xs k 0) (λ same. none k lt (sym same))) (λ lt. absurd (omega arith)) in omega (arith, e))

-- a kept number has a new one
pub new_number-found : (xs : List ℕ) → IsStrictlyIncreasing xs → (p : ℕ) → Contains xs p → (i : ℕ) × (new_number xs p ≡ Some i)
new_number-found xs inc p has = (has.0, new_number-at xs inc has.0 p has.1 (sym (get_or_default_zero xs has.0 p has.1) ∙ has.2))

pub contains_from_in : (p : ℕ) (xs : List ℕ) → is_in p xs ≡ true → Contains xs p
contains_from_in p xs h = Contains-from_any eqb-true p xs h

pub in_from_contains : (p : ℕ) (xs : List ℕ) → Contains xs p → is_in p xs ≡ true
in_from_contains p xs h = list_any-from_Contains nat_eq_equiv p xs h

in_step : (o : Option ℕ) (rest : List ℕ) (i p x : ℕ) (b : Bool) → is_in i rest ≡ b → (o ≡ None → nat_eq p x ≡ false) → ((j : ℕ) → o ≡ Some j → nat_eq i j ≡ nat_eq p x) → is_in i (cons_option o rest) ≡ (nat_eq p x || b)
in_step None rest i p x b e none some = e ∙ ap (λ c. c || b) (sym (none refl))
in_step (Some j) rest i p x b e none some = ap (λ c. c || is_in i rest) (some j refl) ∙ ap (λ c. nat_eq p x || c) e

same_test : (kept : List ℕ) → (p i x j : ℕ) → new_number kept p ≡ Some i → new_number kept x ≡ Some j → nat_eq i j ≡ nat_eq p x
same_test kept p i x j e f =
    elim (eqb_tells p x) [
      | inl h ↦ let g : new_number kept p ≡ new_number kept x = ap (new_number kept) h.1 in let same : i ≡ j = cc in eq-eqb i j same ∙ sym h.0
      | inr h ↦ ne_eqb i j (λ same. h.1 (sym (at-new_number kept p i e).1 ∙ ap (λ n. get_or kept n 0) same ∙ (at-new_number kept x j f).1)) ∙ sym h.0
    ]

not_same : (kept : List ℕ) → (p i x : ℕ) → new_number kept p ≡ Some i → new_number kept x ≡ None → nat_eq p x ≡ false
not_same kept p i x e f = ne_eqb p x (λ same. let g : new_number kept p ≡ new_number kept x = ap (new_number kept) same in let z : ⊥ = cc in z)

-- a new number is in the renumbered list exactly where the old one is in the list
pub is_in-renumbered : (kept : List ℕ) (p i : ℕ) → new_number kept p ≡ Some i → (xs : List ℕ) → is_in i (renumbered kept xs) ≡ is_in p xs
is_in-renumbered kept p i e [] = refl
is_in-renumbered kept p i e (x ∷ xs) =
    in_step (new_number kept x) (renumbered kept xs) i p x (is_in p xs) (is_in-renumbered kept p i e xs) (not_same kept p i x e) (λ j f. same_test kept p i x j e f)

cons_all : (Q : ℕ → Type 0) (o : Option ℕ) (rest : List ℕ) → ((j : ℕ) → o ≡ Some j → Q j) → All Q rest → All Q (cons_option o rest)
cons_all Q None rest here all = all
cons_all Q (Some j) rest here all = All-cons Q j rest (here j refl) all

-- what each new number has where the old one has P
pub renumbered-all : (kept : List ℕ) (P Q : ℕ → Type 0) → ((p j : ℕ) → P p → new_number kept p ≡ Some j → Q j) → (xs : List ℕ) → All P xs → All Q (renumbered kept xs)
renumbered-all kept P Q f [] all = All-nil Q
renumbered-all kept P Q f (x ∷ xs) all =
    cons_all Q (new_number kept x) (renumbered kept xs) (λ j e. f x j (All-head P x xs all) e) (renumbered-all kept P Q f xs (All-tail P x xs all))

tail_all : (Q : ℕ → Type 0) (o : Option ℕ) (rest : List ℕ) → All Q (cons_option o rest) → All Q rest
tail_all Q None rest all = all
tail_all Q (Some j) rest all = All-tail Q j rest all

head_all : (Q : ℕ → Type 0) (o : Option ℕ) (rest : List ℕ) (j : ℕ) → o ≡ Some j → All Q (cons_option o rest) → Q j
head_all Q o rest j e all = let all' = subst (λ r. All Q (cons_option r rest)) e all in All-head Q j rest all'

-- what each old number has where all are kept and each new one has Q
pub all-renumbered : (kept : List ℕ) → IsStrictlyIncreasing kept → (P Q : ℕ → Type 0) → ((p j : ℕ) → Q j → new_number kept p ≡ Some j → P p) → (xs : List ℕ) → All (Contains kept) xs → All Q (renumbered kept xs) → All P xs
all-renumbered kept inc P Q f [] has all = All-nil P
all-renumbered kept inc P Q f (x ∷ xs) has all =
    let found = new_number-found kept inc x (All-head (Contains kept) x xs has) in
    All-cons P x xs
    (f x found.0 (head_all Q (new_number kept x) (renumbered kept xs) found.0 found.1 all) found.1)
    (all-renumbered kept inc P Q f xs (All-tail (Contains kept) x xs has) (tail_all Q (new_number kept x) (renumbered kept xs) all))

anything : ℕ → Type 0
anything p = Unit {0}

-- new numbers are places among the kept ones
pub renumbered-below : (kept xs : List ℕ) → All (λ i. i < length kept) (renumbered kept xs)
unfolding anything
renumbered-below kept xs = renumbered-all kept anything (λ i. i < length kept) (λ p j h e. (at-new_number kept p j e).0) xs (λ k d lt. tt)

-- in an increasing list the head is below all else
pub head_below : (x : ℕ) (xs : List ℕ) → IsStrictlyIncreasing (x ∷ xs) → All (λ y. x < y) xs
head_below x xs inc k d lt =
    let below : get_or (x ∷ xs) 0 0 < get_or (x ∷ xs) (suc k) 0 = strictly_less (x ∷ xs) inc 0 (suc k) (omega arith) (omega arith) in
    omega (arith, below, get_or_default_zero xs k d lt)

pub tail_increasing : (x : ℕ) (xs : List ℕ) → IsStrictlyIncreasing (x ∷ xs) → IsStrictlyIncreasing xs
tail_increasing x xs inc k lt =
    let e : suc k + 1 ≡ suc (k + 1) = omega arith in
    let up : get_or (x ∷ xs) (suc k) 0 < get_or (x ∷ xs) (suc k + 1) 0 = inc (suc k) (omega arith) in
    let same : get_or (x ∷ xs) (suc k + 1) 0 ≡ get_or xs (k + 1) 0 = ap (λ n. get_or (x ∷ xs) n 0) e in
    omega (arith, up, same)

-- a list is increasing where its head is below all else and its tail is increasing
pub increasing-cons : (x : ℕ) (xs : List ℕ) → All (λ y. x < y) xs → IsStrictlyIncreasing xs → IsStrictlyIncreasing (x ∷ xs)
increasing-cons x xs low inc zero lt = low 0 0 (omega arith)
increasing-cons x xs low inc (suc k) lt =
    let e : suc k + 1 ≡ suc (k + 1) = omega arith in
    let up : get_or xs k 0 < get_or xs (k + 1) 0 = inc k (omega arith) in
    let same : get_or (x ∷ xs) (suc k + 1) 0 ≡ get_or xs (k + 1) 0 = ap (λ n. get_or (x ∷ xs) n 0) e in
    omega (arith, up, same)

cons_increasing : (o : Option ℕ) (rest : List ℕ) → ((j : ℕ) → o ≡ Some j → All (λ i. j < i) rest) → IsStrictlyIncreasing rest → IsStrictlyIncreasing (cons_option o rest)
cons_increasing None rest low inc = inc
cons_increasing (Some j) rest low inc = increasing-cons j rest (low j refl) inc

-- renumbering keeps the order
pub renumbered-increasing : (kept : List ℕ) → IsStrictlyIncreasing kept → (xs : List ℕ) → IsStrictlyIncreasing xs → IsStrictlyIncreasing (renumbered kept xs)
renumbered-increasing kept inc [] up = λ k lt. absurd (omega arith)
renumbered-increasing kept inc (x ∷ xs) up =
    cons_increasing (new_number kept x) (renumbered kept xs)
    (λ j e. renumbered-all kept (λ p. x < p) (λ i. j < i) (λ p i less f. let a = at-new_number kept x j e in let b = at-new_number kept p i f in less_place kept inc j i a.0 b.0 (rw (a.1, b.1) less)) xs (head_below x xs up))
    (renumbered-increasing kept inc xs (tail_increasing x xs up))

pub not_decreasing : (xs : List ℕ) → IsStrictlyIncreasing xs → (i j : ℕ) → i ≤ j → j < length xs → get_or xs i 0 ≤ get_or xs j 0
not_decreasing xs inc i j le lt =
    let e : i + (j - i) ≡ j = omega arith in
    let far : get_or xs i 0 ≤ get_or xs (i + (j - i)) 0 = no_less xs inc i (j - i) (omega arith) in
    omega (arith, far, ap (λ n. get_or xs n 0) e)

lt_or_le : (a b : ℕ) → (a < b) ⊎ (b ≤ a)
lt_or_le a b = grind arith

-- what a search in an increasing list found is the new number
pub found_at : (xs : List ℕ) (p : ℕ) → IsStrictlyIncreasing xs → (r : Result ℕ ℕ) → IsBinarySearchResult (λ y. nat_cmp y p) xs r → new_number xs p ≡ result_ok r
found_at xs p inc (Ok i) found =
    let h = searched xs p (Ok i) found (not_decreasing xs inc) in new_number-at xs inc i p h.0 h.1
found_at xs p inc (Err i) found =
    let h = searched xs p (Err i) found (not_decreasing xs inc) in
    new_number-none xs p (λ k lt e. elim (lt_or_le k i) [
      | inl less ↦ let low : get_or xs k 0 < p = h.1 k less in omega (arith, low, e)
      | inr le ↦ let high : p < get_or xs k 0 = h.2 k le lt in omega (arith, high, e)
    ])
