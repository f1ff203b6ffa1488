use Rattle.std.proofs.Common.{◌≡◌, ℕ, ◌+◌, ◌<◌, ◌≤◌, ◌⊎◌, inl, inr, Bool, true, false, ◌==◌, nat_eq, nat_lt, cond, Ordering, Less, Equal, Greater, Option, None, Some, Result, Ok, Err, List, [], ◌∷◌, length, get_or, All, Contains, refl, sym, ap, ◌∙◌, subst, arith}
use Rattle.std.specs.Prelude.{AllPairs, slice_get}
use Rattle.std.specs.Cmp.{IsEquivalence, IsTotalOrder, both_tied, unsigned_ties}
use Rattle.std.specs.Cmp.Lexicographic.{pointwise, slice_cmp, texts_ties}
use Rattle.std.specs.List.{position_or_len, dedup}
use Rattle.std.specs.List.Retain.{IsFiltered, DiffersFromLast}
use Rattle.std.specs.List.Sorted.{IsBinarySearchResult, IsPermutation, IsSearchInRange, IsSorted, IsSortedBy, IsStrictlySortedBy}
use Rattle.std.specs.Ordering.{eq_by_cmp, is_lt, nat_cmp, ordering_reverse}
use Rattle.std.specs.Option.{is_some}
use Rattle.std.specs.Result.{result_ok}
use Rattle.std.proofs.lemmas.Bool.Decides.{nat_tests}
use Rattle.std.proofs.lemmas.Cmp.{and_equiv, nat_eq_equiv, nat_list_eq_equiv, on_equiv, on_total}
use Rattle.std.proofs.lemmas.List.{length-map}
use Rattle.std.proofs.lemmas.List.Elements.{All-contains_itself, All-from_recursion, All-map, All-weaker}
use Rattle.std.proofs.lemmas.List.Filters.{dedup_is}
use Rattle.std.proofs.lemmas.List.Kept.{AllPairs-cons, Any-dedup, Contains-from_dedup, IsStrictlySortedBy-dedup}
use Rattle.std.proofs.lemmas.List.Quantifiers.{position-Some}
use Rattle.std.proofs.lemmas.List.Sorted.{Contains-permutation, IsPermutation-sym, searchable_from_sorted}
use Rattle.std.proofs.lemmas.List.Sums.{position_or_len_is}
use Rattle.std.proofs.lemmas.Option.{slice_get_read, get_or_from_slice_get, slice_get_within}
use Rattle.std.proofs.Math.ListN.{get_or-map}
use Rattle.cpt_facts.specs.declared.problem.Fact.{Fact}
use Rattle.cpt_ground.specs.declared.atoms.Atom.{Atom}
use Rattle.cpt_ground.specs.Atoms.{AreInOrder, fact_of, facts_of, place_of}
use Rattle.cpt_ground.specs.Compiled.{IsFactBefore}
use Rattle.cpt_ground.specs.Signed.{has, same_fact}
use Rattle.cpt_ground.proofs.Facts.{all_has, has_at, same_fact_is, same_fact_itself}
use Rattle.cpt_ground.proofs.ListLemmas.{contains-map, contains-from_map}
use Rattle.cpt_ground.proofs.Numbers.{bool_same}
use Rattle.cpt_ground.proofs.Orders.{fact_cmp, fact_total, fact_less, less_fact, fact_same, fact_itself}

-- how the code compares
abbrev pub atom_cmp : Atom → Atom → Ordering
atom_cmp a b = fact_cmp (fact_of a) (fact_of b)

abbrev pub atom_eq : Atom → Atom → Bool
atom_eq a b = same_fact (fact_of a) (fact_of b)

atom_total : IsTotalOrder atom_cmp
atom_total = on_total fact_of fact_total

atom_ties : (a b : Atom) → atom_eq a b ≡ eq_by_cmp atom_cmp a b
atom_ties a b =
    both_tied (a.pred == b.pred) (pointwise nat_eq a.args.now b.args.now) (nat_cmp a.pred b.pred) (slice_cmp nat_cmp a.args.now b.args.now)
    (unsigned_ties a.pred b.pred) (texts_ties a.args.now b.args.now)

atom_equiv : IsEquivalence atom_eq
atom_equiv = and_equiv (on_equiv (λ (a : Atom). a.pred) nat_eq_equiv) (on_equiv (λ (a : Atom). a.args.now) nat_list_eq_equiv)

-- a strictly sorted list of atoms is in order
strict_facts : (xs : List Atom) → IsStrictlySortedBy atom_cmp xs → AllPairs IsFactBefore (facts_of xs)
unfolding IsStrictlySortedBy
strict_facts [] h = λ i j d lt within. absurd (omega arith)
strict_facts (x ∷ xs) h =
    AllPairs-cons IsFactBefore (fact_of x) (facts_of xs)
    (All-map (IsFactBefore (fact_of x)) fact_of xs
    (All-weaker (λ y. atom_cmp x y ≡ Less) (λ y. IsFactBefore (fact_of x) (fact_of y)) (λ y e. fact_less (fact_of x) (fact_of y) e) xs
    (All-from_recursion (λ y. atom_cmp x y ≡ Less) xs h.0)))
    (strict_facts xs h.1)

-- what sorting and dropping equal neighbours leaves
pub sorted_once : (xs ys zs : List Atom) → IsPermutation xs ys → IsSorted atom_cmp ys → IsFiltered (DiffersFromLast atom_eq) [] ys zs → AreInOrder (facts_of xs) (facts_of zs)
sorted_once xs ys zs moved up filtered =
    let is : zs ≡ dedup atom_eq ys = dedup_is atom_eq ys zs filtered in
    record {
      ordered = strict_facts zs (subst (IsStrictlySortedBy atom_cmp) (sym is) (IsStrictlySortedBy-dedup atom_total atom_ties ys up));
      exact = λ f. (back f is, forth f is);
    } where
      back : (f : Fact) → zs ≡ dedup atom_eq ys → Contains (facts_of zs) f → Contains (facts_of xs) f
      back f is h =
          let w = contains-from_map fact_of zs f h in
          let a : Contains (dedup atom_eq ys) w.0 = subst (λ l. Contains l w.0) is w.1 in
          let b : Contains xs w.0 = Contains-permutation ys xs w.0 (IsPermutation-sym xs ys moved) (Contains-from_dedup atom_eq ys w.0 a) in
          subst (Contains (facts_of xs)) w.2 (contains-map fact_of xs w.0 b)

      forth : (f : Fact) → zs ≡ dedup atom_eq ys → Contains (facts_of xs) f → Contains (facts_of zs) f
      forth f is h =
          let w = contains-from_map fact_of xs f h in
          let b : Contains ys w.0 = Contains-permutation xs ys w.0 moved w.1 in
          let a = Any-dedup atom_equiv ys w.0 b in
          let c : Contains (dedup atom_eq ys) a.1 = (a.0, a.2, a.3) in
          let same : fact_of w.0 ≡ fact_of a.1 = same_fact_is (fact_of w.0) (fact_of a.1) a.4 in
          subst (Contains (facts_of zs)) (sym same ∙ w.2) (contains-map fact_of zs a.1 (subst (λ l. Contains l a.1) (sym is) c))

-- the place of an atom
some_place : (n m i : ℕ) → m ≡ i → i < n → cond (nat_lt m n) (Some m) None ≡ Some i
some_place n m i e lt = grind (arith, nat_tests)

nowhere : Option ℕ
nowhere = None

no_place : (n m : ℕ) → n ≤ m → cond (nat_lt m n) (Some m) nowhere ≡ nowhere
unfolding nowhere
no_place n m le = grind (arith, nat_tests)

not_same : (b : Bool) → (b ≡ true → ⊥) → b ≡ false
not_same true h = absurd (h refl)
not_same false h = refl

before_apart : (a b : Fact) → IsFactBefore a b → a ≡ b → ⊥
before_apart a b h e =
    let less : fact_cmp a b ≡ Less = less_fact a b h in
    let tied : fact_cmp a b ≡ Equal = ap (fact_cmp a) (sym e) ∙ fact_itself a in
    cc

pub place-at : (xs : List Fact) (f : Fact) (i : ℕ) → AllPairs IsFactBefore xs → i < length xs → get_or xs i f ≡ f → place_of xs f ≡ Some i
unfolding place_of
place-at xs f i ordered lt e =
    some_place (length xs) (position_or_len (same_fact f) xs) i
    (position_or_len_is (same_fact f) xs i f (omega arith)
    (λ k less. not_same (same_fact f (get_or xs k f)) (λ same. before_apart (get_or xs k f) (get_or xs i f) (ordered k i f less lt) (sym (same_fact_is f (get_or xs k f) same) ∙ sym e)))
    (λ within. subst (λ g. same_fact f g ≡ true) (sym e) (same_fact_itself f)))
    lt

pub at-place : (xs : List Fact) (f : Fact) (i : ℕ) → place_of xs f ≡ Some i → slice_get xs i ≡ Some f
unfolding place_of
at-place xs f i e =
    let h = position-Some (same_fact f) xs i f e in
    slice_get_read xs (length xs) i f refl h.0 (same_fact_is f (get_or xs i f) h.1)

pub place-none : (xs : List Fact) (f : Fact) → (Contains xs f → ⊥) → place_of xs f ≡ None
unfolding place_of nowhere
place-none xs f none =
    no_place (length xs) (position_or_len (same_fact f) xs)
    (let e : position_or_len (same_fact f) xs ≡ length xs =
    position_or_len_is (same_fact f) xs (length xs) f (omega arith)
    (λ k lt. not_same (same_fact f (get_or xs k f)) (λ same. none (k, lt, sym (same_fact_is f (get_or xs k f) same))))
    (λ lt. absurd (omega arith)) in
    omega (arith, e))

pub place-within : (xs : List Fact) (f : Fact) (i : ℕ) → place_of xs f ≡ Some i → i < length xs
place-within xs f i e = slice_get_within xs i f (at-place xs f i e)

-- an atom that is in a list in order has a place there
pub place-found : (xs : List Fact) (f : Fact) (i : ℕ) → AllPairs IsFactBefore xs → slice_get xs i ≡ Some f → place_of xs f ≡ Some i
place-found xs f i ordered e = place-at xs f i ordered (slice_get_within xs i f e) (get_or_from_slice_get xs i f f e)

-- atoms in order are sorted for the search
sorted_atoms : (xs : List Atom) → AllPairs IsFactBefore (facts_of xs) → IsSortedBy (λ a b. is_lt (atom_cmp a b)) xs
sorted_atoms xs ordered k d low lt =
    let size : length (facts_of xs) ≡ length xs = length-map xs fact_of in
    let before : IsFactBefore (get_or (facts_of xs) k (fact_of d)) (get_or (facts_of xs) (k + 1) (fact_of d)) = ordered k (k + 1) (fact_of d) (omega arith) (omega arith) in
    let first : get_or (facts_of xs) k (fact_of d) ≡ fact_of (get_or xs k d) = get_or-map fact_of xs k d in
    let second : get_or (facts_of xs) (k + 1) (fact_of d) ≡ fact_of (get_or xs (k + 1) d) = get_or-map fact_of xs (k + 1) d in
    let here : IsFactBefore (fact_of (get_or xs k d)) (fact_of (get_or xs (k + 1) d)) = subst (λ a. IsFactBefore a (fact_of (get_or xs (k + 1) d))) first (subst (IsFactBefore (get_or (facts_of xs) k (fact_of d))) second before) in
    let less : atom_cmp (get_or xs k d) (get_or xs (k + 1) d) ≡ Less = less_fact (fact_of (get_or xs k d)) (fact_of (get_or xs (k + 1) d)) here in
    ap is_lt (atom_total.antisymm (get_or xs (k + 1) d) (get_or xs k d) ∙ ap ordering_reverse less)

lt_or_le : (a b : ℕ) → (a < b) ⊎ (b ≤ a)
lt_or_le a b = grind arith

-- what a search among atoms in order found is the place
pub found_place : (xs : List Atom) (x : Atom) (r : Result ℕ ℕ) → AllPairs IsFactBefore (facts_of xs) → IsSearchInRange r (length xs)
    → IsBinarySearchResult (λ y. atom_cmp y x) xs r → place_of (facts_of xs) (fact_of x) ≡ result_ok r
found_place xs x (Ok i) ordered within found =
    let size : length (facts_of xs) ≡ length xs = length-map xs fact_of in
    place-at (facts_of xs) (fact_of x) i ordered (omega arith)
    (get_or-map fact_of xs i x ∙ fact_same (fact_of (get_or xs i x)) (fact_of x) (found x))
found_place xs x (Err i) ordered within found =
    let part = found (searchable_from_sorted atom_total (λ a. a) xs x (sorted_atoms xs ordered)) in
    place-none (facts_of xs) (fact_of x) (λ h.
    let size : length (facts_of xs) ≡ length xs = length-map xs fact_of in
    let k = h.0 in
    let lt : k < length (facts_of xs) = h.1 in
    let same : fact_of (get_or xs k x) ≡ fact_of x = sym (get_or-map fact_of xs k x) ∙ h.2 in
    let tied : atom_cmp (get_or xs k x) x ≡ Equal = ap (λ f. fact_cmp f (fact_of x)) same ∙ fact_itself (fact_of x) in
    elim (lt_or_le k i) [
      | inl less ↦ let low : atom_cmp (get_or xs k x) x ≡ Less = part.0 k x (omega arith) less in let z : ⊥ = cc in z
      | inr le ↦ let high : atom_cmp (get_or xs k x) x ≡ Greater = part.1 k x le (omega arith) in let z : ⊥ = cc in z
    ])

-- an atom is in a list where the test says so
pub has-contains : (xs : List Fact) (f : Fact) → has xs f ≡ true → Contains xs f
has-contains xs f h = all_has (Contains xs) xs f (All-contains_itself xs) h

pub contains-has : (xs : List Fact) (f : Fact) → Contains xs f → has xs f ≡ true
contains-has xs f h = subst (λ g. has xs g ≡ true) h.2 (has_at xs h.0 f h.1)

some_of : (o : Option ℕ) → is_some o ≡ true → (i : ℕ) × (o ≡ Some i)
some_of None h = cc
some_of (Some i) h = (i, refl)

-- an atom in order has a place where it is in the list
pub some-place : (xs : List Fact) (f : Fact) → AllPairs IsFactBefore xs → is_some (place_of xs f) ≡ has xs f
some-place xs f ordered =
    bool_same (is_some (place_of xs f)) (has xs f)
    (λ h. let w = some_of (place_of xs f) h in
    let at : slice_get xs w.0 ≡ Some f = at-place xs f w.0 w.1 in
    contains-has xs f (w.0, slice_get_within xs w.0 f at, get_or_from_slice_get xs w.0 f f at))
    (λ h. let w = has-contains xs f h in ap is_some (place-at xs f w.0 ordered w.1 w.2))

-- sorting changes no membership
pub same-atoms : (xs sorted : List Fact) (f : Fact) → AreInOrder xs sorted → has sorted f ≡ has xs f
same-atoms xs sorted f order =
    bool_same (has sorted f) (has xs f)
    (λ h. contains-has xs f ((order.exact f).0 (has-contains sorted f h)))
    (λ h. contains-has sorted f ((order.exact f).1 (has-contains xs f h)))

-- what holds of the atoms of a list holds of the one at a place
pub fact-at : (P : Fact → Type 0) (atoms : List Atom) (k : ℕ) (d : Atom) → k < length atoms → All P (facts_of atoms) → P (fact_of (get_or atoms k d))
fact-at P atoms k d lt all =
    let size : length (facts_of atoms) ≡ length atoms = length-map atoms fact_of in
    subst P (get_or-map fact_of atoms k d) (all k (fact_of d) (omega arith))
