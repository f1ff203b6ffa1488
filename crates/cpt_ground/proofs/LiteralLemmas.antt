use Rattle.std.proofs.Common.{◌≡◌, ℕ, zero, suc, ◌+◌, ◌<◌, inl, inr, Bool, true, ◌||◌, not, nat_eq, Option, None, Some, List, [], ◌∷◌, ◌++◌, length, map, Contains, refl, sym, ap, ◌∙◌, subst, arith}
use Rattle.std.specs.Prelude.{◌↔◌, AllPairs, flat_map, slice_get}
use Rattle.std.specs.List.{dedup, filter, list_any}
use Rattle.std.specs.List.Retain.{IsFiltered, DiffersFromLast}
use Rattle.std.specs.List.Sorted.{IsPermutation, IsStrictlyIncreasing}
use Rattle.std.specs.Option.{option_map}
use Rattle.std.proofs.lemmas.List.{length-map}
use Rattle.std.proofs.lemmas.List.Elements.{All-append, All-map, Contains-append_cases, Contains-append_left, Contains-append_right}
use Rattle.std.proofs.lemmas.List.Filters.{dedup_is}
use Rattle.std.proofs.lemmas.List.Folds.{list_any-append}
use Rattle.std.proofs.lemmas.List.Kept.{AllPairs-cons, Contains-dedup_nat, Contains-from_dedup}
use Rattle.std.proofs.lemmas.List.Sorted.{Contains-permutation, IsPermutation-sym}
use Rattle.std.proofs.lemmas.Option.{slice_get-map}
use Rattle.cpt_facts.specs.declared.problem.Fact.{Fact}
use Rattle.cpt_ground.specs.declared.atoms.Atom.{Atom}
use Rattle.cpt_ground.specs.declared.literals.Literals.{Literals}
use Rattle.cpt_ground.specs.Atoms.{AreInOrder, fact_of, facts_of, place_of}
use Rattle.cpt_ground.specs.Compiled.{Literal, there, missing, is_used, AreLiterals, AreNumbers, IsFactBefore, IsLiteralBefore}
use Rattle.cpt_ground.specs.Literals.{AreSame, AreSorted, absent_atoms, complement_number, complement_numbers, is_chosen, literals_of, plain_atoms, plain_number, plain_numbers, plain_of, unheld_numbers}
use Rattle.cpt_ground.specs.Signed.{Signed, SignedAction, has, same_fact}
use Rattle.cpt_ground.proofs.AtomLemmas.{at-place, contains-has, has-contains, place-found, place-within, same-atoms}
use Rattle.cpt_ground.proofs.Facts.{and_true, any_same, both}
use Rattle.cpt_ground.proofs.ListLemmas.{any-flat_map, contains-filter, contains-filter_map, contains-from_filter, contains-from_filter_map, contains-from_map, contains-map, first_before, pairs-map, rest_ordered}

-- the literals of two lists
abbrev pub both_of : List Fact → List Fact → List Literal
both_of A B = map there A ++ map missing B

-- those of two lists in order are in order
literals-ordered : (A B : List Fact) → AllPairs IsFactBefore A → AllPairs IsFactBefore B → AllPairs IsLiteralBefore (both_of A B)
literals-ordered [] B a b = pairs-map IsLiteralBefore missing B b
literals-ordered (f ∷ A) B a b =
    AllPairs-cons IsLiteralBefore (there f) (both_of A B)
    (All-append (IsLiteralBefore (there f)) (map there A) (map missing B)
    (All-map (IsLiteralBefore (there f)) there A (first_before IsFactBefore f A a))
    (All-map (IsLiteralBefore (there f)) missing B (λ k d lt. tt)))
    (literals-ordered A B (rest_ordered IsFactBefore f A a) b)

-- the plain atoms of a task are those that it uses
plain-used : (s : Signed) (f : Fact) → has (plain_atoms s) f ≡ is_used s (there f)
plain-used s f =
    let p = same_fact f in
    list_any-append p (s.init ++ s.goal) (flat_map plain_of s.actions)
    ∙ ap (λ b. b || list_any p (flat_map plain_of s.actions)) (list_any-append p s.init s.goal)
    ∙ ap (λ b. (has s.init f || has s.goal f) || b) (any-flat_map p plain_of s.actions
    ∙ any_same (λ (a : SignedAction). list_any p (plain_of a)) (λ (a : SignedAction). (has a.present f || has a.add f) || has a.dele f)
    (λ a. list_any-append p (a.present ++ a.add) a.dele ∙ ap (λ b. b || list_any p a.dele) (list_any-append p a.present a.add)) s.actions)

absent-used : (s : Signed) (f : Fact) → has (absent_atoms s) f ≡ is_used s (missing f)
absent-used s f =
    let p = same_fact f in
    list_any-append p s.absent (flat_map (λ (a : SignedAction). a.absent) s.actions)
    ∙ ap (λ b. has s.absent f || b) (any-flat_map p (λ (a : SignedAction). a.absent) s.actions)

-- a literal of two lists
there-in : (A B : List Fact) (f : Fact) → Contains A f → Contains (both_of A B) (there f)
there-in A B f h = Contains-append_left (map there A) (map missing B) (there f) (contains-map there A f h)

missing-in : (A B : List Fact) (f : Fact) → Contains B f → Contains (both_of A B) (missing f)
missing-in A B f h = Contains-append_right (map there A) (map missing B) (missing f) (contains-map missing B f h)

in-there : (A B : List Fact) (f : Fact) → Contains (both_of A B) (there f) → Contains A f
in-there A B f h =
    elim (Contains-append_cases (map there A) (map missing B) (there f) h) [
      | inl first ↦ let w = contains-from_map there A (there f) first in let e : w.0 ≡ f = (let g : there w.0 ≡ there f = w.2 in cc) in subst (Contains A) e w.1
      | inr second ↦ let w = contains-from_map missing B (there f) second in let g : missing w.0 ≡ there f = w.2 in cc
    ]

in-missing : (A B : List Fact) (f : Fact) → Contains (both_of A B) (missing f) → Contains B f
in-missing A B f h =
    elim (Contains-append_cases (map there A) (map missing B) (missing f) h) [
      | inl first ↦ let w = contains-from_map there A (missing f) first in let g : there w.0 ≡ missing f = w.2 in cc
      | inr second ↦ let w = contains-from_map missing B (missing f) second in let e : w.0 ≡ f = (let g : missing w.0 ≡ missing f = w.2 in cc) in subst (Contains B) e w.1
    ]

exactly-used : (s : Signed) (A B : List Fact) → AreInOrder (plain_atoms s) A → AreInOrder (absent_atoms s) B → (l : Literal) → Contains (both_of A B) l ↔ (is_used s l ≡ true)
exactly-used s A B a b (there f) = (
  λ h. sym (plain-used s f) ∙ contains-has (plain_atoms s) f ((a.exact f).0 (in-there A B f h)),
  λ e. there-in A B f ((a.exact f).1 (has-contains (plain_atoms s) f (plain-used s f ∙ e))),
)
exactly-used s A B a b (missing f) = (
  λ h. sym (absent-used s f) ∙ contains-has (absent_atoms s) f ((b.exact f).0 (in-missing A B f h)),
  λ e. missing-in A B f ((b.exact f).1 (has-contains (absent_atoms s) f (absent-used s f ∙ e))),
)

-- the plain atoms and the complements of a task, each in order, are its literals
pub listed : (s : Signed) (A B : List Fact) → AreInOrder (plain_atoms s) A → AreInOrder (absent_atoms s) B → AreLiterals s (both_of A B)
listed s A B a b = record { exact = exactly-used s A B a b; ordered = literals-ordered A B a.ordered b.ordered }

-- the literal of a number
there-at : (A B : List Fact) (n : ℕ) (f : Fact) → slice_get A n ≡ Some f → slice_get (both_of A B) n ≡ Some (there f)
there-at [] B n f e = cc
there-at (a ∷ A) B zero f e = ap (option_map there) e
there-at (a ∷ A) B (suc n) f e = there-at A B n f e

missing-at : (A B : List Fact) (n k : ℕ) (f : Fact) → n ≡ length A + k → slice_get B k ≡ Some f → slice_get (both_of A B) n ≡ Some (missing f)
missing-at [] B n k f same e =
    let here : n ≡ k = omega arith in
    slice_get-map missing B n ∙ ap (option_map missing) (ap (slice_get B) here ∙ e)
missing-at (a ∷ A) B zero k f same e = absurd (omega arith)
missing-at (a ∷ A) B (suc n) k f same e = missing-at A B n k f (omega arith) e

no_there : (o : Option Fact) (f : Fact) → option_map missing o ≡ Some (there f) → ⊥
no_there None f e = cc
no_there (Some g) f e = cc

is_missing : (o : Option Fact) (f : Fact) → option_map missing o ≡ Some (missing f) → o ≡ Some f
is_missing None f e = cc
is_missing (Some g) f e = cc

at-there : (A B : List Fact) (n : ℕ) (f : Fact) → slice_get (both_of A B) n ≡ Some (there f) → slice_get A n ≡ Some f
at-there [] B n f e = absurd (no_there (slice_get B n) f (sym (slice_get-map missing B n) ∙ e))
at-there (a ∷ A) B zero f e = cc
at-there (a ∷ A) B (suc n) f e = at-there A B n f e

pub at-missing : (A B : List Fact) (n : ℕ) (f : Fact) → slice_get (both_of A B) n ≡ Some (missing f) → (k : ℕ) × (n ≡ length A + k) × (slice_get B k ≡ Some f)
at-missing [] B n f e = (n, omega arith, is_missing (slice_get B n) f (sym (slice_get-map missing B n) ∙ e))
at-missing (a ∷ A) B zero f e = cc
at-missing (a ∷ A) B (suc n) f e = let w = at-missing A B n f e in (w.0, (let v : n ≡ length A + w.0 = w.1 in omega arith), w.2)

-- the place behind the number of a complement
behind : (size : ℕ) (o : Option ℕ) (n : ℕ) → option_map (λ k. size + k) o ≡ Some n → (k : ℕ) × (o ≡ Some k) × (n ≡ size + k)
behind size None n e = cc
behind size (Some k) n e = (k, refl, (let f : Some (size + k) ≡ Some n = e in let g : size + k ≡ n = cc in sym g))

pub size_of : (atoms : List Atom) → length (facts_of atoms) ≡ length atoms
size_of atoms = length-map atoms fact_of

-- the number of a complement fits
pub complement-fits : (l : Literals) (f : Fact) (k : ℕ) → place_of (facts_of l.complements.items) f ≡ Some k → k < length l.complements.items
complement-fits l f k e = let w : k < length (facts_of l.complements.items) = place-within (facts_of l.complements.items) f k e in omega (arith, size_of l.complements.items)

-- what the numbers stand for
plain-passes : (l : Literals) (present absent but : List Fact) (n : ℕ) → Contains (plain_numbers l present) n
    → (x : Literal) × (slice_get (literals_of l) n ≡ Some x) × (is_chosen present absent but x ≡ true)
plain-passes l present absent but n h =
    let A = facts_of l.plain.items in
    let w = contains-from_filter_map (plain_number l) present n h in
    (there w.0, there-at A (facts_of l.complements.items) n w.0 (at-place A w.0 n w.2), contains-has present w.0 w.1)

complement-passes : (l : Literals) (present absent but : List Fact) (n : ℕ) → Contains (complement_numbers l absent but) n
    → (x : Literal) × (slice_get (literals_of l) n ≡ Some x) × (is_chosen present absent but x ≡ true)
complement-passes l present absent but n h =
    let A = facts_of l.plain.items in
    let B = facts_of l.complements.items in
    let kept : Fact → Bool = λ f. not (has but f) in
    let w = contains-from_filter_map (complement_number l) (filter kept absent) n h in
    let v = contains-from_filter kept absent w.0 w.1 in
    let u = behind (length l.plain.items) (place_of B w.0) n w.2 in
    let same : n ≡ length A + u.0 = (let e : n ≡ length l.plain.items + u.0 = u.2 in omega (arith, size_of l.plain.items)) in
    (missing w.0, missing-at A B n u.0 w.0 same (at-place B w.0 u.0 u.1), and_true (has absent w.0) (kept w.0) (contains-has absent w.0 v.0) v.1)

-- and the other way round
passes-numbers : (l : Literals) (present absent but : List Fact) (n : ℕ) (x : Literal) → AreSorted l → slice_get (literals_of l) n ≡ Some x → is_chosen present absent but x ≡ true
    → Contains (plain_numbers l present ++ complement_numbers l absent but) n
passes-numbers l present absent but n (there f) sorted e t =
    let A = facts_of l.plain.items in
    let B = facts_of l.complements.items in
    Contains-append_left (plain_numbers l present) (complement_numbers l absent but) n
    (contains-filter_map (plain_number l) present f n (has-contains present f t) (place-found A f n sorted.plain (at-there A B n f e)))
passes-numbers l present absent but n (missing f) sorted e t =
    let A = facts_of l.plain.items in
    let B = facts_of l.complements.items in
    let kept : Fact → Bool = λ g. not (has but g) in
    let w = both (has absent f) (kept f) t in
    let u = at-missing A B n f e in
    let place : place_of B f ≡ Some u.0 = place-found B f u.0 sorted.complements u.2 in
    let same : length l.plain.items + u.0 ≡ n = (let v : n ≡ length A + u.0 = u.1 in omega (arith, size_of l.plain.items)) in
    Contains-append_right (plain_numbers l present) (complement_numbers l absent but) n
    (contains-filter_map (complement_number l) (filter kept absent) f n (contains-filter kept absent f (has-contains absent f w.0) w.1)
    (ap (option_map (λ k. length l.plain.items + k)) place ∙ ap Some same))

-- the numbers, increasing, are those of the chosen literals
pub chosen : (l : Literals) (present absent but : List Fact) (ns : List ℕ) → AreSorted l → IsStrictlyIncreasing ns
    → AreSame ns (plain_numbers l present ++ complement_numbers l absent but) → AreNumbers (literals_of l) (is_chosen present absent but) ns
chosen l present absent but ns sorted up same = record {
  ordered = up;
  exact = λ n. (
    λ h. elim (Contains-append_cases (plain_numbers l present) (complement_numbers l absent but) n ((same n).0 h)) [
      | inl first ↦ plain-passes l present absent but n first
      | inr second ↦ complement-passes l present absent but n second
    ],
    λ w. (same n).1 (passes-numbers l present absent but n w.0 sorted w.1 w.2),
  );
}

-- the complements of the atoms that do not hold at first
unheld-back : (l : Literals) (init holding : List Fact) (n : ℕ) → AreInOrder init holding → Contains (unheld_numbers l holding) n → Contains (complement_numbers l (facts_of l.complements.items) init) n
unheld-back l init holding n order h =
    let free : Atom → Bool = λ a. not (has holding (fact_of a)) in
    let kept : Fact → Bool = λ f. not (has init f) in
    let w = contains-from_filter_map (λ a. complement_number l (fact_of a)) (filter free l.complements.items) n h in
    let v = contains-from_filter free l.complements.items w.0 w.1 in
    contains-filter_map (complement_number l) (filter kept (facts_of l.complements.items)) (fact_of w.0) n
    (contains-filter kept (facts_of l.complements.items) (fact_of w.0) (contains-map fact_of l.complements.items w.0 v.0) (ap not (sym (same-atoms init holding (fact_of w.0) order)) ∙ v.1))
    w.2

unheld-forth : (l : Literals) (init holding : List Fact) (n : ℕ) → AreInOrder init holding → Contains (complement_numbers l (facts_of l.complements.items) init) n → Contains (unheld_numbers l holding) n
unheld-forth l init holding n order h =
    let free : Atom → Bool = λ a. not (has holding (fact_of a)) in
    let kept : Fact → Bool = λ f. not (has init f) in
    let w = contains-from_filter_map (complement_number l) (filter kept (facts_of l.complements.items)) n h in
    let v = contains-from_filter kept (facts_of l.complements.items) w.0 w.1 in
    let u = contains-from_map fact_of l.complements.items w.0 v.0 in
    contains-filter_map (λ a. complement_number l (fact_of a)) (filter free l.complements.items) u.0 n
    (contains-filter free l.complements.items u.0 u.1 (ap not (same-atoms init holding (fact_of u.0) order ∙ ap (has init) u.2) ∙ v.1))
    (ap (complement_number l) u.2 ∙ w.2)

joined : (xs ys zs : List ℕ) (n : ℕ) → (Contains ys n → Contains zs n) → Contains (xs ++ ys) n → Contains (xs ++ zs) n
joined xs ys zs n f h =
    elim (Contains-append_cases xs ys n h) [
      | inl first ↦ Contains-append_left xs zs n first
      | inr second ↦ Contains-append_right xs zs n (f second)
    ]

-- the numbers, increasing, are those of what holds at first
pub initially : (l : Literals) (init holding : List Fact) (ns : List ℕ) → AreSorted l → AreInOrder init holding → IsStrictlyIncreasing ns
    → AreSame ns (plain_numbers l init ++ unheld_numbers l holding) → AreNumbers (literals_of l) (is_chosen init (facts_of l.complements.items) init) ns
initially l init holding ns sorted order up same =
    let P = plain_numbers l init in
    let C = complement_numbers l (facts_of l.complements.items) init in
    let U = unheld_numbers l holding in
    chosen l init (facts_of l.complements.items) init ns sorted up
    (λ n. (λ h. joined P U C n (unheld-back l init holding n order) ((same n).0 h), λ h. (same n).1 (joined P C U n (unheld-forth l init holding n order) h)))

-- what sorting and dropping equal neighbours leaves has the same numbers
pub same-numbers : (xs ys zs : List ℕ) → IsPermutation xs ys → IsFiltered (DiffersFromLast nat_eq) [] ys zs → AreSame zs xs
same-numbers xs ys zs moved filtered n =
    let is : zs ≡ dedup nat_eq ys = dedup_is nat_eq ys zs filtered in (
      λ h. Contains-permutation ys xs n (IsPermutation-sym xs ys moved) (Contains-from_dedup nat_eq ys n (subst (λ l. Contains l n) is h)),
      λ h. subst (λ l. Contains l n) (sym is) (Contains-dedup_nat ys n (Contains-permutation xs ys n moved h)),
    )
