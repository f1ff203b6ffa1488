use Rattle.std.proofs.Common.{◌≡◌, ℕ, suc, ◌+◌, ◌<◌, ◌∷◌, [], Bool, true, false, List, length, inl, inr, refl, ap, ◌∙◌, sym, subst, arith}
use Rattle.std.specs.Prelude.{◌⊎◌, if◌then◌else◌, Result, Ok, Err, Option, None, Some}
use Rattle.std.specs.Str.{bytes_eq}
use Rattle.std.proofs.lemmas.Slice.Eq.{bytes_eq-Decides}
use Rattle.cpt_pddl.specs.declared.fault.Fault.{Fault}
use Rattle.cpt_pddl.specs.Faults.{◌>>=◌, or_fault}
use Rattle.cpt_pddl.specs.Items.{Items}
use Rattle.cpt_pddl.specs.Names.{place_from, place_in}
use Rattle.cpt_pddl.specs.Reading.{group_at, nothing}
use Rattle.cpt_domain_spelling.specs.Names.{named}

-- what is read, where it is read, is so
abbrev pub Holds : {A : Type 0} → (A → Type 0) → Result A Fault → Type 0
Holds P (Ok x) = P x
Holds P (Err e) = Unit {0}

-- what is read in two steps
pub holds_bind : {A B : Type 0} → (P : A → Type 0) (Q : B → Type 0) (r : Result A Fault) (f : A → Result B Fault)
    → Holds P r → ((x : A) → P x → Holds Q (f x)) → Holds Q (r >>= f)
holds_bind P Q (Ok x) f h g = g x h
holds_bind P Q (Err e) f h g = tt

-- what is read in two steps, whatever the first gives
pub holds_after : {A B : Type 0} → (Q : B → Type 0) (r : Result A Fault) (f : A → Result B Fault) → ((x : A) → Holds Q (f x)) → Holds Q (r >>= f)
holds_after Q (Ok x) f g = g x
holds_after Q (Err e) f g = tt

-- two things that are so
pub holds_both : {A : Type 0} → (P Q : A → Type 0) (r : Result A Fault) → Holds P r → Holds Q r → Holds (λ x. P x × Q x) r
holds_both P Q (Ok x) h k = (h, k)
holds_both P Q (Err e) h k = tt

-- what is read after a test
pub holds_if : {A : Type 0} → (P : A → Type 0) (b : Bool) (x y : Result A Fault) → (b ≡ true → Holds P x) → (b ≡ false → Holds P y) → Holds P (if b then x else y)
holds_if P true x y h k = h refl
holds_if P false x y h k = k refl

-- a value that is there
pub holds_found : {A : Type 0} → (P : A → Type 0) (e : Fault) (o : Option A) → ((x : A) → o ≡ Some x → P x) → Holds P (or_fault e o)
holds_found P e None h = tt
holds_found P e (Some x) h = h x refl

-- what is read of a group, and nothing behind it
pub grouped : {A : Type 0} → (P : A → Type 0) (f : ℕ → Items → Result A Fault) (items : Items) → ((at : ℕ) (inside : Items) → Holds P (f at inside))
    → Holds P (group_at items >>= (λ found. f found.0 found.1 >>= (λ more. nothing found.2 >>= (λ _. Ok more))))
grouped P f items h =
    holds_after P (group_at items) _
    (λ found. holds_bind P P (f found.0 found.1) (λ more. nothing found.2 >>= (λ _. Ok more)) (h found.0 found.1)
    (λ more k. holds_after P (nothing found.2) (λ _. Ok more) (λ _. k)))

-- what was read, by its equation
pub holds_ok : {A : Type 0} → (P : A → Type 0) (r : Result A Fault) (x : A) → r ≡ Ok x → Holds P r → P x
holds_ok P (Ok y) x e h = let same : y ≡ x = cc in subst P same h
holds_ok P (Err f) x e h = absurd (cc)

chosen : {A : Type 0} → (b : Bool) (x y z : A) → (if b then x else y) ≡ z → ((b ≡ true) × (x ≡ z)) ⊎ ((b ≡ false) × (y ≡ z))
chosen true x y z h = inl (refl, h)
chosen false x y z h = inr (refl, h)

-- a place among names is that of the name
pub record IsPlace (names : List (List ℕ)) (w : List ℕ) (n : ℕ) : Type 0 where
  pub within : n < length names
  pub name : named names n ≡ w

place_from_names : (names : List (List ℕ)) (k : ℕ) (w : List ℕ) (n : ℕ) → place_from names k w ≡ Some n → (i : ℕ) × (n ≡ k + i) × (i < length names) × (named names i ≡ w)
place_from_names [] k w n h = absurd (cc)
place_from_names (v ∷ names) k w n h =
    elim (chosen (bytes_eq v w) (Some k) (place_from names (k + 1) w) (Some n) h) [
      | inl x ↦ let e : Some k ≡ Some n = x.1 in let f : k ≡ n = cc in (0, omega (arith, f), omega arith, (bytes_eq-Decides v w).0 x.0)
      | inr x ↦
          let m = place_from_names names (k + 1) w n x.1 in
          let e = m.1 in
          let lt = m.2 in
          (suc m.0, omega (arith, e), omega (arith, lt), m.3)
    ]

pub place_name : (names : List (List ℕ)) (w : List ℕ) (n : ℕ) → place_in names w ≡ Some n → IsPlace names w n
unfolding place_in
place_name names w n h =
    let m = place_from_names names 0 w n h in
    let same : m.0 ≡ n = let e = m.1 in omega (arith, e) in
    record { within = let lt = m.2 in omega (arith, same, lt); name = ap (named names) (sym same) ∙ m.3 }
