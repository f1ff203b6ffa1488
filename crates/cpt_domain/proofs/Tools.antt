use Rattle.std.proofs.Common.{◌≡◌, ℕ, suc, zero, ◌<◌, ◌≤◌, ◌+◌, ◌++◌, ◌∷◌, [], Bool, true, false, List, length, All, inl, inr, refl, ap, subst, arith}
use Rattle.std.specs.Prelude.{if◌then◌else◌, ◌⊎◌, Result, Ok, Err, Option, None, Some, replicate}
use Rattle.std.proofs.lemmas.List.{length-append}
use Rattle.std.proofs.lemmas.List.Elements.{All-append, All-cons, All-nil}
use Rattle.cpt_pddl.specs.declared.fault.Fault.{Fault}
use Rattle.cpt_pddl.specs.Faults.{◌>>=◌, or_fault}
pub use Rattle.cpt_pddl.proofs.PlaceLemmas.{place_below}
use Rattle.cpt_domain.specs.SoundKinds.{AreBelow}

-- what is read, where it is read, is so
abbrev pub Holds : {A : Type 0} → (A → Type 0) → Result A Fault → Type 0
Holds P (Ok x) = P x
Holds P (Err e) = Unit {0}

-- what is read in two steps
pub holds_bind : {A B : Type 0} → (P : A → Type 0) (Q : B → Type 0) (r : Result A Fault) (f : A → Result B Fault)
    → Holds P r → ((x : A) → P x → Holds Q (f x)) → Holds Q (r >>= f)
holds_bind P Q (Ok x) f h g = g x h
holds_bind P Q (Err e) f h g = tt

-- anything that is read
pub holds_any : {A : Type 0} → (r : Result A Fault) → Holds (λ _. Unit {0}) r
holds_any (Ok x) = tt
holds_any (Err e) = tt

-- what is read after a test
pub holds_if : {A : Type 0} → (P : A → Type 0) (b : Bool) (x y : Result A Fault) → (b ≡ true → Holds P x) → (b ≡ false → Holds P y) → Holds P (if b then x else y)
holds_if P true x y h k = h refl
holds_if P false x y h k = k refl

-- a value that is there
pub holds_found : {A : Type 0} → (P : A → Type 0) (e : Fault) (o : Option A) → ((x : A) → o ≡ Some x → P x) → Holds P (or_fault e o)
holds_found P e None h = tt
holds_found P e (Some x) h = h x refl

-- two things that are so
pub holds_both : {A : Type 0} → (P Q : A → Type 0) (r : Result A Fault) → Holds P r → Holds Q r → Holds (λ x. P x × Q x) r
holds_both P Q (Ok x) h k = (h, k)
holds_both P Q (Err e) h k = tt

-- what was read, by its equation
pub holds_ok : {A : Type 0} → (P : A → Type 0) (r : Result A Fault) (x : A) → r ≡ Ok x → Holds P r → P x
holds_ok P r x e h = subst (Holds P) e h

-- which way a test went
pub chosen : {A : Type 0} → (b : Bool) (x y z : A) → (if b then x else y) ≡ z → ((b ≡ true) × (x ≡ z)) ⊎ ((b ≡ false) × (y ≡ z))
chosen true x y z h = inl (refl, h)
chosen false x y z h = inr (refl, h)

-- numbers below a bound are below a greater one
pub more_below : (a b : ℕ) (ns : List ℕ) → a ≤ b → AreBelow a ns → AreBelow b ns
more_below a b ns h below = λ i x lt. let k = below i x lt in omega (arith, k)

pub length_end : {A : Type 0} → (xs : List A) (x : A) → length (xs ++ x ∷ []) ≡ length xs + 1
length_end xs x = length-append xs (x ∷ [])

-- one more at the end
pub all_end : {A : Type 0} → (P : A → Type 0) (xs : List A) (x : A) → All P xs → P x → All P (xs ++ x ∷ [])
all_end P xs x h k = All-append P xs (x ∷ []) h (All-cons P x [] k (All-nil P))

-- so many times one number
pub replicate_below : (bound n k : ℕ) → k < bound → AreBelow bound (replicate n k)
replicate_below bound zero k h = All-nil (λ m. m < bound)
replicate_below bound (suc n) k h = All-cons (λ m. m < bound) k (replicate n k) h (replicate_below bound n k h)

pub length_replicate : (n k : ℕ) → length (replicate n k) ≡ n
length_replicate zero k = refl
length_replicate (suc n) k = ap suc (length_replicate n k)
