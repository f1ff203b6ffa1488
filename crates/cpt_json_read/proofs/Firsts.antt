-- The first item of which something does not hold.
use Rattle.std.proofs.Common.{◌≡◌, ℕ, zero, suc, ◌+◌, ◌<◌, ◌≤◌, inl, inr, List, [], ◌∷◌, length, get_or, Option, Some, All, refl, sym, ap, ◌∙◌, subst, arith}
use Rattle.std.specs.Prelude.{slice_get, slice_index_or}
use Rattle.std.proofs.lemmas.Bool.{cases_lt}
use Rattle.cpt_json_form.specs.Steps.{IsFirstNot}

get_at : {A : Type 0} (xs : List A) (i : ℕ) (d : A) → i < length xs → slice_get xs i ≡ Some (slice_index_or xs i d)
get_at [] i d lt = absurd (omega (arith, lt))
get_at (x ∷ xs) zero d lt = refl
get_at (x ∷ xs) (suc i) d lt = get_at xs i d (omega (arith, lt))

got : {A : Type 0} (xs : List A) (k : ℕ) (x : A) → k < length xs → x ≡ get_or xs k x → slice_get xs k ≡ Some x
got xs k x lt is = get_at xs k x lt ∙ ap Some (sym is)

some_is : {A : Type 0} (o : Option A) (x y : A) → o ≡ Some x → o ≡ Some y → x ≡ y
some_is o x y h k = cc

-- it holds of each item before a place
abbrev pub HoldsBefore : {A : Type 0} → (A → Type 0) → List A → ℕ → Type 0
HoldsBefore {A} P xs k = (j : ℕ) (y : A) → j < k → slice_get xs j ≡ Some y → P y

pub one_more : {A : Type 0} (P : A → Type 0) (xs : List A) (k : ℕ) (x : A) → k < length xs → x ≡ get_or xs k x → P x → HoldsBefore P xs k → HoldsBefore P xs (k + 1)
one_more P xs k x lt is p before j y low h = elim (cases_lt j k) [
  | inl less ↦ before j y less h
  | inr not ↦
      let same : j ≡ k = omega (arith, low, not) in
      subst P (some_is (slice_get xs k) x y (got xs k x lt is) (ap (slice_get xs) (sym same) ∙ h)) p
]

pub first_not : {A : Type 0} (P : A → Type 0) (xs : List A) (k : ℕ) (x : A) → k < length xs → x ≡ get_or xs k x → (P x → ⊥) → HoldsBefore P xs k → IsFirstNot P xs k
first_not P xs k x lt is not before = record { first = x; here = got xs k x lt is; not = not; before = before }

pub holds_all : {A : Type 0} (P : A → Type 0) (xs : List A) (k : ℕ) → length xs ≤ k → HoldsBefore P xs k → All P xs
holds_all P xs k end before = λ i d lt. before i (slice_index_or xs i d) (omega (arith, end, lt)) (get_at xs i d lt)
