-- laws of parts of candidate lists
use Rattle.std.proofs.Common.{◌≡◌, ◌≢◌, ℕ, ◌≤◌, ◌<◌, List, [], ◌∷◌, Bool, true, false, ◌||◌, if◌then◌else◌, length, refl, sym, ◌∙◌, ap, subst, arith, inl, inr}
use Rattle.std.proofs.lemmas.Bool.{or_cases, or_left, or_right, or_parts, eqb-true, eq-eqb}
use Rattle.cpt_sheet.specs.declared.data.Cand.{Cand}
use Rattle.cpt_sheet.specs.declared.data.Cand.TheVariants.{Tok, Out}
use Rattle.cpt_sheet.specs.View.{has, same}
use Rattle.cpt_sheet.specs.Edits.{without}
use Rattle.cpt_sheet.specs.Below.{Part}
use Rattle.cpt_sheet.specs.Below.Part.{done, skip, keep}
pub use Rattle.cpt_edits.proofs.Firsts.{removed_at, none_there}

pub same_is : (c d : Cand) → same c d ≡ true → c ≡ d
same_is (Tok x) (Tok y) h = ap Tok (eqb-true x y h)
same_is (Tok x) (Out y) h = cc
same_is (Out x) (Out y) h = ap Out (eqb-true x y h)
same_is (Out x) (Tok y) h = cc

pub same_self : (c : Cand) → same c c ≡ true
same_self (Tok x) = eq-eqb x x refl
same_self (Out x) = eq-eqb x x refl

pub Part-refl : (xs : List Cand) → Part xs xs
Part-refl [] = done
Part-refl (x ∷ xs) = keep (Part-refl xs)

pub Part-trans : {xs ys zs : List Cand} → Part xs ys → Part ys zs → Part xs zs
Part-trans h done = h
Part-trans h (skip k) = skip (Part-trans h k)
Part-trans (skip h) (keep k) = skip (Part-trans h k)
Part-trans (keep h) (keep k) = keep (Part-trans h k)

pub Part-length : {xs ys : List Cand} → Part xs ys → length xs ≤ length ys
Part-length done = omega arith
Part-length (skip h) = let k = Part-length h in omega arith
Part-length (keep h) = let k = Part-length h in omega arith

pub Part-full : {xs ys : List Cand} → Part xs ys → length ys ≤ length xs → xs ≡ ys
Part-full done e = refl
Part-full (skip h) e = let k = Part-length h in absurd (omega arith)
Part-full (keep {x} h) e = ap (λ l. x ∷ l) (Part-full h (omega arith))

pub Part-has : {xs ys : List Cand} (c : Cand) → Part xs ys → has c xs ≡ true → has c ys ≡ true
Part-has c done e = e
Part-has c (skip {y} {xs} {ys} h) e = or_right (same y c) (has c ys) (Part-has c h e)
Part-has c (keep {x} {xs} {ys} h) e =
    elim (or_cases (same x c) (has c xs) e) [
      | inl k ↦ or_left (same x c) (has c ys) k
      | inr k ↦ or_right (same x c) (has c ys) (Part-has c h k)
    ]

pub Part-nil : (xs : List Cand) → Part xs [] → xs ≡ []
Part-nil xs h = Part-full h (omega arith)

pub Part-one : (xs : List Cand) (y : Cand) → Part xs (y ∷ []) → xs ≢ [] → xs ≡ y ∷ []
Part-one [] y h n = absurd (n refl)
Part-one (x ∷ xs) y (skip h) n = let k = Part-length h in absurd (omega arith)
Part-one (x ∷ xs) y (keep h) n = let k = Part-length h in Part-full (keep h) (omega arith)

pub Part-without : (c : Cand) (xs : List Cand) → Part (without c xs) xs
Part-without c [] = done
Part-without c (x ∷ xs) =
    elim (same x c) as (λ t. Part (if t then xs else x ∷ without c xs) (x ∷ xs)) [ true ↦ skip (Part-refl xs) | false ↦ keep (Part-without c xs) ]

pub Part-kept : {xs ys : List Cand} (c : Cand) → Part xs ys → has c xs ≡ false → Part xs (without c ys)
Part-kept c done e = done
Part-kept c (skip {y} {xs} {ys} h) e =
    elim (same y c) as (λ t. Part xs (if t then ys else y ∷ without c ys)) [ true ↦ h | false ↦ skip (Part-kept c h e) ]
Part-kept c (keep {x} {xs} {ys} h) e =
    let k = or_parts (same x c) (has c xs) e in
    subst (λ t. Part (x ∷ xs) (if t then ys else x ∷ without c ys)) (sym k.0) (keep (Part-kept c h k.1))

-- a list that loses one that it has is shorter
pub without_shorter : (c : Cand) (xs : List Cand) → has c xs ≡ true → length (without c xs) < length xs
without_shorter c [] h = cc
without_shorter c (x ∷ xs) h = go (same x c) h (λ k. without_shorter c xs k)
  where
    go : (t : Bool) → (t || has c xs) ≡ true → (has c xs ≡ true → length (without c xs) < length xs) → length (if t then xs else x ∷ without c xs) < length (x ∷ xs)
    go true k ih = omega arith
    go false k ih = let e = ih k in omega arith

-- another candidate stays
pub has_without : (c d : Cand) (l : List Cand) → has d l ≡ true → (d ≡ c → ⊥) → has d (without c l) ≡ true
has_without c d [] h n = cc
has_without c d (x ∷ l) h n = go (same x c) refl h (λ k. has_without c d l k n)
  where
    go : (b : Bool) → same x c ≡ b → (same x d || has d l) ≡ true → (has d l ≡ true → has d (without c l) ≡ true) → has d (if b then l else x ∷ without c l) ≡ true
    go true e k ih = elim (or_cases (same x d) (has d l) k) [ inl m ↦ absurd (n (sym (same_is x d m) ∙ same_is x c e)) | inr m ↦ m ]
    go false e k ih = elim (or_cases (same x d) (has d l) k) [ inl m ↦ or_left (same x d) (has d (without c l)) m | inr m ↦ or_right (same x d) (has d (without c l)) (ih m) ]
