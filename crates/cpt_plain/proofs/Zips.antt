use Rattle.std.proofs.Common.{◌≡◌, ℕ, ◌<◌, inl, inr, List, [], ◌∷◌, length, map, All, Contains, refl, sym}
use Rattle.std.specs.Prelude.{slice_index_or}
use Rattle.std.specs.List.{AllZip}
use Rattle.std.proofs.lemmas.Bool.{cases_order}
use Rattle.std.proofs.lemmas.List.Elements.{All-cons, All-nil}
use Rattle.cpt_plain.proofs.Pigeons.{in_first, in_rest}

-- what holds of each element beside one of a list holds of all of them
pub zip_all : {A B : Type 0} (R : A → B → Type 0) (Q : B → Type 0) (xs : List A) (ys : List B) → AllZip R xs ys → ((x : A) (y : B) → Contains xs x → R x y → Q y) → All Q ys
zip_all R Q [] [] h f = All-nil Q
zip_all R Q [] (y ∷ ys) h f = absurd h
zip_all R Q (x ∷ xs) [] h f = absurd h
zip_all R Q (x ∷ xs) (y ∷ ys) h f = All-cons Q y ys (f x y (in_first x xs) h.0) (zip_all R Q xs ys h.1 (λ z w c r. f z w (in_rest x z xs c) r))

-- two lists whose elements beside one another have one name have the same names
pub zip_names : {A B : Type 0} (R : A → B → Type 0) (f : A → List ℕ) (g : B → List ℕ) (xs : List A) (ys : List B) → AllZip R xs ys → ((x : A) (y : B) → R x y → g y ≡ f x) → map g ys ≡ map f xs
zip_names R f g [] [] h e = refl
zip_names R f g [] (y ∷ ys) h e = absurd h
zip_names R f g (x ∷ xs) [] h e = absurd h
zip_names R f g (x ∷ xs) (y ∷ ys) h e =
    let first : g y ≡ f x = e x y h.0 in
    let rest : map g ys ≡ map f xs = zip_names R f g xs ys h.1 e in
    cc

-- among different names, one name stands at one place
pub one_place : (names : List (List ℕ)) → ((i j : ℕ) → i < j → j < length names → slice_index_or names i [] ≡ slice_index_or names j [] → ⊥) → (i j : ℕ) → i < length names → j < length names
    → slice_index_or names i [] ≡ slice_index_or names j [] → i ≡ j
one_place names different i j i_lt j_lt e = elim (cases_order i j) [
  | inl same ↦ same
  | inr other ↦ elim other [ inl less ↦ absurd (different i j less j_lt e) | inr more ↦ absurd (different j i more i_lt (sym e)) ]
]
