use Rattle.std.proofs.Common.{◌≡◌, ◌≢◌, ℕ, zero, suc, ◌+◌, ◌<◌, ◌++◌, ◌∷◌, [], true, false, List, length, refl, ap, ◌∙◌, sym, arith}
use Rattle.std.specs.Prelude.{◌&&◌, nat_le, slice_get, None, Some}
use Rattle.std.specs.List.{list_all}
use Rattle.std.specs.Str.{bytes_eq}
use Rattle.std.proofs.lemmas.Bool.{and_parts, eqb-true, false_from_ne_true, leb-true}
use Rattle.std.proofs.lemmas.List.{get_or_append_left, get_or_at, length-append}
use Rattle.std.proofs.lemmas.Slice.Eq.{bytes_eq-Decides}
use Rattle.cpt_line.specs.Names.{word_byte}
use Rattle.cpt_pddl.specs.Names.{place_from, place_in}
use Rattle.cpt_pddl.specs.Words.{is_name, is_variable}
use Rattle.cpt_domain.specs.SoundNames.{AreDifferent}
use Rattle.cpt_domain_spelling.specs.Names.{named}
use Rattle.cpt_domain_spelling.proofs.ItemLemmas.{unless, when}

pub same_bytes : (w : List ℕ) → bytes_eq w w ≡ true
same_bytes w = (bytes_eq-Decides w w).1 refl

pub other_bytes : (v w : List ℕ) → v ≢ w → bytes_eq v w ≡ false
other_bytes v w h = false_from_ne_true (bytes_eq v w) (λ e. h ((bytes_eq-Decides v w).0 e))

-- a name begins with no other byte than a letter
pub name_other : (w : List ℕ) (b : ℕ) (bs : List ℕ) → is_name w ≡ true → b < 97 → w ≢ b ∷ bs
name_other [] b bs h lt same = cc
name_other (c ∷ cs) b bs h lt same =
    let first : c ≡ b = cc in
    let low = leb-true 97 c (and_parts (nat_le 97 c) (nat_le c 122) (and_parts (nat_le 97 c && nat_le c 122) (list_all word_byte cs) h).0).0 in
    omega (arith, first, low, lt)

-- a variable begins with a question mark
pub variable_other : (w : List ℕ) (b : ℕ) (bs : List ℕ) → is_variable w ≡ true → b ≢ 63 → w ≢ b ∷ bs
variable_other [] b bs h ne same = cc
variable_other (c ∷ []) b bs h ne same = cc
variable_other (c ∷ d ∷ cs) b bs h ne same =
    let first : c ≡ b = cc in
    ne (sym first ∙ eqb-true c 63 h)

-- a name is no variable
pub name_no_variable : (w : List ℕ) → is_name w ≡ true → is_variable w ≡ false
name_no_variable w h = false_from_ne_true (is_variable w) (λ v. clash w h v) where
  clash : (w : List ℕ) → is_name w ≡ true → is_variable w ≡ true → ⊥
  clash [] h v = cc
  clash (c ∷ cs) h v = variable_other (c ∷ cs) c cs v (λ e. name_other (c ∷ cs) c cs h (omega (arith, e)) refl) refl

-- names but the first, and names up to a place
pub different_rest : (w : List ℕ) (names : List (List ℕ)) → AreDifferent (w ∷ names) → AreDifferent names
different_rest w names h i j lt within = h (suc i) (suc j) (omega arith) (omega arith)

pub different_front : (names more : List (List ℕ)) → AreDifferent (names ++ more) → AreDifferent names
different_front names more h i j lt within same =
    let n = length-append names more in
    h i j lt (omega (arith, n)) (get_or_append_left names more [] i (omega arith) ∙ same ∙ sym (get_or_append_left names more [] j within))

place_there_from : (names : List (List ℕ)) (k n : ℕ) → AreDifferent names → n < length names → place_from names k (named names n) ≡ Some (k + n)
place_there_from [] k n h lt = absurd (omega arith)
place_there_from (w ∷ names) k zero h lt = let e : k ≡ k + 0 = omega arith in when _ _ (same_bytes w) ∙ ap (λ m. Some m) e
place_there_from (w ∷ names) k (suc n) h lt =
    let e : (k + 1) + n ≡ k + suc n = omega arith in
    unless _ _ (other_bytes w (named names n) (h 0 (suc n) (omega arith) lt))
    ∙ place_there_from names (k + 1) n (different_rest w names h) (omega arith) ∙ ap (λ m. Some m) e

-- a name among different names has its number
pub place_there : (names : List (List ℕ)) (n : ℕ) → AreDifferent names → n < length names → place_in names (named names n) ≡ Some n
unfolding place_in
place_there names n h lt = let e : 0 + n ≡ n = omega arith in place_there_from names 0 n h lt ∙ ap (λ m. Some m) e

place_new_from : (done : List (List ℕ)) (k : ℕ) (w : List ℕ) → ((i : ℕ) → i < length done → named done i ≢ w) → place_from done k w ≡ None
place_new_from [] k w h = refl
place_new_from (v ∷ done) k w h = unless _ _ (other_bytes v w (h 0 (omega arith))) ∙ place_new_from done (k + 1) w (λ i lt. h (suc i) (omega arith))

-- a name is not among the names before it
pub place_new : (done : List (List ℕ)) (w : List ℕ) (rest : List (List ℕ)) → AreDifferent (done ++ w ∷ rest) → place_in done w ≡ None
unfolding place_in
place_new done w rest h =
    let n = length-append done (w ∷ rest) in
    place_new_from done 0 w
    (λ i lt same. h i (length done) lt (omega (arith, n)) (get_or_append_left done (w ∷ rest) [] i lt ∙ same ∙ sym (get_or_at done w rest [] (length done) refl)))

-- what stands behind a front
pub get_seam : {A : Type 0} → (xs : List A) (y : A) (ys : List A) → slice_get (xs ++ y ∷ ys) (length xs) ≡ Some y
get_seam [] y ys = refl
get_seam (x ∷ xs) y ys = get_seam xs y ys
