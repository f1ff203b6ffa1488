-- rows one after the other
use Rattle.std.proofs.Common.{◌≡◌, ℕ, suc, zero, ◌+◌, ◌-◌, ◌≤◌, ◌<◌, ◌==◌, List, [], ◌∷◌, ◌++◌, length, get_or, sym, ◌∙◌, ap, arith, inl, inr}
use Rattle.std.specs.Prelude.{map}
use Rattle.std.proofs.lemmas.Bool.{cases_eq, eq-eqb, eqb-true, true≢false}
use Rattle.std.proofs.lemmas.List.{length-append, get_or-append-add}
use Rattle.std.proofs.Math.ListN.{get_or-append}
use Rattle.cpt_layout.specs.Places.{In, place_in}
use Rattle.cpt_layout.proofs.Lists.{if_true, if_false, either}
use Rattle.cpt_block.specs.Blocks.{flat}

-- behind the first of two lists
pub behind : (xs ys : List ℕ) (m i : ℕ) → m ≡ length xs + i → get_or (xs ++ ys) m 0 ≡ get_or ys i 0
behind xs ys m i e = ap (λ (k : ℕ). get_or (xs ++ ys) k 0) e ∙ get_or-append-add xs ys i 0

flat_rises : (f : ℕ → List ℕ) (x m : ℕ) → length (flat f x) ≤ length (flat f (x + m))
flat_rises f x zero = (let e : x + 0 ≡ x = omega arith in let q : length (flat f (x + 0)) ≡ length (flat f x) = ap (λ (i : ℕ). length (flat f i)) e in omega arith)
flat_rises f x (suc m) =
    let e : x + suc m ≡ suc (x + m) = omega arith in
    let q : length (flat f (x + suc m)) ≡ length (flat f (suc (x + m))) = ap (λ (i : ℕ). length (flat f i)) e in
    let a : length (flat f (suc (x + m))) ≡ length (flat f (x + m)) + length (f (x + m)) = length-append (flat f (x + m)) (f (x + m)) in
    let r = flat_rises f x m in
    omega arith

pub flat_most : (f : ℕ → List ℕ) (x n : ℕ) → x ≤ n → length (flat f x) ≤ length (flat f n)
flat_most f x n l = (let e : x + (n - x) ≡ n = omega arith in let q : length (flat f (x + (n - x))) ≡ length (flat f n) = ap (λ (i : ℕ). length (flat f i)) e in let r = flat_rises f x (n - x) in omega arith)

pub flat_below : (f : ℕ → List ℕ) (x n i : ℕ) → x < n → i < length (f x) → length (flat f x) + i < length (flat f n)
flat_below f x n i l h =
    let a : length (flat f (suc x)) ≡ length (flat f x) + length (f x) = length-append (flat f x) (f x) in
    let r = flat_most f (suc x) n (omega arith) in
    omega arith

pub get_flat : (f : ℕ → List ℕ) (n x i : ℕ) → x < n → i < length (f x) → get_or (flat f n) (length (flat f x) + i) 0 ≡ get_or (f x) i 0
get_flat f zero x i l h = absurd (omega arith)
get_flat f (suc n) x i l h =
    elim (cases_eq x n) [
      | inl e ↦
          ap (λ (k : ℕ). get_or (flat f n ++ f n) (length (flat f k) + i) 0) e
          ∙ (get_or-append-add (flat f n) (f n) i 0 ∙ ap (λ (k : ℕ). get_or (f k) i 0) (sym e))
      | inr e ↦
          (let b : x < n = omega arith in
          get_or-append (flat f n) (f n) 0 (length (flat f x) + i) (flat_below f x n i b h) ∙ get_flat f n x i b h)
    ]

-- the sum of the lengths of rows
pub flat_length : (f : ℕ → List ℕ) (b : ℕ → ℕ) (n : ℕ) → b 0 ≡ 0 → ((x : ℕ) → x < n → b (suc x) ≡ b x + length (f x)) → length (flat f n) ≡ b n
flat_length f b zero z h = sym z
flat_length f b (suc n) z h =
    let a : length (flat f (suc n)) ≡ length (flat f n) + length (f n) = length-append (flat f n) (f n) in
    let r : length (flat f n) ≡ b n = flat_length f b n z (λ x l. h x (omega arith)) in
    let s : b (suc n) ≡ b n + length (f n) = h n (omega arith) in
    omega arith

-- at the place of a number in a list
pub get_place : (g : ℕ → ℕ) (a : ℕ) (bs : List ℕ) → In a bs → get_or (map g bs) (place_in a bs) 0 ≡ g a
get_place g a [] h = absurd h
get_place g a (b ∷ bs) h =
    elim (either (b == a)) [
      | inl e ↦ ap (λ (i : ℕ). get_or (g b ∷ map g bs) i 0) (if_true (b == a) 0 (suc (place_in a bs)) e) ∙ ap g (eqb-true b a e)
      | inr e ↦
          ap (λ (i : ℕ). get_or (g b ∷ map g bs) i 0) (if_false (b == a) 0 (suc (place_in a bs)) e)
          ∙ get_place g a bs (elim h [ inl q ↦ absurd (true≢false (sym (eq-eqb b a q) ∙ e)) | inr r ↦ r ])
    ]

pub place_below : (a : ℕ) (bs : List ℕ) → In a bs → place_in a bs < length bs
place_below a [] h = absurd h
place_below a (b ∷ bs) h =
    elim (either (b == a)) [
      | inl e ↦ (let q = if_true (b == a) 0 (suc (place_in a bs)) e in omega arith)
      | inr e ↦ (let q = if_false (b == a) 0 (suc (place_in a bs)) e in
          let r = place_below a bs (elim h [ inl z ↦ absurd (true≢false (sym (eq-eqb b a z) ∙ e)) | inr z ↦ z ]) in omega arith)
    ]
