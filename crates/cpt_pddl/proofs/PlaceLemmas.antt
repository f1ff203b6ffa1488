use Rattle.std.proofs.Common.{◌≡◌, ℕ, ◌+◌, ◌<◌, [], ◌∷◌, Bool, true, false, List, length, inl, inr, refl, arith}
use Rattle.std.specs.Prelude.{if◌then◌else◌, ◌⊎◌, Some}
use Rattle.std.specs.Str.{bytes_eq}
use Rattle.cpt_pddl.specs.Names.{place_from, place_in}

-- which way a test went
chosen : {A : Type 0} → (b : Bool) (x y z : A) → (if b then x else y) ≡ z → ((b ≡ true) × (x ≡ z)) ⊎ ((b ≡ false) × (y ≡ z))
chosen true x y z h = inl (refl, h)
chosen false x y z h = inr (refl, h)

place_below_from : (names : List (List ℕ)) (k : ℕ) (w : List ℕ) (n : ℕ) → place_from names k w ≡ Some n → n < k + length names
place_below_from [] k w n h = cc
place_below_from (name ∷ names) k w n h =
    elim (chosen (bytes_eq name w) (Some k) (place_from names (k + 1) w) (Some n) h) [
      | inl x ↦ let e : Some k ≡ Some n = x.1 in let f : k ≡ n = cc in omega (arith, f)
      | inr x ↦ let below = place_below_from names (k + 1) w n x.1 in omega (arith, below)
    ]

-- the place of a name is a place
pub place_below : (names : List (List ℕ)) (w : List ℕ) (n : ℕ) → place_in names w ≡ Some n → n < length names
unfolding place_in
place_below names w n h = let below = place_below_from names 0 w n h in omega (arith, below)
