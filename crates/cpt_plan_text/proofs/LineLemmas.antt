use Rattle.std.proofs.Common.{◌≡◌, ℕ, ◌+◌, ◌<◌, List, ◌∷◌, length, get_or, drop, refl, ap, ◌∙◌, arith, add-one, drop-cons}
use Rattle.cpt_plan_text.specs.Grammar.{zero_count}

zero_counted : (b : ℕ) (bs : List ℕ) → b ≡ 48 → zero_count (b ∷ bs) ≡ zero_count bs + 1
zero_counted b bs h = rw h refl

-- one more zero
pub zero_more : (bytes : List ℕ) (i : ℕ) → i < length bytes → get_or bytes i 0 ≡ 48 → i + zero_count (drop i bytes) ≡ zero_count bytes → i + 1 + zero_count (drop (i + 1) bytes) ≡ zero_count bytes
zero_more bytes i lt h before =
    let e : drop i bytes ≡ get_or bytes i 0 ∷ drop (i + 1) bytes = rw (drop-cons bytes i 0, add-one) refl in
    let k : zero_count (drop i bytes) ≡ zero_count (drop (i + 1) bytes) + 1 = ap zero_count e ∙ zero_counted (get_or bytes i 0) (drop (i + 1) bytes) h in
    omega (arith, k, before)
