-- Names are text.
use Rattle.std.proofs.Common.{◌≡◌, ℕ, zero, suc, ◌<◌, ◌≤◌, Bool, true, false, cond, ◌&&◌, eqb, List, [], ◌∷◌, length, refl, arith}
use Rattle.std.proofs.lemmas.Bool.{and_parts, eqb-true, leb-true}
use Rattle.std.proofs.lemmas.Str.{IsUtf8-from_ascii}
use Rattle.std.specs.Str.{IsAscii, IsUtf8}
use Rattle.cpt_line.specs.Names.{is_name, name_after, word_byte}

nothing : IsAscii []
nothing i = omega arith

one_more : (b : ℕ) (bs : List ℕ) → b < 128 → IsAscii bs → IsAscii (b ∷ bs)
one_more b bs h k zero = h
one_more b bs h k (suc i) = k i

ended : (bs : List ℕ) → eqb (length bs) 0 ≡ true → IsAscii bs
ended [] h = nothing
ended (b ∷ bs) h = absurd (omega (arith, eqb-true (length (b ∷ bs)) 0 h))

word_low : (b : ℕ) → word_byte b ≡ true → b < 128
word_low b h =
    let low : b ≤ 126 = leb-true b 126 (and_parts _ _ (and_parts _ _ (and_parts _ _ (and_parts _ _ (and_parts _ _ h).0).0).0).0).1 in
    omega (arith, low)

by_byte : (w : Bool) (b : ℕ) (bs : List ℕ) (c d : Bool) → eqb b 41 ≡ c → eqb b 32 ≡ d → ((v : Bool) → name_after v bs ≡ true → IsAscii bs)
    → cond c (w && eqb (length bs) 0) (cond d (w && name_after false bs) (word_byte b && name_after true bs)) ≡ true → IsAscii (b ∷ bs)
by_byte w b bs true d is other more h = let same = eqb-true b 41 is in one_more b bs (omega (arith, same)) (ended bs (and_parts _ _ h).1)
by_byte w b bs false true is other more h = let same = eqb-true b 32 other in one_more b bs (omega (arith, same)) (more false (and_parts _ _ h).1)
by_byte w b bs false false is other more h = let p = and_parts _ _ h in one_more b bs (word_low b p.0) (more true p.1)

after_ascii : (w : Bool) (bs : List ℕ) → name_after w bs ≡ true → IsAscii bs
after_ascii w [] h = absurd cc
after_ascii w (b ∷ bs) h = by_byte w b bs (eqb b 41) (eqb b 32) refl refl (λ v k. after_ascii v bs k) h

pub name_utf8 : (name : List ℕ) → is_name name ≡ true → IsUtf8 name
name_utf8 [] h = absurd cc
name_utf8 (b ∷ bs) h =
    let p = and_parts (eqb b 40) (name_after false bs) h in
    let first = eqb-true b 40 p.0 in
    IsUtf8-from_ascii (b ∷ bs) (one_more b bs (omega (arith, first)) (after_ascii false bs p.1))
