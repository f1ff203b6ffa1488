use Rattle.std.proofs.Common.{◌≡◌, ℕ, Bool, true, false, List, [], ◌∷◌, refl, arith}
use Rattle.std.specs.Prelude.{nat_le, ◌&&◌}
use Rattle.std.specs.List.{list_all}
use Rattle.std.proofs.lemmas.Bool.Decides.{nat_tests}
use Rattle.cpt_line.specs.Names.{word_byte}
use Rattle.cpt_pddl.specs.Words.{is_name, is_word}

both : (a b : Bool) → (a && b) ≡ true → (a ≡ true) × (b ≡ true)
both true b h = (refl, h)
both false b h = absurd (cc)

of_both : (a b : Bool) → a ≡ true → b ≡ true → (a && b) ≡ true
of_both true b h k = k
of_both false b h k = absurd (cc)

letter_byte : (b : ℕ) → nat_le 97 b ≡ true → nat_le b 122 ≡ true → word_byte b ≡ true
letter_byte b low high = grind (arith, nat_tests)

-- a name is a word
pub name_word : (name : List ℕ) → is_name name ≡ true → is_word name ≡ true
name_word [] h = absurd (cc)
name_word (b ∷ bs) h =
    let outer = both (nat_le 97 b && nat_le b 122) (list_all word_byte bs) h in
    let inner = both (nat_le 97 b) (nat_le b 122) outer.0 in
    of_both (word_byte b) (list_all word_byte bs) (letter_byte b inner.0 inner.1) outer.1
