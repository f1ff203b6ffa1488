-- Numbers in words.
use Rattle.std.proofs.Common.{◌≡◌, ℕ, zero, suc, ◌+◌, ◌*◌, ◌^◌, ◌<◌, ◌≤◌, Bool, true, false, not, ◌&&◌, ◌||◌, cond, eqb, ltb, List, [], ◌∷◌, None, Some, length, get_or, take, arith, refl, ap, ◌∙◌, sym}
use Rattle.std.specs.Char.{digit_value, is_ascii_digit}
use Rattle.std.specs.Fmt.{decimal}
use Rattle.std.specs.Str.{all_ascii_digits}
use Rattle.std.specs.Str.Parse.{digits_value}
use Rattle.std.proofs.lemmas.Bool.{and_parts, not-true, not_from_false, or_right, eqb-true, eqb-false, ne_eqb, ltb-true, lt-ltb}
use Rattle.std.proofs.lemmas.Fmt.{decimal-digits_value, digits_decimal, digits_value-decimal, decimal_nonempty, first_decimal, decimal_digit, length-decimal-le}
use Rattle.std.proofs.lemmas.Int.Digits.{digits_value_more}
use Rattle.std.proofs.lemmas.Str.{digit_value_digit}
use Rattle.std.proofs.lemmas.Str.Parse.{IsNumeralModel, numerals_by_value, tells_all_ascii_digits, digits_value_short, digits_value-take-le, digit_at}
use Rattle.cpt_cert_form.specs.Forms.{IsShort}
use Rattle.cpt_cert_read.specs.Reading.{is_numeral, number_in}
use Rattle.cpt_cert_read.proofs.Joining.{is_solid}

pub own : IsNumeralModel (λ ds. all_ascii_digits ds ≡ true) (digits_value 10)
own = numerals_by_value (λ ds. all_ascii_digits ds ≡ true) tells_all_ascii_digits

-- one more digit of a short number
pub record DigitMore (ds : List ℕ) (i : ℕ) : Type 0 where
  pub value : digits_value 10 (take (i + 1) ds) ≡ digits_value 10 (take i ds) * 10 + digit_value (get_or ds i 0)
  pub digit : digit_value (get_or ds i 0) + 48 ≡ get_or ds i 0
  pub small : digits_value 10 (take i ds) * 10 + digit_value (get_or ds i 0) < 10 ^ 16

pub digit_more : (ds : List ℕ) (i : ℕ) → all_ascii_digits ds ≡ true → length ds < 17 → i < length ds → DigitMore ds i
digit_more ds i all short lt =
    let e = digits_value_more 10 ds i lt in
    let most : digits_value 10 (take (i + 1) ds) ≤ digits_value 10 ds = digits_value-take-le 10 ds (i + 1) (omega arith) in
    let few : digits_value 10 ds < 10 ^ 16 = digits_value_short own ds 16 all (omega (arith, short)) in
    record { value = e; digit = digit_value_digit (get_or ds i 0) (digit_at ds i (own.to ds all) lt); small = omega (arith, e, most, few) }

both_tests : (a b c d : Bool) → (a && (b && (c && d))) ≡ true → (a ≡ true) × (b ≡ true) × (c ≡ true) × (d ≡ true)
both_tests true true true true e = (refl, refl, refl, refl)
both_tests false b c d e = absurd cc
both_tests true false c d e = absurd cc
both_tests true true false d e = absurd cc
both_tests true true true false e = absurd cc

no_zero_first : (n : ℕ) (x : Bool) → (x || not (eqb n 48)) ≡ true → n ≡ 48 → x ≡ true
no_zero_first n true e z = refl
no_zero_first n false e z = absurd (eqb-false n 48 (not-true (eqb n 48) e) z)

-- a number that is read is spelled so
pub number_some : (word : List ℕ) (n : ℕ) → number_in word ≡ Some n → IsShort n × (word ≡ decimal n)
unfolding number_in
number_some word n e =
    let g = guarded (is_numeral word) (digits_value 10 word) n e in
    let t = both_tests (ltb 0 (length word)) (ltb (length word) 17) (eqb (length word) 1 || not (eqb (get_or word 0 0) 48)) (all_ascii_digits word) g.0 in
    let some : 0 < length word = ltb-true 0 (length word) t.0 in
    let few : length word < 17 = ltb-true (length word) 17 t.1 in
    let small : digits_value 10 word < 10 ^ 16 = digits_value_short own word 16 t.3 (omega (arith, few)) in
    let spelled : decimal (digits_value 10 word) ≡ word = decimal-digits_value own word t.3 some (λ z. eqb-true (length word) 1 (no_zero_first (get_or word 0 0) (eqb (length word) 1) t.2 z)) (omega (arith, small)) in
    (omega (arith, g.1, small), sym spelled ∙ ap decimal g.1)
  where
    guarded : (b : Bool) (x y : ℕ) → cond b (Some x) None ≡ Some y → (b ≡ true) × (x ≡ y)
    guarded true x y e = (refl, cc)
    guarded false x y e = absurd cc

first_fits : (n : ℕ) → n < 2 ^ 64 → (eqb (length (decimal n)) 1 || not (eqb (get_or (decimal n) 0 0) 48)) ≡ true
first_fits zero lt = rw (decimal_digit 0 (omega arith)) refl
first_fits (suc n) lt =
    let first : 48 < get_or (decimal (suc n)) 0 0 = first_decimal (suc n) (omega arith) lt in
    or_right (eqb (length (decimal (suc n))) 1) (not (eqb (get_or (decimal (suc n)) 0 0) 48)) (not_from_false (eqb (get_or (decimal (suc n)) 0 0) 48) (ne_eqb (get_or (decimal (suc n)) 0 0) 48 (λ e. omega (arith, first, e))))

-- what is spelled so is read
pub number_again : (n : ℕ) → IsShort n → number_in (decimal n) ≡ Some n
unfolding number_in
number_again n short =
    let lt : n < 2 ^ 64 = omega (arith, short) in
    let some : ltb 0 (length (decimal n)) ≡ true = lt-ltb 0 (length (decimal n)) (decimal_nonempty n lt) in
    let le : length (decimal n) ≤ 16 = length-decimal-le 16 n (omega arith) short lt in
    let few : ltb (length (decimal n)) 17 ≡ true = lt-ltb (length (decimal n)) 17 (omega (arith, le)) in
    rw (some, few, first_fits n lt, digits_decimal own n lt, digits_value-decimal own n lt) refl

solid_digits : (ds : List ℕ) → all_ascii_digits ds ≡ true → is_solid ds ≡ true
solid_digits [] h = refl
solid_digits (d ∷ ds) h =
    let p = and_parts (is_ascii_digit d) (all_ascii_digits ds) h in
    let within = (tells_all_ascii_digits.parts d ds h).0 in
    rw (ne_eqb d 32 (λ e. omega (arith, within, e))) (solid_digits ds p.1)

-- no space stands in a number
pub number_solid : (n : ℕ) → IsShort n → is_solid (decimal n) ≡ true
number_solid n short = solid_digits (decimal n) (digits_decimal own n (omega (arith, short)))
