-- A number that is read is spelled so, and what is spelled so is read.
use Rattle.std.proofs.Common.{◌≡◌, ℕ, zero, suc, ◌+◌, ◌^◌, ◌<◌, ◌≤◌, Bool, true, false, not, ◌&&◌, cond, eqb, min, inl, inr, List, [], ◌∷◌, ◌++◌, length, get_or, take, drop, None, Some, refl, sym, ap, ◌∙◌, add-one, arith}
use Rattle.std.specs.Char.{is_ascii_digit}
use Rattle.std.specs.Fmt.{decimal}
use Rattle.std.specs.Str.{bytes_eq, all_ascii_digits}
use Rattle.std.specs.Str.Parse.{digits_value}
use Rattle.std.proofs.lemmas.Bool.{and_parts, and_cases, or_parts, not-false, false≢true, eqb-true, eqb-false, ne_eqb}
use Rattle.std.proofs.lemmas.Fmt.{decimal-digits_value, digits_decimal, digits_value-decimal, decimal_nonempty, first_decimal, decimal_digit}
use Rattle.std.proofs.lemmas.List.{take_at, drop_at, take-append-drop, length-take-le}
use Rattle.std.proofs.lemmas.Str.Parse.{IsNumeralModel, numerals_by_value, tells_all_ascii_digits}
use Rattle.cpt_line.specs.Digits.{digit_count, number_in}
use Rattle.cpt_task_text.specs.Faults.{IsNumeral}

own : IsNumeralModel (λ ds. all_ascii_digits ds ≡ true) (digits_value 10)
own = numerals_by_value (λ ds. all_ascii_digits ds ≡ true) tells_all_ascii_digits

pub decimal_digits : (n : ℕ) → n < 2 ^ 64 → all_ascii_digits (decimal n) ≡ true
decimal_digits n lt = digits_decimal own n lt

count_by : (b : ℕ) (bs : List ℕ) (t : Bool) → digit_count bs ≤ length bs → cond t (digit_count bs + 1) 0 ≤ length (b ∷ bs)
count_by b bs true h = omega (arith, h)
count_by b bs false h = omega arith

digit_count-le : (bs : List ℕ) → digit_count bs ≤ length bs
digit_count-le [] = omega arith
digit_count-le (b ∷ bs) = count_by b bs (is_ascii_digit b) (digit_count-le bs)

front_by : (b : ℕ) (bs : List ℕ) (t : Bool) → is_ascii_digit b ≡ t → all_ascii_digits (take (digit_count bs) bs) ≡ true → all_ascii_digits (take (cond t (digit_count bs + 1) 0) (b ∷ bs)) ≡ true
front_by b bs true e h = rw (add-one, e) h
front_by b bs false e h = refl

digits_front : (bs : List ℕ) → all_ascii_digits (take (digit_count bs) bs) ≡ true
digits_front [] = refl
digits_front (b ∷ bs) = front_by b bs (is_ascii_digit b) refl (digits_front bs)

-- the digits in front of what begins with none
count_of : (ds rest : List ℕ) → all_ascii_digits ds ≡ true → digit_count rest ≡ 0 → digit_count (ds ++ rest) ≡ length ds
count_of [] rest h z = z
count_of (d ∷ ds) rest h z =
    let p = and_parts (is_ascii_digit d) (all_ascii_digits ds) h in
    let first : is_ascii_digit d ≡ true = p.0 in
    let more : digit_count (ds ++ rest) ≡ length ds = count_of ds rest p.1 z in
    rw first (omega (arith, more))

zeros_alone : (bs : List ℕ) (count : ℕ) → 0 < count → (not (eqb count 1) && bytes_eq (take 1 bs) (48 ∷ [])) ≡ false → get_or (take count bs) 0 0 ≡ 48 → count ≡ 1
zeros_alone [] zero some h e = absurd (omega (arith, some))
zeros_alone [] (suc count) some h e = absurd (omega (arith, e))
zeros_alone (b ∷ bs) zero some h e = absurd (omega (arith, some))
zeros_alone (b ∷ bs) (suc count) some h e =
    elim (and_cases (not (eqb (suc count) 1)) (bytes_eq (b ∷ []) (48 ∷ [])) h) [
      | inl one ↦ eqb-true (suc count) 1 (not-false (eqb (suc count) 1) one)
      | inr other ↦ absurd (false≢true (sym other ∙ rw e refl))
    ]

some_or : {X : Type 0} (b : Bool) (x y : X) → cond b None (Some x) ≡ Some y → (b ≡ false) × (x ≡ y)
some_or true x y e = absurd cc
some_or false x y e = (refl, cc)

-- a number that is read is spelled so
pub number_takes : (bytes : List ℕ) (n : ℕ) (rest : List ℕ) → n ≤ 1000000000 → number_in bytes ≡ Some (n, rest) → bytes ≡ decimal n ++ rest
unfolding number_in
number_takes bytes n rest low e =
    let count = digit_count bytes in
    let digits = take count bytes in
    let p = some_or _ (min (digits_value 10 digits) 1000000001, drop count bytes) (n, rest) e in
    let test = or_parts (eqb count 0) (not (eqb count 1) && bytes_eq (take 1 bytes) (48 ∷ [])) p.0 in
    let value : min (digits_value 10 digits) 1000000001 ≡ n = ap (λ (x : ℕ × List ℕ). x.0) p.1 in
    let after : drop count bytes ≡ rest = ap (λ (x : ℕ × List ℕ). x.1) p.1 in
    let within : count ≤ length bytes = digit_count-le bytes in
    let len : length digits ≡ count = length-take-le count bytes within in
    let full : count ≡ 0 → ⊥ = eqb-false count 0 test.0 in
    let some : 0 < count = omega (arith, full) in
    let small : digits_value 10 digits ≡ n = omega (arith, value, low) in
    let spelled : decimal (digits_value 10 digits) ≡ digits = decimal-digits_value own digits (digits_front bytes) (omega (arith, len, some)) (λ z. len ∙ zeros_alone bytes count some test.1 z) (omega (arith, small, low)) in
    sym (take-append-drop count bytes) ∙ ap (λ (x : List ℕ). digits ++ x) after ∙ ap (λ (x : List ℕ). x ++ rest) (sym spelled ∙ ap decimal small)

not_zero_first : (ds rest : List ℕ) → 0 < length ds → (get_or ds 0 0 ≡ 48 → ⊥) → bytes_eq (take 1 (ds ++ rest)) (48 ∷ []) ≡ false
not_zero_first [] rest some ne = absurd (omega (arith, some))
not_zero_first (d ∷ ds) rest some ne = rw (ne_eqb d 48 ne) refl

plain_decimal : (n : ℕ) (rest : List ℕ) → n < 2 ^ 64 → (not (eqb (length (decimal n)) 1) && bytes_eq (take 1 (decimal n ++ rest)) (48 ∷ [])) ≡ false
plain_decimal zero rest lt = rw (decimal_digit 0 (omega arith)) refl
plain_decimal (suc n) rest lt =
    let first : 48 < get_or (decimal (suc n)) 0 0 = first_decimal (suc n) (omega arith) lt in
    rw (not_zero_first (decimal (suc n)) rest (decimal_nonempty (suc n) lt) (λ e. omega (arith, first, e))) (both_false _)
  where
    both_false : (b : Bool) → (b && false) ≡ false
    both_false true = refl
    both_false false = refl

-- what is spelled so is read
pub number_again : (n : ℕ) (rest : List ℕ) → n ≤ 1000000000 → digit_count rest ≡ 0 → number_in (decimal n ++ rest) ≡ Some (n, rest)
unfolding number_in
number_again n rest low none =
    let lt : n < 2 ^ 64 = omega (arith, low) in
    let count : digit_count (decimal n ++ rest) ≡ length (decimal n) = count_of (decimal n) rest (decimal_digits n lt) none in
    let some : eqb (length (decimal n)) 0 ≡ false = ne_eqb _ _ (λ e. omega (arith, e, decimal_nonempty n lt)) in
    let value : digits_value 10 (decimal n) ≡ n = digits_value-decimal own n lt in
    let small : min n 1000000001 ≡ n = omega (arith, low) in
    rw (count, some, plain_decimal n rest lt, take_at (decimal n) rest (length (decimal n)) refl, drop_at (decimal n) rest (length (decimal n)) refl, value, small) refl

-- a number that is read, of any length
pub record TakesNumeral (bytes : List ℕ) (n : ℕ) (rest : List ℕ) : Type 0 where
  pub digits : List ℕ
  pub value : ℕ
  pub numeral : IsNumeral digits value
  pub capped : min value 1000000001 ≡ n
  pub spelled : bytes ≡ digits ++ rest

pub numeral_takes : (bytes : List ℕ) (n : ℕ) (rest : List ℕ) → number_in bytes ≡ Some (n, rest) → TakesNumeral bytes n rest
unfolding number_in
numeral_takes bytes n rest e =
    let count = digit_count bytes in
    let digits = take count bytes in
    let p = some_or _ (min (digits_value 10 digits) 1000000001, drop count bytes) (n, rest) e in
    let test = or_parts (eqb count 0) (not (eqb count 1) && bytes_eq (take 1 bytes) (48 ∷ [])) p.0 in
    let value : min (digits_value 10 digits) 1000000001 ≡ n = ap (λ (x : ℕ × List ℕ). x.0) p.1 in
    let after : drop count bytes ≡ rest = ap (λ (x : ℕ × List ℕ). x.1) p.1 in
    let within : count ≤ length bytes = digit_count-le bytes in
    let len : length digits ≡ count = length-take-le count bytes within in
    let full : count ≡ 0 → ⊥ = eqb-false count 0 test.0 in
    let some : 0 < count = omega (arith, full) in
    record {
      digits = digits;
      value = digits_value 10 digits;
      numeral = record { decimal = digits_front bytes; some = omega (arith, some, len); short_zero = λ z. len ∙ zeros_alone bytes count some test.1 z; worth = refl };
      capped = value;
      spelled = sym (take-append-drop count bytes) ∙ ap (λ (x : List ℕ). digits ++ x) after;
    }

no_leading_zero : (ds rest : List ℕ) (value : ℕ) (one : Bool) → IsNumeral ds value → eqb (length ds) 1 ≡ one → (not one && bytes_eq (take 1 (ds ++ rest)) (48 ∷ [])) ≡ false
no_leading_zero ds rest value true h e = refl
no_leading_zero ds rest value false h e = not_zero_first ds rest h.some (λ z. eqb-false (length ds) 1 e (h.short_zero z))

-- digits without a leading zero are read, up to the cap
pub numeral_again : (ds rest : List ℕ) (value : ℕ) → IsNumeral ds value → digit_count rest ≡ 0 → number_in (ds ++ rest) ≡ Some (min value 1000000001, rest)
unfolding number_in
numeral_again ds rest value h none =
    let some : eqb (length ds) 0 ≡ false = ne_eqb _ _ (λ e. omega (arith, e, h.some)) in
    rw (count_of ds rest h.decimal none, some, no_leading_zero ds rest value (eqb (length ds) 1) h refl, take_at ds rest (length ds) refl, drop_at ds rest (length ds) refl, h.worth) refl
