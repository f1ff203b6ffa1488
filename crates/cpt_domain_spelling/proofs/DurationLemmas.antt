use Rattle.std.proofs.Common.{◌≡◌, ℕ, ◌^◌, ◌<◌, ◌≤◌, ◌∷◌, [], true, false, min, List, length, refl, ap, ◌∙◌, arith}
use Rattle.std.specs.Prelude.{nat_le, Ok, Some, codes}
use Rattle.std.specs.Char.{is_ascii_digit}
use Rattle.std.specs.Fmt.{decimal}
use Rattle.std.specs.Str.{all_ascii_digits, bytes_eq}
use Rattle.std.specs.Str.Parse.{digits_value}
use Rattle.std.proofs.lemmas.Bool.{and_from, and_parts, le-leb, ne_eqb}
use Rattle.std.proofs.lemmas.Fmt.{decimal_nonempty, digits_decimal, digits_value-decimal}
use Rattle.std.proofs.lemmas.List.{drop_all, take_all}
use Rattle.std.proofs.lemmas.Str.Parse.{IsNumeralModel, numerals_by_value, tells_all_ascii_digits}
use Rattle.cpt_line.specs.Digits.{digit_count}
use Rattle.cpt_pddl.specs.Items.{Items}
use Rattle.cpt_pddl.specs.Reading.{nothing}
use Rattle.cpt_pddl.specs.Words.{is_fraction, is_name, number_in}
use Rattle.cpt_declared.specs.declared.declared.Declared.{Declared}
use Rattle.cpt_schema.specs.declared.durations.Lasting.{Lasting}
use Rattle.cpt_schema.specs.declared.durations.Lasting.TheVariants.{Fixed, Value}
use Rattle.cpt_schema.specs.Durations.{after_this, duration_after, duration_by, duration_in, duration_value, fixed, fixed_by, function_term, is_asked, is_sign, is_sum, valued}
use Rattle.cpt_domain.specs.SoundSchemas.{IsLasting}
use Rattle.cpt_domain_spelling.specs.Saying.{says}
use Rattle.cpt_domain_spelling.specs.Spellable.{HasSpelling, IsTypedLasting}
use Rattle.cpt_domain_spelling.specs.Names.{named}
use Rattle.cpt_domain_spelling.specs.Spelling.{duration_nest, lasting_nest, parameters_of}
use Rattle.cpt_domain_spelling.proofs.ItemLemmas.{bound, end_there, group_there, unless, when, word_there}
use Rattle.cpt_domain_spelling.proofs.NameLemmas.{name_other, other_bytes}
use Rattle.cpt_domain_spelling.proofs.TermLemmas.{applied_back}

pub numerals : IsNumeralModel (λ ds. all_ascii_digits ds ≡ true) (digits_value 10)
numerals = numerals_by_value (λ ds. all_ascii_digits ds ≡ true) tells_all_ascii_digits

counted : (ds : List ℕ) → all_ascii_digits ds ≡ true → digit_count ds ≡ length ds
counted [] h = refl
counted (b ∷ bs) h =
    let parts = and_parts (is_ascii_digit b) (all_ascii_digits bs) h in
    let more = counted bs parts.1 in
    when _ _ parts.0 ∙ omega (arith, more)

-- a number that is spelled is read as it is
number_back : (n : ℕ) → n ≤ 100000 → number_in (decimal n) ≡ Some n
unfolding number_in
number_back n le =
    let small : n < 2 ^ 64 = omega arith in
    let digits = digits_decimal numerals n small in
    let value = digits_value-decimal numerals n small in
    let some = decimal_nonempty n small in
    let count = counted (decimal n) digits in
    let capped : min n 4294967296 ≡ n = omega (arith, le) in
    unless _ _ (ne_eqb (digit_count (decimal n)) 0 (omega (arith, count, some)))
    ∙ when _ _ (ap is_fraction (drop_all (digit_count (decimal n)) (decimal n) (omega (arith, count))))
    ∙ ap (λ ds. Some (min (digits_value 10 ds) 4294967296)) (take_all (digit_count (decimal n)) (decimal n) (omega (arith, count)))
    ∙ ap (λ v. Some (min v 4294967296)) value ∙ ap (λ v. Some v) capped

unasked : (ds : List ℕ) → all_ascii_digits ds ≡ true → is_asked ds ≡ false
unasked [] h = refl
unasked (b ∷ bs) h = let range = (tells_all_ascii_digits.parts b bs h).0 in ne_eqb b 63 (λ e. omega (arith, e, range.0, range.1))

-- a name begins no sum
no_sign : (w : List ℕ) → is_name w ≡ true → is_sign w ≡ false
no_sign w h =
    let differs : (b : ℕ) → b < 97 → bytes_eq w (b ∷ []) ≡ false = λ b lt. other_bytes w (b ∷ []) (name_other w b [] h lt) in
    rw (differs 43 (omega arith), differs 45 (omega arith), differs 42 (omega arith), differs 47 (omega arith)) refl

lasting_back : (d : Declared) (params : List ℕ) (from : ℕ) (lasting : Lasting) (items : Items) → HasSpelling d → length params ≤ 16
    → IsLasting (length params) (length d.constants.names) d.functions.kinds lasting → IsTypedLasting d params lasting → says items ≡ lasting_nest d lasting
    → duration_value d (parameters_of params) from items ≡ Ok lasting
unfolding fixed valued
lasting_back d params from (Fixed n) items h few sound typed said =
    let w = word_there items (decimal n) _ said in
    let last = end_there w.more w.said in
    let small : n < 2 ^ 64 = omega (arith, sound.1) in
    ap (duration_value d (parameters_of params) from) w.is
    ∙ unless _ _ (unasked (decimal n) (digits_decimal numerals n small))
    ∙ bound _ (ap (fixed_by w.at) (number_back n sound.1) ∙ when _ _ (and_from (nat_le 1 n) (nat_le n 100000) (le-leb 1 n sound.0) (le-leb n 100000 sound.1)))
    (bound _ (ap nothing last.is) refl)
lasting_back d params from (Value func terms) items h few sound typed said =
    let g = group_there items _ _ said in
    let w = word_there g.inside (named d.functions.names func) _ g.within in
    let last = end_there g.more g.said in
    let lt = sound.known in
    let lengths = h.sound.functions.lengths in
    let own : is_name (named d.functions.names func) ≡ true = h.functions.names func [] (omega (arith, lt, lengths)) in
    ap (duration_value d (parameters_of params) from) g.is
    ∙ unless _ _ (ap is_sum w.is ∙ no_sign (named d.functions.names func) own)
    ∙ bound _ (ap (function_term d (parameters_of params) g.at) w.is ∙ when _ _ own
    ∙ applied_back d params d.functions g.at w.at func terms w.more h few h.functions lengths sound typed w.said)
    (bound _ (ap nothing last.is) refl)

-- a duration is read as it is
pub duration_back : (d : Declared) (params : List ℕ) (from : ℕ) (lasting : Lasting) (items : Items) → HasSpelling d → length params ≤ 16
    → IsLasting (length params) (length d.constants.names) d.functions.kinds lasting → IsTypedLasting d params lasting → says items ≡ duration_nest d lasting
    → duration_in d (parameters_of params) from items ≡ Ok lasting
unfolding duration_in
duration_back d params from lasting items h few sound typed said =
    let w = word_there items (codes "=") _ said in
    let v = word_there w.more (codes "?duration") _ w.said in
    ap (λ i. duration_after d (parameters_of params) from (after_this (codes "=") i)) w.is
    ∙ ap (λ i. duration_by d (parameters_of params) from (after_this (codes "?duration") i)) v.is
    ∙ lasting_back d params from lasting v.more h few sound typed v.said
