-- A list of numbers that is read is spelled so, and what is spelled so is read.
use Rattle.std.proofs.Common.{◌≡◌, ℕ, zero, suc, ◌+◌, ◌<◌, ◌≤◌, true, not, ◌&&◌, ltb, List, [], ◌∷◌, ◌++◌, length, get_or, All, Ok, refl, sym, ap, subst, ◌∙◌, append_assoc, append-nil, length-append, arith}
use Rattle.std.specs.Fmt.{decimal}
use Rattle.std.specs.List.Sorted.{IsStrictlyIncreasing}
use Rattle.std.proofs.lemmas.Bool.{and_parts, not-true, ltb-true, ltb-false, lt-ltb, le-ltb}
use Rattle.std.proofs.lemmas.List.Elements.{All-nil, All-cons}
use Rattle.cpt_task.specs.declared.memory.Limit.TheVariants.{LongList}
use Rattle.cpt_line.specs.Digits.{digit_count, number_in}
use Rattle.cpt_task_text.specs.Plain.{IsShortList}
use Rattle.cpt_task_text.specs.Reading.{◌>>=◌, Rest, line_at, past, checked, number_at, within, id_at, ids_in, ids_at, short_ids_at}
use Rattle.cpt_task_text.specs.Spelling.{spaced, list_line}
use Rattle.cpt_task_text.proofs.Binding.{bind_ok, ok_is, past_takes, past_again, checked_ok, within_ok, within_again, found_ok, line_takes}
use Rattle.cpt_task_text.proofs.Numerals.{number_takes, number_again}

-- numbers from least to below count, each greater than the one before it
abbrev pub Rises : ℕ → ℕ → List ℕ → Type 0
Rises least count [] = Unit {0}
Rises least count (id ∷ ids) = (least ≤ id) × (id < count) × Rises (id + 1) count ids

pub record TakesId (count least : ℕ) (bytes : List ℕ) (id : ℕ) (rest : List ℕ) : Type 0 where
  pub spelled : count ≤ 1000000000 → bytes ≡ 32 ∷ decimal id ++ rest
  pub low : least ≤ id
  pub high : id < count

fits_of : (a b least count : ℕ) → (not (ltb a least) && ltb b count) ≡ true → (least ≤ a) × (b < count)
fits_of a b least count h =
    let p = and_parts (not (ltb a least)) (ltb b count) h in
    (ltb-false a least (not-true (ltb a least) p.0), ltb-true b count p.1)

id_takes : (n count least : ℕ) (bytes : List ℕ) (x : ℕ × List ℕ) → id_at n count least bytes ≡ Ok x → TakesId count least bytes x.0 x.1
unfolding id_at
id_takes n count least bytes x e =
    let a = bind_ok (past (32 ∷ []) n bytes) (λ digits. number_at n digits >>= λ number. checked (not (ltb number.0 least) && ltb number.0 count) n >>= λ fit. Ok number) x e in
    let b = bind_ok (number_at n a.0) (λ number. checked (not (ltb number.0 least) && ltb number.0 count) n >>= λ fit. Ok number) x a.2 in
    let c = bind_ok (checked (not (ltb b.0.0 least) && ltb b.0.0 count) n) (λ fit. Ok b.0) x b.2 in
    let same : b.0 ≡ x = ok_is b.0 x c.2 in
    let fit = fits_of b.0.0 b.0.0 least count (checked_ok _ n c.0 c.1) in
    let low : b.0.0 < count = fit.1 in
    subst (λ (y : ℕ × List ℕ). TakesId count least bytes y.0 y.1) same
    (record {
      spelled = λ few. past_takes (32 ∷ []) n bytes a.0 a.1 ∙ ap (λ (r : List ℕ). 32 ∷ r) (number_takes a.0 b.0.0 b.0.1 (omega (arith, few, low)) (found_ok n (number_in a.0) b.0 b.1));
      low = fit.0;
      high = low;
    })

id_again : (n count least id : ℕ) (rest : List ℕ) → least ≤ id → id < count → count ≤ 1000000000 → digit_count rest ≡ 0 → id_at n count least (32 ∷ decimal id ++ rest) ≡ Ok (id, rest)
unfolding id_at
id_again n count least id rest low high few none =
    rw (number_again id rest (omega (arith, high, few)) none, le-ltb id least low, lt-ltb id count high) refl

pub record TakesIds (count least : ℕ) (ids bytes whole : List ℕ) : Type 0 where
  pub more : List ℕ
  pub all : whole ≡ ids ++ more
  pub rises : Rises least count more
  pub spelled : count ≤ 1000000000 → bytes ≡ spaced more

pub ids_take : (most n count least : ℕ) (ids bytes all : List ℕ) → ids_in most n count least ids bytes ≡ Ok all → TakesIds count least ids bytes all
unfolding ids_in
ids_take zero n count least ids [] all e = record { more = []; all = sym (append-nil ids ∙ ok_is ids all e); rises = tt; spelled = λ few. refl }
ids_take (suc most) n count least ids [] all e = record { more = []; all = sym (append-nil ids ∙ ok_is ids all e); rises = tt; spelled = λ few. refl }
ids_take zero n count least ids (b ∷ bs) all e = absurd cc
ids_take (suc most) n count least ids (b ∷ bs) all e =
    let a = bind_ok (id_at n count least (b ∷ bs)) (λ id. ids_in most n count (id.0 + 1) (ids ++ id.0 ∷ []) id.1) all e in
    let id = a.0.0 in
    let first = id_takes n count least (b ∷ bs) a.0 a.1 in
    let others = ids_take most n count (id + 1) (ids ++ id ∷ []) a.0.1 all a.2 in
    record {
      more = id ∷ others.more;
      all = others.all ∙ append_assoc ids (id ∷ []) others.more;
      rises = (first.low, first.high, others.rises);
      spelled = λ few. first.spelled few ∙ ap (λ (r : List ℕ). (32 ∷ decimal id) ++ r) (others.spelled few);
    }

pub no_digit_first : (ids : List ℕ) → digit_count (spaced ids) ≡ 0
no_digit_first [] = refl
no_digit_first (id ∷ ids) = refl

pub ids_again : (most n count least : ℕ) (ids more : List ℕ) → count ≤ 1000000000 → length more ≤ most → Rises least count more → ids_in most n count least ids (spaced more) ≡ Ok (ids ++ more)
unfolding ids_in
ids_again zero n count least ids [] few room rises = ap (λ (x : List ℕ). Ok x) (sym (append-nil ids))
ids_again (suc most) n count least ids [] few room rises = ap (λ (x : List ℕ). Ok x) (sym (append-nil ids))
ids_again zero n count least ids (id ∷ more) few room rises = absurd (omega (arith, room))
ids_again (suc most) n count least ids (id ∷ more) few room rises =
    let first = id_again n count least id (spaced more) rises.0 rises.1 few (no_digit_first more) in
    let others = ids_again most n count (id + 1) (ids ++ id ∷ []) more few (omega (arith, room)) rises.2 in
    rw first (others ∙ ap (λ (x : List ℕ). Ok x) (append_assoc ids (id ∷ []) more))

-- ---- rising numbers are strictly increasing and below the bound

suc_more : (k : ℕ) → suc k + 1 ≡ suc (k + 1)
suc_more k = omega arith

pub rises_increase : (least count : ℕ) (ids : List ℕ) → Rises least count ids → IsStrictlyIncreasing ids
rises_increase least count [] h k lt = absurd (omega (arith, lt))
rises_increase least count (a ∷ []) h k lt = absurd (omega (arith, lt))
rises_increase least count (a ∷ b ∷ ids) h zero lt = omega (arith, h.2.0)
rises_increase least count (a ∷ b ∷ ids) h (suc k) lt =
    subst (λ (m : ℕ). get_or (b ∷ ids) k 0 < get_or (a ∷ b ∷ ids) m 0) (sym (suc_more k)) (rises_increase (a + 1) count (b ∷ ids) h.2 k (omega (arith, lt)))

pub rises_below : (least count : ℕ) (ids : List ℕ) → Rises least count ids → All (λ id. id < count) ids
rises_below least count [] h = All-nil (λ id. id < count)
rises_below least count (id ∷ ids) h = All-cons (λ id. id < count) id ids h.1 (rises_below (id + 1) count ids h.2)

pub increasing_rise : (least count : ℕ) (ids : List ℕ) → IsStrictlyIncreasing ids → All (λ id. id < count) ids → (0 < length ids → least ≤ get_or ids 0 0) → Rises least count ids
increasing_rise least count [] up below from = tt
increasing_rise least count (id ∷ ids) up below from =
    (from (omega arith), below 0 0 (omega arith), increasing_rise (id + 1) count ids (λ k lt. subst (λ (m : ℕ). get_or ids k 0 < get_or (id ∷ ids) m 0) (suc_more k) (up (suc k) (omega (arith, lt)))) (λ i d lt. below (suc i) d (omega (arith, lt))) (λ some. let step : id < get_or ids 0 0 = up 0 (omega (arith, some)) in omega (arith, step)))

pub ids_increase : (most n count : ℕ) (bytes ids : List ℕ) → ids_in most n count 0 [] bytes ≡ Ok ids → IsStrictlyIncreasing ids
ids_increase most n count bytes ids e =
    let t = ids_take most n count 0 [] bytes ids e in
    subst IsStrictlyIncreasing (sym t.all) (rises_increase 0 count t.more t.rises)

length-spaced-ge : (ids : List ℕ) → length ids ≤ length (spaced ids)
length-spaced-ge [] = omega arith
length-spaced-ge (id ∷ ids) = omega (arith, length-spaced-ge ids, length-append (decimal id) (spaced ids))

-- ---- lines

pub record TakesList (count : ℕ) (keyword : List ℕ) (rest : Rest) (ids : List ℕ) (after : Rest) : Type 0 where
  pub spelled : rest ≡ (list_line keyword ids ∷ after.0, after.1)
  pub increasing : IsStrictlyIncreasing ids
  pub below : All (λ id. id < count) ids

pub list_takes : (n : ℕ) (keyword : List ℕ) (count : ℕ) (rest : Rest) (x : List ℕ × Rest) → count ≤ 1000000000 → ids_at n keyword count rest ≡ Ok x → TakesList count keyword rest x.0 x.1
unfolding ids_at
list_takes n keyword count rest x few e =
    let a = bind_ok (line_at n rest) (λ line. past keyword n line.0 >>= λ bytes. ids_in (length bytes) n count 0 [] bytes >>= λ ids. Ok (ids, line.1)) x e in
    let b = bind_ok (past keyword n a.0.0) (λ bytes. ids_in (length bytes) n count 0 [] bytes >>= λ ids. Ok (ids, a.0.1)) x a.2 in
    let c = bind_ok (ids_in (length b.0) n count 0 [] b.0) (λ ids. Ok (ids, a.0.1)) x b.2 in
    let t = ids_take (length b.0) n count 0 [] b.0 c.0 c.1 in
    let bytes : b.0 ≡ spaced c.0 = t.spelled few ∙ ap spaced (sym t.all) in
    let line : a.0.0 ≡ list_line keyword c.0 = past_takes keyword n a.0.0 b.0 b.1 ∙ ap (λ (r : List ℕ). keyword ++ r) bytes in
    let made : List ℕ × Rest = (c.0, a.0.1) in
    subst (λ (y : List ℕ × Rest). TakesList count keyword rest y.0 y.1) (ok_is made x c.2)
    (record {
      spelled = line_takes n rest a.0 a.1 ∙ ap (λ (l : List ℕ). (l ∷ a.0.1.0, a.0.1.1)) line;
      increasing = subst IsStrictlyIncreasing (sym t.all) (rises_increase 0 count t.more t.rises);
      below = subst (All (λ id. id < count)) (sym t.all) (rises_below 0 count t.more t.rises);
    })

pub list_again : (n : ℕ) (keyword : List ℕ) (count : ℕ) (ids : List ℕ) (lines : List (List ℕ)) (tail : List ℕ) → count ≤ 1000000000 → IsStrictlyIncreasing ids → All (λ id. id < count) ids → ids_at n keyword count (list_line keyword ids ∷ lines, tail) ≡ Ok (ids, (lines, tail))
unfolding ids_at
list_again n keyword count ids lines tail few up below =
    rw (past_again keyword n (spaced ids), ids_again (length (spaced ids)) n count 0 [] ids few (length-spaced-ge ids) (increasing_rise 0 count ids up below (λ some. omega arith))) refl

pub short_takes : (n : ℕ) (keyword : List ℕ) (most count : ℕ) (rest : Rest) (x : List ℕ × Rest) → count ≤ 1000000000 → short_ids_at n keyword most count rest ≡ Ok x → TakesList count keyword rest x.0 x.1 × (length x.0 ≤ most)
unfolding short_ids_at
short_takes n keyword most count rest x few e =
    let a = bind_ok (ids_at n keyword count rest) (λ ids. within most LongList (length ids.0) >>= λ few. Ok ids) x e in
    let b = bind_ok (within most LongList (length a.0.0)) (λ few. Ok a.0) x a.2 in
    subst (λ (y : List ℕ × Rest). TakesList count keyword rest y.0 y.1 × (length y.0 ≤ most)) (ok_is a.0 x b.2)
    (list_takes n keyword count rest a.0 few a.1, within_ok most LongList (length a.0.0) b.0 b.1)

pub short_again : (n : ℕ) (keyword : List ℕ) (most count : ℕ) (ids : List ℕ) (lines : List (List ℕ)) (tail : List ℕ) → count ≤ 1000000000 → IsShortList most ids → All (λ id. id < count) ids → short_ids_at n keyword most count (list_line keyword ids ∷ lines, tail) ≡ Ok (ids, (lines, tail))
unfolding short_ids_at
short_again n keyword most count ids lines tail few short below =
    rw (list_again n keyword count ids lines tail few short.increasing below, within_again most LongList (length ids) short.short) refl
