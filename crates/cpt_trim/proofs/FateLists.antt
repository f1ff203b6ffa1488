-- lists of fates
use Rattle.std.proofs.Common.{◌≡◌, ◌≢◌, ℕ, ◌+◌, ◌<◌, ◌≤◌, zero, suc, Bool, true, false, List, [], ◌∷◌, ◌++◌, length, All, Some, slice_index, take, get_or, map, Bor, refl, sym, ap, ◌∙◌, subst, inl, inr, arith, append-nil, length-append}
use Rattle.std.specs.Prelude.{◌==◌, ◌||◌, if◌then◌else◌, slice_get, slice_set, MatchBool}
use Rattle.std.specs.List.{AllZip, list_any}
use Rattle.std.specs.List.Sorted.{IsStrictlyIncreasing}
use Rattle.std.proofs.lemmas.List.{take_more, length-take-le, length-map, length-set, get_or-map}
use Rattle.std.proofs.lemmas.Bool.{cases_lt}
use Rattle.std.proofs.lemmas.List.Elements.{All-nil, All-cons, All-head, All-tail, All-weaker}
use Rattle.cpt_task.specs.Shape.{TaskShape}
use Rattle.cpt_cert_read.specs.Texts.{ended}
use Rattle.cpt_cert_read.proofs.Splits.{ended_append}
use Rattle.cpt_thin.specs.declared.fates.Fate.{Fate}
use Rattle.cpt_thin.specs.declared.fates.Fate.TheVariants.{Fixed, Kept, Dropped}
use Rattle.cpt_thin.specs.Fates.{is_dropped}
use Rattle.cpt_trim.specs.Fates.{left_of, text_of, numbers_of, kept_in, AreTold, Befits, Drops, IsNeeded}
use Rattle.cpt_trim.specs.Without.{SaysStep, without_from}

pub left_push : (fs : List Fate) (bs : List (List ℕ)) (f : Fate) (b : List ℕ) → length fs ≡ length bs → left_of (fs ++ f ∷ []) (bs ++ b ∷ []) ≡ left_of fs bs ++ (if is_dropped f then [] else b ∷ [])
left_push [] [] f b e = refl
left_push [] (c ∷ bs) f b e = absurd (omega (arith, e))
left_push (g ∷ fs) [] f b e = absurd (omega (arith, e))
left_push (Fixed ∷ fs) (c ∷ bs) f b e = ap (λ z. c ∷ z) (left_push fs bs f b (omega (arith, e)))
left_push (Kept ∷ fs) (c ∷ bs) f b e = ap (λ z. c ∷ z) (left_push fs bs f b (omega (arith, e)))
left_push (Dropped ∷ fs) (c ∷ bs) f b e = left_push fs bs f b (omega (arith, e))

pub numbers_push : (n : ℕ) (fs : List Fate) (f : Fate) → numbers_of n (fs ++ f ∷ []) ≡ numbers_of n fs ++ (if is_dropped f then (n + length fs) ∷ [] else [])
numbers_push n [] Fixed = refl
numbers_push n [] Kept = refl
numbers_push n [] Dropped = let e : n ≡ n + 0 = omega arith in ap (λ z. z ∷ []) e
numbers_push n (g ∷ fs) f = go g (numbers_push (n + 1) fs f)
  where
    at : n + 1 + length fs ≡ n + length (g ∷ fs)
    at = omega arith

    go : (g : Fate) → numbers_of (n + 1) (fs ++ f ∷ []) ≡ numbers_of (n + 1) fs ++ (if is_dropped f then (n + 1 + length fs) ∷ [] else []) → numbers_of n (g ∷ (fs ++ f ∷ [])) ≡ numbers_of n (g ∷ fs) ++ (if is_dropped f then (n + length (g ∷ fs)) ∷ [] else [])
    go Fixed h = h ∙ ap (λ z. numbers_of (n + 1) fs ++ (if is_dropped f then z ∷ [] else [])) at
    go Kept h = h ∙ ap (λ z. numbers_of (n + 1) fs ++ (if is_dropped f then z ∷ [] else [])) at
    go Dropped h = ap (λ z. n ∷ z) (h ∙ ap (λ z. numbers_of (n + 1) fs ++ (if is_dropped f then z ∷ [] else [])) at)

-- no number is below that of the first line
pub numbers_late : (n : ℕ) (fs : List Fate) → All (λ m. n ≤ m) (numbers_of n fs)
numbers_late n [] = All-nil (λ m. n ≤ m)
numbers_late n (f ∷ fs) = go f (All-weaker (λ m. n + 1 ≤ m) (λ m. n ≤ m) (λ m h. omega (arith, h)) (numbers_of (n + 1) fs) (numbers_late (n + 1) fs))
  where
    go : (f : Fate) → All (λ m. n ≤ m) (numbers_of (n + 1) fs) → All (λ m. n ≤ m) (numbers_of n (f ∷ fs))
    go Fixed h = h
    go Kept h = h
    go Dropped h = All-cons (λ m. n ≤ m) n (numbers_of (n + 1) fs) (omega arith) h

increasing_cons : (n : ℕ) (ms : List ℕ) → All (λ m. n + 1 ≤ m) ms → IsStrictlyIncreasing ms → IsStrictlyIncreasing (n ∷ ms)
increasing_cons n ms late h = go
  where
    go : (k : ℕ) → k + 1 < length (n ∷ ms) → slice_index (n ∷ ms) k < slice_index (n ∷ ms) (k + 1)
    go zero lt = let first = late 0 0 (omega (arith, lt)) in omega (arith, first)
    go (suc k) lt = let at : suc (k + 1) ≡ suc k + 1 = omega arith in subst (λ z. slice_index ms k < slice_index (n ∷ ms) z) at (h k (omega (arith, lt)))

pub numbers_increase : (n : ℕ) (fs : List Fate) → IsStrictlyIncreasing (numbers_of n fs)
numbers_increase n [] = λ k lt. absurd (omega (arith, lt))
numbers_increase n (f ∷ fs) = go f (numbers_increase (n + 1) fs)
  where
    go : (f : Fate) → IsStrictlyIncreasing (numbers_of (n + 1) fs) → IsStrictlyIncreasing (numbers_of n (f ∷ fs))
    go Fixed h = h
    go Kept h = h
    go Dropped h = increasing_cons n (numbers_of (n + 1) fs) (numbers_late (n + 1) fs) h

same_number : (n : ℕ) → (n == n) ≡ true
same_number n = grind arith

other_number : (m n : ℕ) → m ≢ n → (m == n) ≡ false
other_number m n h = grind arith

or_true : (a b : Bool) → a ≡ true → (a || b) ≡ true
or_true a b h = rw h refl

or_false : (a b : Bool) → a ≡ false → b ≡ false → (a || b) ≡ false
or_false a b h k = rw h k

-- a number that is not among these
missing : (n : ℕ) (ms : List ℕ) → All (λ m. n + 1 ≤ m) ms → list_any (λ m. m == n) ms ≡ false
missing n [] h = refl
missing n (m ∷ ms) h =
    let first = All-head (λ m. n + 1 ≤ m) m ms h in
    or_false (m == n) (list_any (λ m. m == n) ms) (other_number m n (λ e. omega (arith, e, first))) (missing n ms (All-tail (λ m. n + 1 ≤ m) m ms h))

-- a number before these lines leaves none of them out
skipped : (n k : ℕ) (ms : List ℕ) (ls : List (List ℕ)) → n < k → without_from k (n ∷ ms) ls ≡ without_from k ms ls
skipped n k ms [] lt = refl
skipped n k ms (l ∷ ls) lt =
    let more = skipped n (k + 1) ms ls (omega (arith, lt)) in
    let test : list_any (λ m. m == k) (n ∷ ms) ≡ list_any (λ m. m == k) ms = let e : (n == k) ≡ false = other_number n k (λ e. omega (arith, e, lt)) in rw e refl in
    rw (test, more) refl

none_out : (k : ℕ) (ls : List (List ℕ)) → without_from k [] ls ≡ ls
none_out k [] = refl
none_out k (l ∷ ls) = ap (λ z. l ∷ z) (none_out (k + 1) ls)

first_out : (n : ℕ) (ms : List ℕ) (b : List ℕ) (ls : List (List ℕ)) → without_from n (n ∷ ms) (b ∷ ls) ≡ without_from (n + 1) ms ls
first_out n ms b ls =
    let test : list_any (λ m. m == n) (n ∷ ms) ≡ true = or_true (n == n) (list_any (λ m. m == n) ms) (same_number n) in
    rw test (skipped n (n + 1) ms ls (omega arith))

first_in : (n : ℕ) (ms : List ℕ) (b : List ℕ) (ls : List (List ℕ)) → All (λ m. n + 1 ≤ m) ms → without_from n ms (b ∷ ls) ≡ b ∷ without_from (n + 1) ms ls
first_in n ms b ls late = let test = missing n ms late in rw test refl

-- the lines that are not dropped are those without the numbers of those that are
pub left_without : (n : ℕ) (fs : List Fate) (bs : List (List ℕ)) → length fs ≡ length bs → without_from n (numbers_of n fs) bs ≡ left_of fs bs
left_without n [] [] e = refl
left_without n [] (b ∷ bs) e = absurd (omega (arith, e))
left_without n (f ∷ fs) [] e = absurd (omega (arith, e))
left_without n (f ∷ fs) (b ∷ bs) e = go f (left_without (n + 1) fs bs (omega (arith, e)))
  where
    go : (f : Fate) → without_from (n + 1) (numbers_of (n + 1) fs) bs ≡ left_of fs bs → without_from n (numbers_of n (f ∷ fs)) (b ∷ bs) ≡ left_of (f ∷ fs) (b ∷ bs)
    go Fixed h = first_in n (numbers_of (n + 1) fs) b bs (numbers_late (n + 1) fs) ∙ ap (λ z. b ∷ z) h
    go Kept h = first_in n (numbers_of (n + 1) fs) b bs (numbers_late (n + 1) fs) ∙ ap (λ z. b ∷ z) h
    go Dropped h = first_out n (numbers_of (n + 1) fs) b bs ∙ h

-- a line that is left and says a step is a kept one
pub record IsOneLess (fs : List Fate) (bs : List (List ℕ)) (less : List (List ℕ)) : Type 0 where
  pub place : ℕ
  pub kept : slice_get fs place ≡ Some Kept
  pub same : less ≡ left_of (slice_set fs place Dropped) bs

none_less : (fs : List Fate) (k : ℕ) (body : List ℕ) → slice_get (left_of fs []) k ≡ Some body → ⊥
none_less [] k body e = cc
none_less (f ∷ fs) k body e = cc

same_some : (a b : List ℕ) → Some a ≡ Some b → a ≡ b
same_some a b e = cc

behind : (f : Fate) (fs : List Fate) (b : List ℕ) (bs less : List (List ℕ)) → is_dropped f ≡ false → IsOneLess fs bs less → IsOneLess (f ∷ fs) (b ∷ bs) (b ∷ less)
behind f fs b bs less e h = record { place = suc h.place; kept = h.kept; same = rw e (ap (λ z. b ∷ z) h.same) }

later_out : (n k : ℕ) (b : List ℕ) (ls : List (List ℕ)) → without_from n ((n + suc k) ∷ []) (b ∷ ls) ≡ b ∷ without_from (n + 1) ((n + 1 + k) ∷ []) ls
later_out n k b ls =
    let e : n + suc k ≡ n + 1 + k = omega arith in
    first_in n ((n + suc k) ∷ []) b ls (All-cons (λ m. n + 1 ≤ m) (n + suc k) [] (omega arith) (All-nil (λ m. n + 1 ≤ m))) ∙ ap (λ z. b ∷ without_from (n + 1) (z ∷ []) ls) e

pub one_less : (n k : ℕ) (fs : List Fate) (bs : List (List ℕ)) (body : List ℕ) → AllZip Befits fs bs → slice_get (left_of fs bs) k ≡ Some body → SaysStep body → IsOneLess fs bs (without_from n ((n + k) ∷ []) (left_of fs bs))
one_less n k fs [] body h at step = absurd (none_less fs k body at)
one_less n k [] (b ∷ bs) body h at step = absurd h
one_less n k (Dropped ∷ fs) (b ∷ bs) body h at step =
    let more = one_less n k fs bs body h.1 at step in record { place = suc more.place; kept = more.kept; same = more.same }
one_less n zero (Fixed ∷ fs) (b ∷ bs) body h at step = absurd (h.0 (subst SaysStep (sym (same_some b body at)) step))
one_less n zero (Kept ∷ fs) (b ∷ bs) body h at step = record { place = 0; kept = refl; same = (let e : n + 0 ≡ n = omega arith in ap (λ z. without_from n (z ∷ []) (b ∷ left_of fs bs)) e) ∙ first_out n [] b (left_of fs bs) ∙ none_out (n + 1) (left_of fs bs) }
one_less n (suc k) (Fixed ∷ fs) (b ∷ bs) body h at step = subst (IsOneLess (Fixed ∷ fs) (b ∷ bs)) (sym (later_out n k b (left_of fs bs))) (behind Fixed fs b bs (without_from (n + 1) ((n + 1 + k) ∷ []) (left_of fs bs)) refl (one_less (n + 1) k fs bs body h.1 at step))
one_less n (suc k) (Kept ∷ fs) (b ∷ bs) body h at step = subst (IsOneLess (Kept ∷ fs) (b ∷ bs)) (sym (later_out n k b (left_of fs bs))) (behind Kept fs b bs (without_from (n + 1) ((n + 1 + k) ∷ []) (left_of fs bs)) refl (one_less (n + 1) k fs bs body h.1 at step))

-- the lines that are dropped say steps
pub record IsStepAt (bs : List (List ℕ)) (n m : ℕ) : Type 0 where
  pub place : ℕ
  pub number_is : m ≡ n + place
  pub body : List ℕ
  pub line : slice_get bs place ≡ Some body
  pub step : SaysStep body

later_step : (b : List ℕ) (bs : List (List ℕ)) (n m : ℕ) → IsStepAt bs (n + 1) m → IsStepAt (b ∷ bs) n m
later_step b bs n m h = let e = h.number_is in record { place = suc h.place; number_is = omega (arith, e); body = h.body; line = h.line; step = h.step }

pub numbers_step : (n : ℕ) (fs : List Fate) (bs : List (List ℕ)) → AllZip Befits fs bs → All (IsStepAt bs n) (numbers_of n fs)
numbers_step n [] bs h = All-nil (IsStepAt bs n)
numbers_step n (f ∷ fs) [] h = absurd h
numbers_step n (f ∷ fs) (b ∷ bs) h = go f h.0 (All-weaker (IsStepAt bs (n + 1)) (IsStepAt (b ∷ bs) n) (λ m k. later_step b bs n m k) (numbers_of (n + 1) fs) (numbers_step (n + 1) fs bs h.1))
  where
    go : (f : Fate) → Befits f b → All (IsStepAt (b ∷ bs) n) (numbers_of (n + 1) fs) → All (IsStepAt (b ∷ bs) n) (numbers_of n (f ∷ fs))
    go Fixed k all = all
    go Kept k all = all
    go Dropped k all = All-cons (IsStepAt (b ∷ bs) n) n (numbers_of (n + 1) fs) (record { place = 0; number_is = omega arith; body = b; line = refl; step = k }) all

-- a line that is dropped
pub dropped_fewer : (fs : List Fate) (place : ℕ) → slice_get fs place ≡ Some Kept → kept_in (slice_set fs place Dropped) + 1 ≡ kept_in fs
dropped_fewer [] place e = absurd (cc)
dropped_fewer (Fixed ∷ fs) zero e = absurd (cc)
dropped_fewer (Kept ∷ fs) zero e = refl
dropped_fewer (Dropped ∷ fs) zero e = absurd (cc)
dropped_fewer (Fixed ∷ fs) (suc place) e = dropped_fewer fs place e
dropped_fewer (Kept ∷ fs) (suc place) e = ap (λ z. z + 1) (dropped_fewer fs place e)
dropped_fewer (Dropped ∷ fs) (suc place) e = dropped_fewer fs place e

pub dropped_befits : (fs : List Fate) (bs : List (List ℕ)) (place : ℕ) → AllZip Befits fs bs → slice_get fs place ≡ Some Kept → AllZip Befits (slice_set fs place Dropped) bs
dropped_befits [] bs place h e = absurd (cc)
dropped_befits (f ∷ fs) [] place h e = absurd h
dropped_befits (Fixed ∷ fs) (b ∷ bs) zero h e = absurd (cc)
dropped_befits (Kept ∷ fs) (b ∷ bs) zero h e = h
dropped_befits (Dropped ∷ fs) (b ∷ bs) zero h e = h
dropped_befits (f ∷ fs) (b ∷ bs) (suc place) h e = (h.0, dropped_befits fs bs place h.1 e)

ended_size : (b : List ℕ) (bs : List (List ℕ)) → length (ended (b ∷ bs)) ≡ length b + 1 + length (ended bs)
ended_size b bs =
    let size : length (ended (b ∷ bs)) ≡ length (b ++ 10 ∷ []) + length (ended bs) = length-append (b ++ 10 ∷ []) (ended bs) in
    let one : length (b ++ 10 ∷ []) ≡ length b + 1 = length-append b (10 ∷ []) in omega (arith, size, one)

short_more : (f : Fate) (fs : List Fate) (b : List ℕ) (bs : List (List ℕ)) → length (ended (left_of fs bs)) ≤ length (ended bs) → length (ended (left_of (f ∷ fs) (b ∷ bs))) ≤ length (ended (b ∷ bs))
short_more Fixed fs b bs more = let x = ended_size b (left_of fs bs) in let y = ended_size b bs in omega (arith, more, x, y)
short_more Kept fs b bs more = let x = ended_size b (left_of fs bs) in let y = ended_size b bs in omega (arith, more, x, y)
short_more Dropped fs b bs more = let y = ended_size b bs in omega (arith, more, y)

pub left_short : (fs : List Fate) (bs : List (List ℕ)) → length (ended (left_of fs bs)) ≤ length (ended bs)
left_short [] bs = omega arith
left_short (f ∷ fs) [] = omega arith
left_short (f ∷ fs) (b ∷ bs) = short_more f fs b bs (left_short fs bs)

-- one line more
pub numbers_more : (fs : List Fate) (i : ℕ) (d : Fate) → i < length fs → numbers_of 1 (take (i + 1) fs) ≡ numbers_of 1 (take i fs) ++ (if is_dropped (get_or fs i d) then (i + 1) ∷ [] else [])
numbers_more fs i d lt =
    let size = length-take-le i fs (omega (arith, lt)) in
    let e : 1 + length (take i fs) ≡ i + 1 = omega (arith, size) in
    ap (numbers_of 1) (take_more fs i d lt) ∙ numbers_push 1 (take i fs) (get_or fs i d) ∙ ap (λ z. numbers_of 1 (take i fs) ++ (if is_dropped (get_or fs i d) then z ∷ [] else [])) e

ended_if : (f : Fate) (b : List ℕ) → ended (if is_dropped f then [] else b ∷ []) ≡ (if is_dropped f then [] else b ++ 10 ∷ [])
ended_if Fixed b = append-nil (b ++ 10 ∷ [])
ended_if Kept b = append-nil (b ++ 10 ∷ [])
ended_if Dropped b = refl

pushed_more : (fs : List Fate) (bs : List (List ℕ)) (i : ℕ) (d : Fate) (e : List ℕ) → i < length fs → length fs ≡ length bs → ended (left_of (take (i + 1) fs) (take (i + 1) bs)) ≡ ended (left_of (take i fs) (take i bs)) ++ (if is_dropped (get_or fs i d) then [] else get_or bs i e ++ 10 ∷ [])
pushed_more fs bs i d e lt same =
    let inside : i < length bs = omega (arith, lt, same) in
    let one = length-take-le i fs (omega (arith, lt)) in
    let two = length-take-le i bs (omega (arith, inside)) in
    let f = get_or fs i d in
    let b = get_or bs i e in
    ap (λ z. ended (left_of z (take (i + 1) bs))) (take_more fs i d lt)
    ∙ ap (λ z. ended (left_of (take i fs ++ f ∷ []) z)) (take_more bs i e inside)
    ∙ ap ended (left_push (take i fs) (take i bs) f b (omega (arith, one, two)))
    ∙ ended_append (left_of (take i fs) (take i bs)) (if is_dropped f then [] else b ∷ [])
    ∙ ap (λ z. ended (left_of (take i fs) (take i bs)) ++ z) (ended_if f b)

pub text_more : (fs : List Fate) (bodies : List (Bor (List ℕ))) (i : ℕ) (d : Fate) (e : Bor (List ℕ)) → i < length fs → length fs ≡ length bodies
    → ended (left_of (take (i + 1) fs) (take (i + 1) (map (λ (b : Bor (List ℕ)). b.now) bodies))) ≡ ended (left_of (take i fs) (take i (map (λ (b : Bor (List ℕ)). b.now) bodies))) ++ (if is_dropped (get_or fs i d) then [] else (get_or bodies i e).now ++ 10 ∷ [])
text_more fs bodies i d e lt same =
    let now : Bor (List ℕ) → List ℕ = λ b. b.now in
    let size = length-map bodies now in
    pushed_more fs (map now bodies) i d e.now lt (omega (arith, same, size))
    ∙ ap (λ z. ended (left_of (take i fs) (take i (map now bodies))) ++ (if is_dropped (get_or fs i d) then [] else z ++ 10 ∷ [])) (get_or-map now bodies i e e.now (omega (arith, lt, same)))

-- a line that is dropped and taken back
pub restored : (fs : List Fate) (place : ℕ) → slice_get fs place ≡ Some Kept → slice_set (slice_set fs place Dropped) place Kept ≡ fs
restored [] place e = refl
restored (Fixed ∷ fs) zero e = absurd (cc)
restored (Kept ∷ fs) zero e = refl
restored (Dropped ∷ fs) zero e = absurd (cc)
restored (f ∷ fs) (suc place) e = ap (λ z. f ∷ z) (restored fs place e)

-- a line that is past the last one is not kept
pub past_end : (fs : List Fate) (place : ℕ) → length fs ≤ place → slice_get fs place ≡ Some Kept → ⊥
past_end [] place le e = cc
past_end (f ∷ fs) zero le e = omega (arith, le)
past_end (f ∷ fs) (suc place) le e = past_end fs place (omega (arith, le)) e

-- where none is dropped all are left
pub all_left : (fs : List Fate) (bs : List (List ℕ)) → length fs ≡ length bs → All (λ f. is_dropped f ≡ false) fs → left_of fs bs ≡ bs
all_left [] [] e h = refl
all_left [] (b ∷ bs) e h = absurd (omega (arith, e))
all_left (f ∷ fs) [] e h = absurd (omega (arith, e))
all_left (f ∷ fs) (b ∷ bs) e h =
    let first = All-head (λ f. is_dropped f ≡ false) f fs h in
    let more = all_left fs bs (omega (arith, e)) (All-tail (λ f. is_dropped f ≡ false) f fs h) in
    rw first (ap (λ z. b ∷ z) more)

befit_push : (fs : List Fate) (bs : List (List ℕ)) (f : Fate) (b : List ℕ) → AllZip Befits fs bs → Befits f b → AllZip Befits (fs ++ f ∷ []) (bs ++ b ∷ [])
befit_push [] [] f b h k = (k, tt)
befit_push [] (c ∷ bs) f b h k = absurd h
befit_push (g ∷ fs) [] f b h k = absurd h
befit_push (g ∷ fs) (c ∷ bs) f b h k = (h.0, befit_push fs bs f b h.1 k)

pub befit_more : (fs : List Fate) (bodies : List (Bor (List ℕ))) (i : ℕ) (e : Bor (List ℕ)) (f : Fate) → i < length bodies → AllZip Befits fs (take i (map (λ (b : Bor (List ℕ)). b.now) bodies)) → Befits f (get_or bodies i e).now → AllZip Befits (fs ++ f ∷ []) (take (i + 1) (map (λ (b : Bor (List ℕ)). b.now) bodies))
befit_more fs bodies i e f lt h k =
    let now : Bor (List ℕ) → List ℕ = λ b. b.now in
    let size = length-map bodies now in
    let more : take (i + 1) (map now bodies) ≡ take i (map now bodies) ++ (get_or bodies i e).now ∷ [] = take_more (map now bodies) i e.now (omega (arith, lt, size)) ∙ ap (λ z. take i (map now bodies) ++ z ∷ []) (get_or-map now bodies i e e.now lt) in
    subst (AllZip Befits (fs ++ f ∷ [])) (sym more) (befit_push fs (take i (map now bodies)) f (get_or bodies i e).now h k)

-- a line is dropped, and nothing is known of those before it but that there are fewer
pub told_dropped : (t : TaskShape) (old new : List Fate) (bodies : List (List ℕ)) (tail : List ℕ) (place : ℕ) → AreTold t old bodies tail → Drops t old bodies tail place new → AreTold t new bodies tail
told_dropped t old new bodies tail place told h = record { befit = subst (λ z. AllZip Befits z bodies) (sym h.set) (dropped_befits old bodies place told.befit h.kept); accepted = h.accepted }

pub fewer_dropped : (t : TaskShape) (old new : List Fate) (bodies : List (List ℕ)) (tail : List ℕ) (place : ℕ) → Drops t old bodies tail place new → kept_in new + 1 ≡ kept_in old
fewer_dropped t old new bodies tail place h = ap (λ z. kept_in z + 1) h.set ∙ dropped_fewer old place h.kept

pub length_dropped : (t : TaskShape) (old new : List Fate) (bodies : List (List ℕ)) (tail : List ℕ) (place : ℕ) → Drops t old bodies tail place new → length new ≡ length old
length_dropped t old new bodies tail place h = ap length h.set ∙ length-set old place Dropped

-- the line at a place and those behind it
pub needed_from : (t : TaskShape) (fs : List Fate) (bodies : List (List ℕ)) (tail : List ℕ) (place k : ℕ) → IsNeeded t fs bodies tail place → ((j : ℕ) → place + 1 ≤ j → IsNeeded t fs bodies tail j) → place ≤ k → IsNeeded t fs bodies tail k
needed_from t fs bodies tail place k here behind le =
    elim (cases_lt place k) [
      | inl lt ↦ behind k (omega (arith, lt))
      | inr ge ↦ (let e : place ≡ k = omega (arith, le, ge) in subst (IsNeeded t fs bodies tail) e here)
    ]

pub text_short : (fs : List Fate) (bs : List (List ℕ)) (tail : List ℕ) → length (ended bs) + length tail ≤ 16777216 → length (text_of fs bs tail) ≤ 16777216
text_short fs bs tail le =
    let size = length-append (ended (left_of fs bs)) tail in
    let short = left_short fs bs in omega (arith, size, short, le)

-- as many fates as lines
pub befit_length : (fs : List Fate) (bs : List (List ℕ)) → AllZip Befits fs bs → length fs ≡ length bs
befit_length [] [] h = refl
befit_length [] (b ∷ bs) h = absurd h
befit_length (f ∷ fs) [] h = absurd h
befit_length (f ∷ fs) (b ∷ bs) h = let e = befit_length fs bs h.1 in omega (arith, e)

pub befit_count : (fs : List Fate) (bodies : List (Bor (List ℕ))) → AllZip Befits fs (map (λ (b : Bor (List ℕ)). b.now) bodies) → length fs ≡ length bodies
befit_count fs bodies h = befit_length fs (map (λ (b : Bor (List ℕ)). b.now) bodies) h ∙ length-map bodies (λ (b : Bor (List ℕ)). b.now)

-- a line that is kept again
pub set_back : (fs : List Fate) (place : ℕ) (f : Fate) → slice_get fs place ≡ Some Kept → slice_set (slice_set fs place f) place Kept ≡ fs
set_back [] place f e = absurd (cc)
set_back (g ∷ fs) zero f e = let same : g ≡ Kept = cc in ap (λ z. z ∷ fs) (sym same)
set_back (g ∷ fs) (suc place) f e = ap (λ z. g ∷ z) (set_back fs place f e)

pub yes_of : (b : Bool) (P Q : Type 0) → MatchBool b P Q → b ≡ true → P
yes_of true P Q h e = h
yes_of false P Q h e = absurd (cc)

pub no_of : (b : Bool) (P Q : Type 0) → MatchBool b P Q → b ≡ false → Q
no_of true P Q h e = absurd (cc)
no_of false P Q h e = h
