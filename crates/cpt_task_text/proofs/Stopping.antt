-- Where reading stops, and that nothing behind the line of the fault counts.
use Rattle.std.proofs.Common.{◌≡◌, ℕ, zero, suc, ◌+◌, ◌<◌, ◌≤◌, Bool, true, false, cond, ltb, ◌⊎◌, inl, inr, List, [], ◌∷◌, ◌++◌, length, take, All, Some, slice_get, Result, Ok, Err, refl, sym, ap, subst, ◌∙◌, arith}
use Rattle.std.specs.List.Sorted.{IsStrictlyIncreasing}
use Rattle.std.proofs.lemmas.Bool.{ltb-true}
use Rattle.cpt_task.specs.declared.memory.Limit.{Limit}
use Rattle.cpt_task.specs.declared.memory.Limit.TheVariants.{LongList}
use Rattle.cpt_task_text.specs.declared.error.TaskTextError.{TaskTextError}
use Rattle.cpt_task_text.specs.declared.error.TaskTextError.TheVariants as errors
use Rattle.cpt_task_text.specs.Faults.{HasMost}
use Rattle.cpt_task_text.specs.Reading.{◌>>=◌, Rest, line_at, ends_at, within, ids_at, short_ids_at}
use Rattle.cpt_task_text.specs.Spelling.{list_line}
use Rattle.cpt_task_text.proofs.Listing.{list_takes}

-- ---- lists that begin alike

-- both have k lines, and the same
abbrev pub Agree : ℕ → List (List ℕ) → List (List ℕ) → Type 0
Agree zero xs ys = Unit {0}
Agree (suc k) [] ys = ⊥
Agree (suc k) (x ∷ xs) [] = ⊥
Agree (suc k) (x ∷ xs) (y ∷ ys) = (x ≡ y) × Agree k xs ys

pub agree_from : (k : ℕ) (xs ys : List (List ℕ)) → k ≤ length xs → take k xs ≡ take k ys → Agree k xs ys
agree_from zero xs ys le e = tt
agree_from (suc k) [] ys le e = absurd (omega (arith, le))
agree_from (suc k) (x ∷ xs) [] le e = absurd cc
agree_from (suc k) (x ∷ xs) (y ∷ ys) le e = (cc, agree_from k xs ys (omega (arith, le)) cc)

pub agree_long : (k : ℕ) (xs ys : List (List ℕ)) → Agree k xs ys → k ≤ length xs
agree_long zero xs ys a = omega arith
agree_long (suc k) [] ys a = absurd a
agree_long (suc k) (x ∷ xs) [] a = absurd a
agree_long (suc k) (x ∷ xs) (y ∷ ys) a = omega (arith, agree_long k xs ys a.1)

pub agree_take : (k : ℕ) (xs ys : List (List ℕ)) → Agree k xs ys → take k xs ≡ take k ys
agree_take zero xs ys a = refl
agree_take (suc k) [] ys a = absurd a
agree_take (suc k) (x ∷ xs) [] a = absurd a
agree_take (suc k) (x ∷ xs) (y ∷ ys) a = ap (λ (l : List ℕ). l ∷ take k xs) a.0 ∙ ap (λ (ls : List (List ℕ)). y ∷ ls) (agree_take k xs ys a.1)

agree_more : (k : ℕ) (xs ys tail : List (List ℕ)) → Agree k xs ys → Agree k xs (ys ++ tail)
agree_more zero xs ys tail a = tt
agree_more (suc k) [] ys tail a = absurd a
agree_more (suc k) (x ∷ xs) [] tail a = absurd a
agree_more (suc k) (x ∷ xs) (y ∷ ys) tail a = (a.0, agree_more k xs ys tail a.1)

agree_onto : (front xs ys : List (List ℕ)) (j k : ℕ) → j ≡ length front + k → Agree k xs ys → Agree j (front ++ xs) (front ++ ys)
agree_onto [] xs ys j k e a = let same : k ≡ j = omega (arith, e) in subst (λ (i : ℕ). Agree i xs ys) same a
agree_onto (x ∷ front) xs ys zero k e a = tt
agree_onto (x ∷ front) xs ys (suc j) k e a = (refl, agree_onto front xs ys j k (omega (arith, e)) a)

-- what follows a front in a list that begins with it
record Behind (front xs ys : List (List ℕ)) (k : ℕ) : Type 0 where
  pub rest : List (List ℕ)
  pub is : ys ≡ front ++ rest
  pub agree : Agree k xs rest

agree_behind : (front xs ys : List (List ℕ)) (j k : ℕ) → j ≡ length front + k → Agree j (front ++ xs) ys → Behind front xs ys k
agree_behind [] xs ys j k e a = let same : j ≡ k = omega (arith, e) in record { rest = ys; is = refl; agree = subst (λ (i : ℕ). Agree i xs ys) same a }
agree_behind (x ∷ front) xs ys zero k e a = absurd (omega (arith, e))
agree_behind (x ∷ front) xs [] (suc j) k e a = absurd a
agree_behind (x ∷ front) xs (y ∷ ys) (suc j) k e a =
    let b = agree_behind front xs ys j k (omega (arith, e)) a.1 in
    record { rest = b.rest; is = ap (λ (l : List ℕ). l ∷ ys) (sym a.0) ∙ ap (λ (ls : List (List ℕ)). x ∷ ls) b.is; agree = b.agree }

at_onto : (front xs : List (List ℕ)) (j k : ℕ) (line : List ℕ) → j ≡ length front + k → slice_get xs k ≡ Some line → slice_get (front ++ xs) j ≡ Some line
at_onto [] xs j k line e h = let same : k ≡ j = omega (arith, e) in subst (λ (i : ℕ). slice_get xs i ≡ Some line) same h
at_onto (x ∷ front) xs zero k line e h = absurd (omega (arith, e))
at_onto (x ∷ front) xs (suc j) k line e h = at_onto front xs j k line (omega (arith, e)) h

at_more : (xs tail : List (List ℕ)) (k : ℕ) (line : List ℕ) → slice_get xs k ≡ Some line → slice_get (xs ++ tail) k ≡ Some line
at_more [] tail zero line h = absurd cc
at_more [] tail (suc k) line h = absurd cc
at_more (x ∷ xs) tail zero line h = h
at_more (x ∷ xs) tail (suc k) line h = at_more xs tail k line h

-- ---- errors of steps

pub bind_err : {A B : Type 0} (r : Result A TaskTextError) (f : A → Result B TaskTextError) (e : TaskTextError) → (r >>= f) ≡ Err e → (r ≡ Err e) ⊎ ((x : A) × (r ≡ Ok x) × (f x ≡ Err e))
bind_err (Ok x) f e h = inr (x, refl, h)
bind_err (Err d) f e h = inl cc

-- a step fails at this line, if at all
abbrev pub OnlyLine : {A : Type 0} → ℕ → Result A TaskTextError → Type 0
OnlyLine n r = (e : TaskTextError) → r ≡ Err e → e ≡ errors.Line n

pub only_bind : {A B : Type 0} (n : ℕ) (r : Result A TaskTextError) (f : A → Result B TaskTextError) → OnlyLine n r → ((x : A) → OnlyLine n (f x)) → OnlyLine n (r >>= f)
only_bind n (Ok x) f h k = k x
only_bind n (Err d) f h k = λ e q. h e cc

pub only_ok : {A : Type 0} (n : ℕ) (x : A) → OnlyLine n (Ok x)
only_ok n x = λ e q. absurd cc

pub only_cond : {A : Type 0} (n : ℕ) (b : Bool) (x : A) → OnlyLine n (cond b (Ok x) (Err (errors.Line n)))
only_cond n true x = λ e q. absurd cc
only_cond n false x = λ e q. cc

-- where the one fails, the other fails so
abbrev pub Alike : {A B : Type 0} → Result A TaskTextError → Result B TaskTextError → Type 0
Alike r s = (e : TaskTextError) → r ≡ Err e → s ≡ Err e

pub alike_bind : {A B C : Type 0} (r : Result A TaskTextError) (f : A → Result B TaskTextError) (g : A → Result C TaskTextError) → ((x : A) → Alike (f x) (g x)) → Alike (r >>= f) (r >>= g)
alike_bind (Ok x) f g h = h x
alike_bind (Err d) f g h = λ e q. cc

pub alike_ok : {A B : Type 0} (x : A) (s : Result B TaskTextError) → Alike (Ok x) s
alike_ok x s = λ e q. absurd cc

-- a step fails at its first line, and would with whatever follows that line
abbrev pub AtFirst : {A : Type 0} → (Rest → Result A TaskTextError) → ℕ → Rest → TaskTextError → Type 0
AtFirst step n r e = (e ≡ errors.Line n) × ((z : Rest) → Agree 1 r.0 z.0 → step z ≡ Err e)

line_is : {A : Type 0} (n : ℕ) (body : List ℕ × Rest → Result A TaskTextError) (line : List ℕ) (y : Rest) (e : TaskTextError)
    → ((l : List ℕ) (y z : Rest) → Alike (body (l, y)) (body (l, z))) → body (line, y) ≡ Err e → (z : Rest) → Agree 1 (line ∷ y.0) z.0 → (line_at n z >>= body) ≡ Err e
line_is n body line y e like h ([], tail) a = absurd a
line_is n body line y e like h (l ∷ lines, tail) a = subst (λ (x : List ℕ). body (x, (lines, tail)) ≡ Err e) a.0 (like line y (lines, tail) e h)

pub first_line_fails : {A : Type 0} (n : ℕ) (body : List ℕ × Rest → Result A TaskTextError) (r : Rest) (e : TaskTextError)
    → ((x : List ℕ × Rest) → OnlyLine n (body x)) → ((l : List ℕ) (y z : Rest) → Alike (body (l, y)) (body (l, z))) → (line_at n r >>= body) ≡ Err e → AtFirst (λ z. line_at n z >>= body) n r e
first_line_fails n body ([], tail) e only like h = (cc, λ z a. absurd a)
first_line_fails n body (line ∷ lines, tail) e only like h = (only (line, (lines, tail)) e h, λ z a. line_is n body line (lines, tail) e like h z a)

more_than_end : (n : ℕ) (line : List ℕ) (lines : List (List ℕ)) (e : TaskTextError) (z : Rest) → e ≡ errors.Line n → Agree 1 (line ∷ lines) z.0 → ends_at n z ≡ Err e
more_than_end n line lines e ([], tail) is a = absurd a
more_than_end n line lines e (l ∷ ls, tail) is a = ap (λ (d : TaskTextError). Err d) (sym is)

pub end_fails : (n : ℕ) (r : Rest) (e : TaskTextError) → ends_at n r ≡ Err e → AtFirst (ends_at n) n r e
end_fails n ([], []) e h = absurd cc
end_fails n ([], b ∷ bs) e h = (cc, λ z a. absurd a)
end_fails n (line ∷ lines, tail) e h = let is : e ≡ errors.Line n = cc in (is, λ z a. more_than_end n line lines e z is a)

-- ---- where reading stops

-- line k passes the limit of a list, where the whole has a list of this kind
pub record LimitAt (count k : ℕ) (lines whole : List (List ℕ)) (which : Limit) : Type 0 where
  pub is : which ≡ LongList
  pub keyword : List ℕ
  pub most : ℕ
  pub kind : HasMost keyword most
  pub ids : List ℕ
  pub increasing : IsStrictlyIncreasing ids
  pub below : All (λ id. id < count) ids
  pub longer : most < length ids
  pub there : slice_get lines k ≡ Some (list_line keyword ids)
  pub place : slice_get whole k ≡ Some (list_line keyword [])

-- the cause of an error behind k good lines
abbrev pub Cause : (X : Type 0) → (Rest → Result X TaskTextError) → ℕ → ℕ → ℕ → Rest → List (List ℕ) → TaskTextError → Type 0
Cause X f n k count r whole errors.Memory = ⊥
Cause X f n k count r whole (errors.Line m) = (m ≡ n + k) × ((z : Rest) → Agree (suc k) r.0 z.0 → f z ≡ Err (errors.Line m))
Cause X f n k count r whole (errors.Limit which) = LimitAt count k r.0 whole which

-- reading stops behind k lines with which legal lines begin
pub record Stops (X : Type 0) (f : Rest → Result X TaskTextError) (n count : ℕ) (P : List (List ℕ) → Type 0) (r : Rest) (e : TaskTextError) : Type 0 where
  pub k : ℕ
  pub whole : List (List ℕ)
  pub legal : P whole
  pub agree : Agree k r.0 whole
  pub cause : Cause X f n k count r whole e

pub stops_now : (X : Type 0) (f : Rest → Result X TaskTextError) (n count : ℕ) (P : List (List ℕ) → Type 0) (r : Rest) (e : TaskTextError) (whole : List (List ℕ)) → P whole → AtFirst f n r e → Stops X f n count P r e
stops_now X f n count P r e whole legal at =
    record { k = 0; whole = whole; legal = legal; agree = tt; cause = subst (λ (d : TaskTextError). Cause X f n 0 count r whole d) (sym at.0) (omega arith, λ z a. at.1 z a ∙ ap (λ (d : TaskTextError). Err d) at.0) }

passed_cause : (X : Type 0) (f g : Rest → Result X TaskTextError) (n m k count : ℕ) (front : List (List ℕ)) (r q : Rest) (whole : List (List ℕ)) (e : TaskTextError)
    → r ≡ (front ++ q.0, q.1) → m ≡ n + length front → ((z : Rest) → f (front ++ z.0, z.1) ≡ g z) → Cause X g m k count q whole e → Cause X f n (length front + k) count r (front ++ whole) e
passed_cause X f g n m k count front r q whole errors.Memory er em same h = h
passed_cause X f g n m k count front r q whole (errors.Line l) er em same h = (
  omega (arith, em, h.0),
  λ z a. let b = agree_behind front q.0 z.0 (suc (length front + k)) (suc k) (omega arith) (subst (λ (s : Rest). Agree (suc (length front + k)) s.0 z.0) er a) in
      ap (λ (ls : List (List ℕ)). f (ls, z.1)) b.is ∙ same (b.rest, z.1) ∙ h.1 (b.rest, z.1) b.agree,
)
passed_cause X f g n m k count front r q whole (errors.Limit which) er em same h = record {
  is = h.is;
  keyword = h.keyword;
  most = h.most;
  kind = h.kind;
  ids = h.ids;
  increasing = h.increasing;
  below = h.below;
  longer = h.longer;
  there = subst (λ (s : Rest). slice_get s.0 (length front + k) ≡ Some (list_line h.keyword h.ids)) (sym er) (at_onto front q.0 (length front + k) k (list_line h.keyword h.ids) refl h.there);
  place = at_onto front whole (length front + k) k (list_line h.keyword []) refl h.place;
}

-- lines that were read stand before the rest
pub passed : (X : Type 0) (f g : Rest → Result X TaskTextError) (n m count : ℕ) (front : List (List ℕ)) (P : List (List ℕ) → Type 0) (r q : Rest) (e : TaskTextError)
    → r ≡ (front ++ q.0, q.1) → m ≡ n + length front → ((z : Rest) → f (front ++ z.0, z.1) ≡ g z) → Stops X g m count (λ w. P (front ++ w)) q e → Stops X f n count P r e
passed X f g n m count front P r q e er em same s = record {
  k = length front + s.k;
  whole = front ++ s.whole;
  legal = s.legal;
  agree = subst (λ (t : Rest). Agree (length front + s.k) t.0 (front ++ s.whole)) (sym er) (agree_onto front q.0 s.whole (length front + s.k) s.k refl s.agree);
  cause = passed_cause X f g n m s.k count front r q s.whole e er em same s.cause;
}

wider_cause : (X Y : Type 0) (f : Rest → Result X TaskTextError) (h : X → Result Y TaskTextError) (n k count : ℕ) (r : Rest) (whole tail : List (List ℕ)) (e : TaskTextError)
    → Cause X f n k count r whole e → Cause Y (λ z. f z >>= h) n k count r (whole ++ tail) e
wider_cause X Y f h n k count r whole tail errors.Memory c = c
wider_cause X Y f h n k count r whole tail (errors.Line m) c = (c.0, λ z a. ap (λ (s : Result X TaskTextError). s >>= h) (c.1 z a))
wider_cause X Y f h n k count r whole tail (errors.Limit which) c = record {
  is = c.is;
  keyword = c.keyword;
  most = c.most;
  kind = c.kind;
  ids = c.ids;
  increasing = c.increasing;
  below = c.below;
  longer = c.longer;
  there = c.there;
  place = at_more whole tail k (list_line c.keyword []) c.place;
}

-- the same, with steps behind it
pub wider : (X Y : Type 0) (f : Rest → Result X TaskTextError) (h : X → Result Y TaskTextError) (n count : ℕ) (P Q : List (List ℕ) → Type 0) (r : Rest) (tail : List (List ℕ)) (e : TaskTextError)
    → ((w : List (List ℕ)) → P w → Q (w ++ tail)) → Stops X f n count P r e → Stops Y (λ z. f z >>= h) n count Q r e
wider X Y f h n count P Q r tail e on s = record {
  k = s.k;
  whole = s.whole ++ tail;
  legal = on s.whole s.legal;
  agree = agree_more s.k r.0 s.whole tail s.agree;
  cause = wider_cause X Y f h n s.k count r s.whole tail e s.cause;
}

-- the same, with another sense of what is legal
pub legal_by : (X : Type 0) (f : Rest → Result X TaskTextError) (n count : ℕ) (P Q : List (List ℕ) → Type 0) (r : Rest) (e : TaskTextError) → ((w : List (List ℕ)) → P w → Q w) → Stops X f n count P r e → Stops X f n count Q r e
legal_by X f n count P Q r e on s = record { k = s.k; whole = s.whole; legal = on s.whole s.legal; agree = s.agree; cause = s.cause }

-- ---- a list that may be too long

too_many : {A : Type 0} (most c : ℕ) (which : Limit) (b : Bool) (x : A) (e : TaskTextError) → ltb most c ≡ b → (cond b (Err (errors.Limit which)) (Ok true) >>= λ few. Ok x) ≡ Err e → (e ≡ errors.Limit which) × (most < c)
too_many most c which true x e t h = (cc, ltb-true most c t)
too_many most c which false x e t h = absurd cc

limit_now : (X : Type 0) (f : Rest → Result X TaskTextError) (n count : ℕ) (P : List (List ℕ) → Type 0) (r : Rest) (e : TaskTextError) (whole : List (List ℕ)) → P whole → e ≡ errors.Limit LongList → LimitAt count 0 r.0 whole LongList → Stops X f n count P r e
limit_now X f n count P r e whole legal is at =
    record { k = 0; whole = whole; legal = legal; agree = tt; cause = subst (λ (d : TaskTextError). Cause X f n 0 count r whole d) (sym is) at }

-- reading stops at the line of a list of an action
pub short_stops : (X : Type 0) (h : List ℕ × Rest → Result X TaskTextError) (n most count : ℕ) (keyword : List ℕ) (P : List (List ℕ) → Type 0) (r : Rest) (e : TaskTextError) (others : List (List ℕ))
    → count ≤ 1000000000 → HasMost keyword most → P (list_line keyword [] ∷ others) → ((d : TaskTextError) → ids_at n keyword count r ≡ Err d → AtFirst (ids_at n keyword count) n r d)
    → short_ids_at n keyword most count r ≡ Err e → Stops X (λ z. short_ids_at n keyword most count z >>= h) n count P r e
unfolding short_ids_at
short_stops X h n most count keyword P r e others few kind legal bad q =
    elim (bind_err (ids_at n keyword count r) (λ ids. within most LongList (length ids.0) >>= λ few. Ok ids) e q) [
      | inl fault ↦
          let at = bad e fault in
          stops_now X (λ z. short_ids_at n keyword most count z >>= h) n count P r e (list_line keyword [] ∷ others) legal
          (at.0, λ z a. ap (λ (s : Result (List ℕ × Rest) TaskTextError). (s >>= λ ids. within most LongList (length ids.0) >>= λ few. Ok ids) >>= h) (at.1 z a))
      | inr ok ↦
          let t = list_takes n keyword count r ok.0 few ok.1 in
          let over = too_many most (length ok.0.0) LongList (ltb most (length ok.0.0)) ok.0 e refl ok.2 in
          limit_now X (λ z. short_ids_at n keyword most count z >>= h) n count P r e (list_line keyword [] ∷ others) legal over.0
          (record {
            is = refl;
            keyword = keyword;
            most = most;
            kind = kind;
            ids = ok.0.0;
            increasing = t.increasing;
            below = t.below;
            longer = over.1;
            there = ap (λ (s : Rest). slice_get s.0 0) t.spelled;
            place = refl;
          })
    ]
