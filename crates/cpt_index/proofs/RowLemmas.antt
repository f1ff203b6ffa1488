-- rows that are edited, and the places of items that pass a test
use Rattle.std.proofs.Common.{◌≡◌, ◌≢◌, inl, inr, ℕ, zero, suc, ◌+◌, ◌-◌, ◌<◌, ◌≤◌, ◌||◌, List, [], ◌∷◌, ◌++◌, length, map, take, set, get_or, slice_get, Some, if◌then◌else◌, Bool, true, false, All, nat_eq, refl, sym, ◌∙◌, ap, subst, arith, length-append, length-set, get_or-set_same, get_or-set_other, append_assoc, append-nil, Contains}
use Rattle.std.proofs.lemmas.Bool.{cases_Bool, cases_eq, cases_lt, eq-eqb, ne_eqb}
use Rattle.std.proofs.lemmas.List.{length-map, length-take, map-set, map-append, get_or-map, get_or_past, get_or-take, get_or_append_left, get_or_push, get_or_default, set-get_or, take_all, take_at, take_more}
use Rattle.std.proofs.lemmas.List.Folds.{list_any_more}
use Rattle.std.proofs.lemmas.List.Elements.{All-append, All-cons, All-nil}
use Rattle.std.proofs.lemmas.Option.{get_or_from_slice_get}
use Rattle.std.specs.Prelude.{Vec, vec_items, vec_len, vec_capacity}
use Rattle.std.specs.List.Sorted.{IsStrictlyIncreasing}
use Rattle.cpt_task.proofs.Order.{no_less}
use Rattle.cpt_task.specs.Timeline.{is_in}
use Rattle.cpt_index.specs.Rows.{AreRowsOf, HasSpare, HasSpares, IsEditedAt, contents, places, row_at, spares, with_last, without_last}
use Rattle.cpt_index.proofs.NeedLemmas.{in_list}

module _ {X Z : Type 0} where
  here : {Y : Type 0} (f : Vec X Z → Y) (rows : List (Vec X Z)) (p : ℕ) (v : Vec X Z) (d : Y) → slice_get rows p ≡ Some v → p < length rows → get_or (map f rows) p d ≡ f v
  here f rows p v d e lt = get_or-map f rows p v d lt ∙ ap f (get_or_from_slice_get rows p v v e)

  -- a row that is there takes one item more in place
  pub spare_within : (rows : List (Vec X Z)) (p : ℕ) → HasSpare rows p → p < length rows
  spare_within rows p h =
      elim (cases_lt p (length rows)) [
        | inl lt ↦ lt
        | inr le ↦ absurd (let e = get_or_past (spares rows) p 0 (let l = length-map rows (λ (v : Vec X Z). vec_capacity v - vec_len v) in omega arith) in omega arith)
      ]

  pub spare_here : (rows : List (Vec X Z)) (p : ℕ) (v : Vec X Z) → HasSpare rows p → slice_get rows p ≡ Some v → vec_len v < vec_capacity v
  spare_here rows p v h e = let k = here (λ w. vec_capacity w - vec_len w) rows p v 0 e (spare_within rows p h) in omega (arith, h, k)

  -- one row is put back, edited
  pub contents_put : (rows : List (Vec X Z)) (p : ℕ) (v w : Vec X Z) (edit : List X → List X) → p < length rows → slice_get rows p ≡ Some w → vec_items v ≡ edit (vec_items w) →
      contents (set rows p v) ≡ set (contents rows) p (edit (row_at (contents rows) p))
  contents_put rows p v w edit lt e f = map-set vec_items rows p v ∙ ap (λ ys. set (contents rows) p ys) (f ∙ ap edit (sym (here vec_items rows p w [] e lt)))

  -- one row is put back as it was
  pub contents_same : (rows : List (Vec X Z)) (p : ℕ) (v w : Vec X Z) → p < length rows → slice_get rows p ≡ Some w → vec_items v ≡ vec_items w → contents (set rows p v) ≡ contents rows
  contents_same rows p v w lt e f = contents_put rows p v w (λ xs. xs) lt e f ∙ set-get_or (contents rows) p []

  spares_set : (rows : List (Vec X Z)) (p : ℕ) (v : Vec X Z) → spares (set rows p v) ≡ set (spares rows) p (vec_capacity v - vec_len v)
  spares_set rows p v = map-set (λ (w : Vec X Z). vec_capacity w - vec_len w) rows p v

  -- other rows keep their room
  pub spare_other : (rows : List (Vec X Z)) (p : ℕ) (v : Vec X Z) (q : ℕ) → q ≢ p → HasSpare rows q → HasSpare (set rows p v) q
  spare_other rows p v q ne h = subst (λ n. 0 < n) (sym (ap (λ xs. get_or xs q 0) (spares_set rows p v) ∙ get_or-set_other (spares rows) p q (vec_capacity v - vec_len v) 0 ne)) h

  -- a row with room is put in
  pub spare_made : (rows : List (Vec X Z)) (p : ℕ) (v : Vec X Z) → p < length rows → vec_len v < vec_capacity v → HasSpare (set rows p v) p
  spare_made rows p v lt h =
      let l = length-map rows (λ (w : Vec X Z). vec_capacity w - vec_len w) in
      subst (λ n. 0 < n) (sym (ap (λ xs. get_or xs p 0) (spares_set rows p v) ∙ get_or-set_same (spares rows) p (vec_capacity v - vec_len v) 0 (omega arith))) (let w : 0 < vec_capacity v - vec_len v = omega arith in w)

  -- each row keeps its room
  pub spare_kept : (rows : List (Vec X Z)) (p : ℕ) (v w : Vec X Z) → p < length rows → slice_get rows p ≡ Some w → vec_len v ≡ vec_len w → vec_capacity w ≤ vec_capacity v → (q : ℕ) → HasSpare rows q → HasSpare (set rows p v) q
  spare_kept rows p v w lt e l c q h =
      elim (cases_eq q p) [
        | inl same ↦
            subst (λ z. HasSpare (set rows p v) z) (sym same) (spare_made rows p v lt (let k = spare_here rows p w (subst (λ z. HasSpare rows z) same h) e in omega arith))
        | inr other ↦ spare_other rows p v q other h
      ]

  -- one more of the rows has room
  pub spares_more : (rows news : List (Vec X Z)) (at : List ℕ) (i : ℕ) → i < length at → HasSpares rows (take i at) → ((q : ℕ) → HasSpare rows q → HasSpare news q) → HasSpare news (get_or at i 0) → HasSpares news (take (i + 1) at)
  spares_more rows news at i lt all keep it =
      subst (λ z. HasSpares news z) (sym (take_more at i 0 lt))
      (All-append (HasSpare news) (take i at) (get_or at i 0 ∷ []) (λ k d m. keep (get_or (take i at) k d) (all k d m)) (All-cons (HasSpare news) (get_or at i 0) [] it (All-nil (HasSpare news))))

  pub spares_all : (rows : List (Vec X Z)) (at : List ℕ) (n : ℕ) → length at ≤ n → HasSpares rows (take n at) → HasSpares rows at
  spares_all rows at n le h = subst (λ z. HasSpares rows z) (take_all n at le) h

  -- as many rows as before
  pub same_count : (rows news : List (Vec X Z)) → contents news ≡ contents rows → length news ≡ length rows
  same_count rows news e = sym (length-map news vec_items) ∙ (ap length e ∙ length-map rows vec_items)

  pub edited_count : (edit : List X → List X) (at : List ℕ) (rows news : List (Vec X Z)) → IsEditedAt edit at (contents rows) (contents news) → length news ≡ length rows
  edited_count edit at rows news h = sym (length-map news vec_items) ∙ (h.count ∙ length-map rows vec_items)

  pub count_of : (rows : List (Vec X Z)) → length (contents rows) ≡ length rows
  count_of rows = length-map rows vec_items

or_false : (b : Bool) → (b || false) ≡ b
or_false true = refl
or_false false = refl

-- in an increasing list what stands later is greater
strictly_less : (xs : List ℕ) → IsStrictlyIncreasing xs → (i j : ℕ) → i < j → j < length xs → get_or xs i 0 < get_or xs j 0
strictly_less xs inc i j lt within =
    let e : (i + 1) + (j - (i + 1)) ≡ j = omega arith in
    let next : get_or xs i 0 < get_or xs (i + 1) 0 = inc i (omega arith) in
    let far : get_or xs (i + 1) 0 ≤ get_or xs ((i + 1) + (j - (i + 1))) 0 = no_less xs inc (i + 1) (j - (i + 1)) (omega arith) in
    omega (arith, next, far, ap (λ n. get_or xs n 0) e)

pub place_apart : (xs : List ℕ) → IsStrictlyIncreasing xs → (i j : ℕ) → i < j → j < length xs → get_or xs j 0 ≢ get_or xs i 0
place_apart xs up i j lt within e = let h : get_or xs i 0 < get_or xs j 0 = strictly_less xs up i j lt within in omega arith

-- a number of an increasing list does not stand before its place
not_before : (at : List ℕ) (i : ℕ) → IsStrictlyIncreasing at → i < length at → is_in (get_or at i 0) (take i at) ≡ false
not_before at i up lt =
    elim (cases_Bool (is_in (get_or at i 0) (take i at))) [
      | inl e ↦ absurd (go (in_list (get_or at i 0) (take i at) e))
      | inr e ↦ e
    ]
  where
    go : Contains (take i at) (get_or at i 0) → ⊥
    go (k, m, e) =
        let l = length-take i at in
        let below : k < i = omega arith in
        let a : get_or at k 0 < get_or at i 0 = strictly_less at up k i below lt in
        let b : get_or (take i at) k (get_or at i 0) ≡ get_or at k (get_or at i 0) = get_or-take i at k (get_or at i 0) below in
        let c : get_or at k (get_or at i 0) ≡ get_or at k 0 = get_or_default at k (get_or at i 0) 0 (omega arith) in
        omega (arith, a, b, c, e)

module _ {X : Type 0} (edit : List X → List X) where
  pub edited_none : (at : List ℕ) (rows : List (List X)) → IsEditedAt edit (take 0 at) rows rows
  edited_none at rows = record { count = refl; each = λ p m. refl }

  -- one more of the rows is edited
  pub edited_more : (at : List ℕ) (i : ℕ) (old now new : List (List X)) → IsStrictlyIncreasing at → i < length at → get_or at i 0 < length old → IsEditedAt edit (take i at) old now →
      new ≡ set now (get_or at i 0) (edit (row_at now (get_or at i 0))) → IsEditedAt edit (take (i + 1) at) old new
  edited_more at i old now new up lt within h e =
      let p : ℕ = get_or at i 0 in
      let none : is_in (get_or at i 0) (take i at) ≡ false = not_before at i up lt in
      let more : (q : ℕ) → is_in q (take (i + 1) at) ≡ (is_in q (take i at) || nat_eq q (get_or at i 0)) = λ q. list_any_more (nat_eq q) at i 0 lt in
      let row : row_at now (get_or at i 0) ≡ row_at old (get_or at i 0) = h.each (get_or at i 0) within ∙ ap (λ (b : Bool). if b then edit (row_at old (get_or at i 0)) else row_at old (get_or at i 0)) none in
      let it : row_at new (get_or at i 0) ≡ (if is_in (get_or at i 0) (take (i + 1) at) then edit (row_at old (get_or at i 0)) else row_at old (get_or at i 0)) =
      ap (λ rows. row_at rows (get_or at i 0)) e
      ∙ (get_or-set_same now (get_or at i 0) (edit (row_at now (get_or at i 0))) [] (let c = h.count in omega arith)
      ∙ (ap edit row
      ∙ sym (ap (λ (b : Bool). if b then edit (row_at old (get_or at i 0)) else row_at old (get_or at i 0)) (more (get_or at i 0) ∙ (ap (λ b. b || nat_eq (get_or at i 0) (get_or at i 0)) none ∙ eq-eqb (get_or at i 0) (get_or at i 0) refl))))) in
      record {
        count = ap length e ∙ (length-set now (get_or at i 0) (edit (row_at now (get_or at i 0))) ∙ h.count);
        each = λ q m. elim (cases_eq q (get_or at i 0)) [
          | inl same ↦ subst (λ z. row_at new z ≡ (if is_in z (take (i + 1) at) then edit (row_at old z) else row_at old z)) (sym same) it
          | inr other ↦
              ap (λ rows. row_at rows q) e
              ∙ (get_or-set_other now (get_or at i 0) q (edit (row_at now (get_or at i 0))) [] other
              ∙ (h.each q m
              ∙ sym (ap (λ (b : Bool). if b then edit (row_at old q) else row_at old q) (more q ∙ (ap (λ b. is_in q (take i at) || b) (ne_eqb q (get_or at i 0) other) ∙ or_false (is_in q (take i at)))))))
        ];
      }

  -- all of the rows are edited
  pub edited_all : (at : List ℕ) (n : ℕ) (old new : List (List X)) → length at ≤ n → IsEditedAt edit (take n at) old new → IsEditedAt edit at old new
  edited_all at n old new le h = subst (λ z. IsEditedAt edit z old new) (take_all n at le) h

-- the last of the items
last_step : (b c : Bool) (n m : ℕ) (l : List ℕ) →
    (if b then n ∷ (if c then l ++ m ∷ [] else l) else (if c then l ++ m ∷ [] else l)) ≡ (if c then (if b then n ∷ l else l) ++ m ∷ [] else (if b then n ∷ l else l))
last_step true true n m l = refl
last_step true false n m l = refl
last_step false true n m l = refl
last_step false false n m l = refl

pub places_last : {X : Type 0} (f : X → Bool) (n m : ℕ) (xs : List X) (x : X) → m ≡ n + length xs → places f n (xs ++ x ∷ []) ≡ (if f x then places f n xs ++ m ∷ [] else places f n xs)
places_last f n m [] x e = ap (λ (k : ℕ). if f x then k ∷ [] else []) (let w : n ≡ m = omega arith in w)
places_last f n m (y ∷ ys) x e =
    ap (λ (l : List ℕ). if f y then n ∷ l else l) (places_last f (suc n) m ys x (omega arith))
    ∙ last_step (f y) (f x) n m (places f (suc n) ys)

pub without_last_at : {X : Type 0} (xs : List X) (x : X) → without_last (xs ++ x ∷ []) ≡ xs
without_last_at xs x = take_at xs (x ∷ []) (length (xs ++ x ∷ []) - 1) (let l = length-append xs (x ∷ []) in omega arith)

module _ {X Y : Type 0} (n : ℕ) (first : ℕ → List Y) (item : ℕ → Y) (at : X → List ℕ) where
  more_if : (b : Bool) (f : List Y) (l : List ℕ) (m : ℕ) → (if b then (f ++ map item l) ++ item m ∷ [] else f ++ map item l) ≡ f ++ map item (if b then l ++ m ∷ [] else l)
  more_if true f l m = append_assoc f (map item l) (item m ∷ []) ∙ ap (λ ys. f ++ ys) (sym (map-append item l (m ∷ [])))
  more_if false f l m = refl

  less_if : (b : Bool) (f : List Y) (l : List ℕ) (m : ℕ) → (if b then without_last (f ++ map item (if b then l ++ m ∷ [] else l)) else f ++ map item (if b then l ++ m ∷ [] else l)) ≡ f ++ map item l
  less_if true f l m = ap without_last (sym (more_if true f l m)) ∙ without_last_at (f ++ map item l) (item m)
  less_if false f l m = refl

  -- one item more
  pub rows_more : (xs : List X) (x : X) (rows news : List (List Y)) → AreRowsOf n first item at xs rows → IsEditedAt (with_last (item (length xs))) (at x) rows news → AreRowsOf n first item at (xs ++ x ∷ []) news
  rows_more xs x rows news h e = record {
    count = e.count ∙ h.count;
    each = λ p m.
        e.each p (let c = h.count in omega arith)
        ∙ (ap (λ (ys : List Y). if is_in p (at x) then ys ++ item (length xs) ∷ [] else ys) (h.each p m)
        ∙ (more_if (is_in p (at x)) (first p) (places (λ z. is_in p (at z)) 0 xs) (length xs)
        ∙ ap (λ l. first p ++ map item l) (sym (places_last (λ z. is_in p (at z)) 0 (length xs) xs x (let w : length xs ≡ 0 + length xs = omega arith in w)))));
  }

  -- one item less
  pub rows_less : (xs : List X) (x : X) (rows news : List (List Y)) → AreRowsOf n first item at (xs ++ x ∷ []) rows → IsEditedAt without_last (at x) rows news → AreRowsOf n first item at xs news
  rows_less xs x rows news h e = record {
    count = e.count ∙ h.count;
    each = λ p m.
        e.each p (let c = h.count in omega arith)
        ∙ (ap (λ (ys : List Y). if is_in p (at x) then without_last ys else ys) (h.each p m ∙ ap (λ l. first p ++ map item l) (places_last (λ z. is_in p (at z)) 0 (length xs) xs x (let w : length xs ≡ 0 + length xs = omega arith in w)))
        ∙ less_if (is_in p (at x)) (first p) (places (λ z. is_in p (at z)) 0 xs) (length xs));
  }

  -- before the first item
  pub rows_none : (rows : List (List Y)) → length rows ≡ n → ((p : ℕ) → p < n → row_at rows p ≡ first p) → AreRowsOf n first item at [] rows
  rows_none rows e h = record { count = e; each = λ p m. h p m ∙ sym (append-nil (first p)) }

-- what is said of the items that pass holds of their places
module _ {X Y : Type 0} (f : X → Bool) (item : ℕ → Y) (d : X) where
  all_step : (P : Y → Type 0) (b : Bool) (n : ℕ) (l : List ℕ) → (b ≡ true → P (item n)) → All P (map item l) → All P (map item (if b then n ∷ l else l))
  all_step P true n l h rest = All-cons P (item n) (map item l) (h refl) rest
  all_step P false n l h rest = rest

  pub places_all : (P : Y → Type 0) (n : ℕ) (xs : List X) → ((k : ℕ) → k < length xs → f (get_or xs k d) ≡ true → P (item (n + k))) → All P (map item (places f n xs))
  places_all P n [] h = All-nil P
  places_all P n (x ∷ xs) h =
      all_step P (f x) n (places f (suc n) xs) (λ e. subst (λ m. P (item m)) (let w : n + 0 ≡ n = omega arith in w) (h 0 (omega arith) e))
      (places_all P (suc n) xs (λ k lt e. subst (λ m. P (item m)) (let w : n + suc k ≡ suc n + k = omega arith in w) (h (suc k) (omega arith) e)))

  has_step : (b : Bool) (n m : ℕ) (l : List ℕ) → Contains (map item l) (item m) → Contains (map item (if b then n ∷ l else l)) (item m)
  has_step true n m l (k, lt, e) = (suc k, omega arith, e)
  has_step false n m l h = h

  has_first : (b : Bool) (n m : ℕ) (l : List ℕ) → b ≡ true → n ≡ m → Contains (map item (if b then n ∷ l else l)) (item m)
  has_first true n m l e w = (0, omega arith, ap item w)
  has_first false n m l e w = absurd (let z = e in cc)

  pub places_has : (n : ℕ) (xs : List X) (k : ℕ) → k < length xs → f (get_or xs k d) ≡ true → Contains (map item (places f n xs)) (item (n + k))
  places_has n [] k lt e = absurd (omega arith)
  places_has n (x ∷ xs) zero lt e = has_first (f x) n (n + 0) (places f (suc n) xs) e (omega arith)
  places_has n (x ∷ xs) (suc k) lt e =
      has_step (f x) n (n + suc k) (places f (suc n) xs) (subst (λ m. Contains (map item (places f (suc n) xs)) (item m)) (let w : suc n + k ≡ n + suc k = omega arith in w) (places_has (suc n) xs k (omega arith) e))

pub increasing_none : IsStrictlyIncreasing []
increasing_none k lt = absurd (omega arith)

-- an increasing list with a greater number at its end
pub increasing_put : (x : ℕ) (r : Bool) (xs ys : List ℕ) → ys ≡ (if r then xs ++ x ∷ [] else xs) → IsStrictlyIncreasing xs → All (λ y. y < x) xs → IsStrictlyIncreasing ys
increasing_put x false xs ys e up below = subst IsStrictlyIncreasing (sym e) up
increasing_put x true xs ys e up below = subst IsStrictlyIncreasing (sym e) go
  where
    go : IsStrictlyIncreasing (xs ++ x ∷ [])
    go k lt =
        let l = length-append xs (x ∷ []) in
        elim (cases_lt (k + 1) (length xs)) [
          | inl m ↦
              let a : get_or (xs ++ x ∷ []) k 0 ≡ get_or xs k 0 = get_or_append_left xs (x ∷ []) 0 k (omega arith) in
              let b : get_or (xs ++ x ∷ []) (k + 1) 0 ≡ get_or xs (k + 1) 0 = get_or_append_left xs (x ∷ []) 0 (k + 1) m in
              let c : get_or xs k 0 < get_or xs (k + 1) 0 = up k m in
              omega (arith, a, b, c)
          | inr m ↦
              let a : get_or (xs ++ x ∷ []) k 0 ≡ get_or xs k 0 = get_or_append_left xs (x ∷ []) 0 k (omega arith) in
              let b : get_or (xs ++ x ∷ []) (k + 1) 0 ≡ x = get_or_push xs x 0 (k + 1) (omega arith) in
              let c : get_or xs k 0 < x = below k 0 (omega arith) in
              omega (arith, a, b, c)
        ]

pub below_put : (x : ℕ) (r : Bool) (xs ys : List ℕ) → ys ≡ (if r then xs ++ x ∷ [] else xs) → All (λ y. y < x) xs → All (λ y. y < x + 1) ys
below_put x false xs ys e below = subst (λ z. All (λ y. y < x + 1) z) (sym e) (λ k d lt. let h = below k d lt in omega arith)
below_put x true xs ys e below =
    subst (λ z. All (λ y. y < x + 1) z) (sym e)
    (All-append (λ y. y < x + 1) xs (x ∷ []) (λ k d lt. let h = below k d lt in omega arith) (All-cons (λ y. y < x + 1) x [] (omega arith) (All-nil (λ y. y < x + 1))))

module _ {X Y : Type 0} (f : X → Bool) (item : ℕ → Y) (d : X) where
  zero_plus : (k : ℕ) → 0 + k ≡ k
  zero_plus k = omega arith

  pub each_place : (P : Y → Type 0) (xs : List X) → ((k : ℕ) → k < length xs → f (get_or xs k d) ≡ true → P (item k)) → All P (map item (places f 0 xs))
  each_place P xs h = places_all f item d P 0 xs (λ k lt e. subst (λ m. P (item m)) (sym (zero_plus k)) (h k lt e))

  pub has_place : (xs : List X) (k : ℕ) → k < length xs → f (get_or xs k d) ≡ true → Contains (map item (places f 0 xs)) (item k)
  has_place xs k lt e = subst (λ m. Contains (map item (places f 0 xs)) (item m)) (zero_plus k) (places_has f item d 0 xs k lt e)
