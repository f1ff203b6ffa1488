use Rattle.std.proofs.Common.{◌≡◌, ℕ, zero, suc, ◌+◌, ◌*◌, ◌<◌, ◌≤◌, ◌⊎◌, inl, inr, Bool, true, false, ◌||◌, cond, Option, None, Some, List, [], ◌∷◌, ◌++◌, length, get_or, map, take, All, Contains, refl, sym, ap, ◌∙◌, subst, arith}
use Rattle.std.specs.Prelude.{AllPairs, flat_map}
use Rattle.std.specs.List.{AllZip, cons_option, filter, filter_map, list_any}
use Rattle.std.proofs.lemmas.List.{length-append, length-map, take_more}
use Rattle.std.proofs.lemmas.List.Elements.{All-append, All-cons, All-head, All-map, All-nil, All-tail}
use Rattle.std.proofs.lemmas.List.Folds.{list_any-append}
use Rattle.std.proofs.lemmas.List.Kept.{AllPairs-cons}
use Rattle.std.proofs.Math.ListN.{get_or-map}

cons_cases : {X : Type 0} (x : X) (xs : List X) (y : X) (k : ℕ) → k < length (x ∷ xs) → get_or (x ∷ xs) k y ≡ y → (x ≡ y) ⊎ Contains xs y
cons_cases x xs y zero lt e = inl e
cons_cases x xs y (suc k) lt e = inr (k, (let w : k < length xs = omega arith in w), e)

-- an element of a list is the first one or in the rest
pub contains-cons : {X : Type 0} (x : X) (xs : List X) (y : X) → Contains (x ∷ xs) y → (x ≡ y) ⊎ Contains xs y
contains-cons x xs y h = cons_cases x xs y h.0 h.1 h.2

pub first-contains : {X : Type 0} (x : X) (xs : List X) → Contains (x ∷ xs) x
first-contains x xs = (0, (let w : 0 < length (x ∷ xs) = omega arith in w), refl)

pub rest-contains : {X : Type 0} (x : X) (xs : List X) (y : X) → Contains xs y → Contains (x ∷ xs) y
rest-contains x xs y h = (suc h.0, (let w : h.0 < length xs = h.1 in let v : suc h.0 < length (x ∷ xs) = omega arith in v), h.2)

pub none-contains : {X : Type 0} {A : Type 0} (x : X) → Contains [] x → A
none-contains x h = let lt : h.0 < 0 = h.1 in absurd (omega arith)

-- what stands in a list and among its images
pub contains-map : {X Y : Type 0} (g : X → Y) (xs : List X) (x : X) → Contains xs x → Contains (map g xs) (g x)
contains-map g xs x h = (h.0, (let w : h.0 < length xs = h.1 in let e : length (map g xs) ≡ length xs = length-map xs g in omega arith), get_or-map g xs h.0 x ∙ ap g h.2)

pub contains-from_map : {X Y : Type 0} (g : X → Y) (xs : List X) (y : Y) → Contains (map g xs) y → (x : X) × Contains xs x × (g x ≡ y)
contains-from_map g [] y h = none-contains y h
contains-from_map g (x ∷ xs) y h =
    elim (contains-cons (g x) (map g xs) y h) [
      | inl e ↦ (x, first-contains x xs, e)
      | inr later ↦ let w = contains-from_map g xs y later in (w.0, rest-contains x xs w.0 w.1, w.2)
    ]

-- what stands in a list and is kept
kept_by : {Y : Type 0} (o : Option Y) (ys : List Y) (y : Y) → Contains (cons_option o ys) y → (o ≡ Some y) ⊎ Contains ys y
kept_by None ys y h = inr h
kept_by (Some z) ys y h = elim (contains-cons z ys y h) [ inl e ↦ inl (ap Some e) | inr later ↦ inr later ]

here_kept : {Y : Type 0} (o : Option Y) (ys : List Y) (y : Y) → o ≡ Some y → Contains (cons_option o ys) y
here_kept o ys y e = subst (λ p. Contains (cons_option p ys) y) (sym e) (first-contains y ys)

later_kept : {Y : Type 0} (o : Option Y) (ys : List Y) (y : Y) → Contains ys y → Contains (cons_option o ys) y
later_kept None ys y h = h
later_kept (Some z) ys y h = rest-contains z ys y h

pub contains-filter_map : {X Y : Type 0} (h : X → Option Y) (xs : List X) (x : X) (y : Y) → Contains xs x → h x ≡ Some y → Contains (filter_map h xs) y
contains-filter_map h [] x y has e = none-contains x has
contains-filter_map h (z ∷ xs) x y has e =
    elim (contains-cons z xs x has) [
      | inl same ↦ here_kept (h z) (filter_map h xs) y (ap h same ∙ e)
      | inr later ↦ later_kept (h z) (filter_map h xs) y (contains-filter_map h xs x y later e)
    ]

pub contains-from_filter_map : {X Y : Type 0} (h : X → Option Y) (xs : List X) (y : Y) → Contains (filter_map h xs) y → (x : X) × Contains xs x × (h x ≡ Some y)
contains-from_filter_map h [] y has = none-contains y has
contains-from_filter_map h (x ∷ xs) y has =
    elim (kept_by (h x) (filter_map h xs) y has) [
      | inl e ↦ (x, first-contains x xs, e)
      | inr later ↦ let w = contains-from_filter_map h xs y later in (w.0, rest-contains x xs w.0 w.1, w.2)
    ]

filter_cases : {X : Type 0} (b : Bool) (x : X) (ys : List X) (y : X) → Contains (cond b (x ∷ ys) ys) y → ((x ≡ y) × (b ≡ true)) ⊎ Contains ys y
filter_cases true x ys y h = elim (contains-cons x ys y h) [ inl e ↦ inl (e, refl) | inr later ↦ inr later ]
filter_cases false x ys y h = inr h

filter_here : {X : Type 0} (b : Bool) (x : X) (ys : List X) → b ≡ true → Contains (cond b (x ∷ ys) ys) x
filter_here b x ys e = subst (λ c. Contains (cond c (x ∷ ys) ys) x) (sym e) (first-contains x ys)

filter_later : {X : Type 0} (b : Bool) (x : X) (ys : List X) (y : X) → Contains ys y → Contains (cond b (x ∷ ys) ys) y
filter_later true x ys y h = rest-contains x ys y h
filter_later false x ys y h = h

pub contains-filter : {X : Type 0} (p : X → Bool) (xs : List X) (x : X) → Contains xs x → p x ≡ true → Contains (filter p xs) x
contains-filter p [] x h e = none-contains x h
contains-filter p (z ∷ xs) x h e =
    elim (contains-cons z xs x h) [
      | inl same ↦ subst (λ y. Contains (cond (p z) (z ∷ filter p xs) (filter p xs)) y) same (filter_here (p z) z (filter p xs) (ap p same ∙ e))
      | inr later ↦ filter_later (p z) z (filter p xs) x (contains-filter p xs x later e)
    ]

pub contains-from_filter : {X : Type 0} (p : X → Bool) (xs : List X) (x : X) → Contains (filter p xs) x → Contains xs x × (p x ≡ true)
contains-from_filter p [] x h = none-contains x h
contains-from_filter p (z ∷ xs) x h =
    elim (filter_cases (p z) z (filter p xs) x h) [
      | inl w ↦ (subst (λ y. Contains (z ∷ xs) y) w.0 (first-contains z xs), ap p (sym w.0) ∙ w.1)
      | inr later ↦ let w = contains-from_filter p xs x later in (rest-contains z xs x w.0, w.1)
    ]

-- the first of a list is before all later ones
pub first_before : {X : Type 0} (R : X → X → Type 0) (x : X) (xs : List X) → AllPairs R (x ∷ xs) → All (R x) xs
first_before R x xs pairs k d lt = pairs 0 (suc k) d (omega arith) (omega arith)

pub rest_ordered : {X : Type 0} (R : X → X → Type 0) (x : X) (xs : List X) → AllPairs R (x ∷ xs) → AllPairs R xs
rest_ordered R x xs pairs i j d lt within = pairs (suc i) (suc j) d (omega arith) (omega arith)

pub pairs-map : {X Y : Type 0} (R : Y → Y → Type 0) (g : X → Y) (xs : List X) → AllPairs (λ x y. R (g x) (g y)) xs → AllPairs R (map g xs)
pairs-map R g [] pairs = λ i j d lt within. absurd (omega arith)
pairs-map R g (x ∷ xs) pairs =
    AllPairs-cons R (g x) (map g xs)
    (All-map (R (g x)) g xs (first_before (λ y z. R (g y) (g z)) x xs pairs))
    (pairs-map R g xs (rest_ordered (λ y z. R (g y) (g z)) x xs pairs))

-- a test passes somewhere in joined lists where it does in one of them
pub any-flat_map : {X A : Type 0} (p : A → Bool) (g : X → List A) (xs : List X) → list_any p (flat_map g xs) ≡ list_any (λ x. list_any p (g x)) xs
any-flat_map p g [] = refl
any-flat_map p g (x ∷ xs) = list_any-append p (g x) (flat_map g xs) ∙ ap (λ b. list_any p (g x) || b) (any-flat_map p g xs)

-- what holds of all elements of joined lists
pub all-flat_map : {X A : Type 0} (P : A → Type 0) (g : X → List A) (xs : List X) → All (λ x. All P (g x)) xs → All P (flat_map g xs)
all-flat_map P g [] all = All-nil P
all-flat_map P g (x ∷ xs) all =
    All-append P (g x) (flat_map g xs) (All-head (λ y. All P (g y)) x xs all) (all-flat_map P g xs (All-tail (λ y. All P (g y)) x xs all))

-- joined lists are no longer than their number times the longest
pub flat_map-short : {X A : Type 0} (g : X → List A) (n : ℕ) (xs : List X) → All (λ x. length (g x) ≤ n) xs → length (flat_map g xs) ≤ n * length xs
flat_map-short g n [] all = omega arith
flat_map-short g n (x ∷ xs) all =
    let first : length (g x) ≤ n = All-head (λ y. length (g y) ≤ n) x xs all in
    let rest : length (flat_map g xs) ≤ n * length xs = flat_map-short g n xs (All-tail (λ y. length (g y) ≤ n) x xs all) in
    let size : length (x ∷ xs) ≡ length xs + 1 = omega arith in
    let times : n * length (x ∷ xs) ≡ n * length xs + n = ap (λ m. n * m) size ∙ omega arith in
    omega (arith, length-append (g x) (flat_map g xs))

-- one more pair
pub zip-push : {A B : Type 0} (R : A → B → Type 0) (xs : List A) (ys : List B) (x : A) (y : B) → AllZip R xs ys → R x y → AllZip R (xs ++ x ∷ []) (ys ++ y ∷ [])
zip-push R [] [] x y zip r = (r, tt)
zip-push R [] (z ∷ ys) x y zip r = absurd zip
zip-push R (w ∷ xs) [] x y zip r = absurd zip
zip-push R (w ∷ xs) (z ∷ ys) x y zip r = (zip.0, zip-push R xs ys x y zip.1 r)

pub zip-more : {A B : Type 0} (R : A → B → Type 0) (xs : List A) (ys : List B) (i : ℕ) (x : A) (y : B) → i < length xs → x ≡ get_or xs i x → AllZip R (take i xs) ys → R x y → AllZip R (take (i + 1) xs) (ys ++ y ∷ [])
zip-more R xs ys i x y lt is zip r =
    let e : take (i + 1) xs ≡ take i xs ++ x ∷ [] = take_more xs i x lt ∙ ap (λ z. take i xs ++ z ∷ []) (sym is) in
    subst (λ zs. AllZip R zs (ys ++ y ∷ [])) (sym e) (zip-push R (take i xs) ys x y zip r)

-- what the second of each pair has where the first has P
pub zip-all : {A B : Type 0} (R : A → B → Type 0) (P : A → Type 0) (Q : B → Type 0) → ((x : A) (y : B) → R x y → P x → Q y)
    → (xs : List A) (ys : List B) → AllZip R xs ys → All P xs → All Q ys
zip-all R P Q f [] [] zip all = All-nil Q
zip-all R P Q f [] (y ∷ ys) zip all = absurd zip
zip-all R P Q f (x ∷ xs) [] zip all = absurd zip
zip-all R P Q f (x ∷ xs) (y ∷ ys) zip all = All-cons Q y ys (f x y zip.0 (All-head P x xs all)) (zip-all R P Q f xs ys zip.1 (All-tail P x xs all))

pub zip-second : {A B : Type 0} (R : A → B → Type 0) (Q : B → Type 0) → ((x : A) (y : B) → R x y → Q y) → (xs : List A) (ys : List B) → AllZip R xs ys → All Q ys
zip-second R Q f [] [] zip = All-nil Q
zip-second R Q f [] (y ∷ ys) zip = absurd zip
zip-second R Q f (x ∷ xs) [] zip = absurd zip
zip-second R Q f (x ∷ xs) (y ∷ ys) zip = All-cons Q y ys (f x y zip.0) (zip-second R Q f xs ys zip.1)

pub zip-length : {A B : Type 0} (R : A → B → Type 0) (xs : List A) (ys : List B) → AllZip R xs ys → length xs ≡ length ys
zip-length R [] [] zip = refl
zip-length R [] (y ∷ ys) zip = absurd zip
zip-length R (x ∷ xs) [] zip = absurd zip
zip-length R (x ∷ xs) (y ∷ ys) zip = let e : length xs ≡ length ys = zip-length R xs ys zip.1 in omega arith
