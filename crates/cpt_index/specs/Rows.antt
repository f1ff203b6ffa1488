use Rattle.std.specs.Prelude.{◌≡◌, ℕ, suc, ◌-◌, ◌<◌, Bool, List, [], ◌∷◌, ◌++◌, if◌then◌else◌, length, map, take, All, slice_index_or, Vec, vec_items, vec_len, vec_capacity}
use Rattle.cpt_task.specs.Timeline.{is_in}

-- the rows, without their spare room
abbrev pub contents : {X Z : Type 0} → List (Vec X Z) → List (List X)
contents rows = map vec_items rows

-- the row of a number, which is empty past the last one
abbrev pub row_at : {X : Type 0} → List (List X) → ℕ → List X
row_at rows p = slice_index_or rows p []

-- how many items more each row takes in place
abbrev pub spares : {X Z : Type 0} → List (Vec X Z) → List ℕ
spares rows = map (λ v. vec_capacity v - vec_len v) rows

-- the row of a number takes one item more in place
abbrev pub HasSpare : {X Z : Type 0} → List (Vec X Z) → ℕ → Type 0
HasSpare rows p = 0 < slice_index_or (spares rows) p 0

-- each of these rows takes one item more in place
abbrev pub HasSpares : {X Z : Type 0} → List (Vec X Z) → List ℕ → Type 0
HasSpares rows at = All (HasSpare rows) at

-- the rows of these numbers are edited, and the others stay
pub record IsEditedAt {X : Type 0} (edit : List X → List X) (at : List ℕ) (old new : List (List X)) : Type 0 where
  pub count : length new ≡ length old
  pub each : (p : ℕ) → p < length old → row_at new p ≡ (if is_in p at then edit (row_at old p) else row_at old p)

-- with one item more
abbrev pub with_last : {X : Type 0} → X → List X → List X
with_last x xs = xs ++ x ∷ []

-- without the last item
abbrev pub without_last : {X : Type 0} → List X → List X
without_last xs = take (length xs - 1) xs

-- the places, counted from n, of the items that pass the test
abbrev pub places : {X : Type 0} → (X → Bool) → ℕ → List X → List ℕ
places f n [] = []
places f n (x ∷ xs) = if f x then n ∷ places f (suc n) xs else places f (suc n) xs

-- each of the rows has first what it began with, and then the items of those places, ascending, whose numbers name it
pub record AreRowsOf {X Y : Type 0} (n : ℕ) (first : ℕ → List Y) (item : ℕ → Y) (at : X → List ℕ) (xs : List X) (rows : List (List Y)) : Type 0 where
  pub count : length rows ≡ n
  pub each : (p : ℕ) → p < n → row_at rows p ≡ first p ++ map item (places (λ x. is_in p (at x)) 0 xs)
