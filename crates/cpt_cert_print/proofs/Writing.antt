-- what was written, part by part
use Rattle.std.proofs.Common.{◌≡◌, ℕ, ◌+◌, List, [], ◌∷◌, ◌++◌, Option, None, Some, length, slice_get, get_or, take, drop, min, refl, sym, ◌∙◌, ap, subst, arith}
use Rattle.std.proofs.lemmas.List.{append_assoc, append-nil, take-append-drop, length-append, take-append-le, take_min, take_more, drop_more}
use Rattle.std.proofs.Math.Nat.{min-le_right}
use Rattle.std.proofs.lemmas.Grind.{flat_map-append}
use Rattle.std.proofs.lemmas.Option.{slice_get_within, get_or_from_slice_get}
use Rattle.std.proofs.Math.Seq.{take-append-add, take-length}
use Rattle.std.specs.List.{flat_map}
use Rattle.std.specs.Io.KnownBytes.{append_known}
use Rattle.cpt_io.specs.Meaning.{AppendsFront}

append_twice : (o : Option (List ℕ)) (x y : List ℕ) → append_known (append_known o x) y ≡ append_known o (x ++ y)
append_twice None x y = refl
append_twice (Some xs) x y = ap Some (append_assoc xs x y)

-- the front of a list is a front of that list with more behind it
front_within : (n : ℕ) (y z : List ℕ) → (k : ℕ) × (take k (y ++ z) ≡ take n y)
front_within n y z = (min n (length y), take-append-le (min n (length y)) y z (min-le_right n (length y)) ∙ take_min n y)

-- after a part was written, a front of the next part is a front of all
pub front_later : (old mid new : Option (List ℕ)) (x y z : List ℕ) → mid ≡ append_known old x → AppendsFront mid new y → AppendsFront old new (x ++ (y ++ z))
front_later old mid new x y z e f =
    let k = front_within f.0 y z in (
      length x + k.0,
      f.1 ∙ (ap (λ (o : Option (List ℕ)). append_known o (take f.0 y)) e ∙ (append_twice old x (take f.0 y)
          ∙ ap (λ (l : List ℕ). append_known old l) (ap (λ (l : List ℕ). x ++ l) (sym k.1) ∙ sym (take-append-add x (y ++ z) k.0)))),
    )

module _ {X : Type 0} (f : X → List ℕ) (xs : List X) (k : ℕ) (x : X) (h : slice_get xs k ≡ Some x) where
  here : get_or xs k x ≡ x
  here = get_or_from_slice_get xs k x x h

  split_at : flat_map f xs ≡ flat_map f (take k xs) ++ (f x ++ flat_map f (drop (k + 1) xs))
  split_at =
      ap (λ (l : List X). flat_map f l) (sym (take-append-drop k xs)) ∙ (flat_map-append f (take k xs) (drop k xs)
      ∙ ap (λ (l : List ℕ). flat_map f (take k xs) ++ l) (ap (λ (l : List X). flat_map f l) (drop_more xs k x (slice_get_within xs k x h))
      ∙ ap (λ y. f y ++ flat_map f (drop (k + 1) xs)) here))

  -- where the parts before k were written, and then a front of the part at k, a front of all was written
  pub front_at : (old mid new : Option (List ℕ)) → mid ≡ append_known old (flat_map f (take k xs)) → AppendsFront mid new (f x) → AppendsFront old new (flat_map f xs)
  front_at old mid new e g =
      subst (λ (l : List ℕ). AppendsFront old new l) (sym split_at) (front_later old mid new (flat_map f (take k xs)) (f x) (flat_map f (drop (k + 1) xs)) e g)

  one_more : flat_map f (take (k + 1) xs) ≡ flat_map f (take k xs) ++ f x
  one_more =
      ap (λ (l : List X). flat_map f l) (take_more xs k x (slice_get_within xs k x h)) ∙ (flat_map-append f (take k xs) (get_or xs k x ∷ [])
      ∙ ap (λ (l : List ℕ). flat_map f (take k xs) ++ l) (ap (λ y. f y ++ []) here ∙ append-nil (f x)))

  -- where the parts before k were written, and then the part at k, the parts before k + 1 were written
  pub more_at : (old mid new : Option (List ℕ)) → mid ≡ append_known old (flat_map f (take k xs)) → new ≡ append_known mid (f x) → new ≡ append_known old (flat_map f (take (k + 1) xs))
  more_at old mid new e g =
      g ∙ (ap (λ (o : Option (List ℕ)). append_known o (f x)) e ∙ (append_twice old (flat_map f (take k xs)) (f x) ∙ ap (λ (l : List ℕ). append_known old l) (sym one_more)))

  -- the length of the parts before k + 1
  pub length_at : length (flat_map f (take (k + 1) xs)) ≡ length (flat_map f (take k xs)) + length (f x)
  length_at = ap length one_more ∙ length-append (flat_map f (take k xs)) (f x)

-- parts of parts
pub flat_map_twice : {X Y : Type 0} (f : Y → List ℕ) (g : X → List Y) (xs : List X) → flat_map f (flat_map g xs) ≡ flat_map (λ x. flat_map f (g x)) xs
flat_map_twice f g [] = refl
flat_map_twice f g (x ∷ xs) = flat_map-append f (g x) (flat_map g xs) ∙ ap (λ (l : List ℕ). flat_map f (g x) ++ l) (flat_map_twice f g xs)

-- all parts
pub all_parts : {X : Type 0} (f : X → List ℕ) (xs : List X) (k : ℕ) → k ≡ length xs → flat_map f (take k xs) ≡ flat_map f xs
all_parts f xs k e = ap (λ n. flat_map f (take n xs)) e ∙ ap (λ l. flat_map f l) (take-length xs)

-- a size that stops at a most one, with a part more
pub sized_more : (most a n total size result : ℕ) → size ≡ min a most → result ≡ min (size + n) most → total ≡ a + n → result ≡ min total most
sized_more most a n total size result e f g = omega arith
