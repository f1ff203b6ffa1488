use Rattle.std.proofs.Common.{◌≡◌, ℕ, ◌<◌, ◌≤◌, ◌+◌, ◌-◌, ◌++◌, ◌∷◌, [], true, false, nat_eq, List, length, arith}
use Rattle.std.specs.Prelude.{is_some, nat_le, replicate, Ok, Err, codes}
use Rattle.std.specs.Str.{bytes_eq}
use Rattle.std.proofs.lemmas.Bool.Decides.{nat_tests}
use Rattle.std.proofs.lemmas.List.{length-append}
use Rattle.std.proofs.lemmas.List.Elements.{All-append, All-nil}
use Rattle.cpt_pddl.specs.declared.fault.Fault.TheVariants as faults
use Rattle.cpt_pddl.specs.declared.typed.Sort.{Sort}
use Rattle.cpt_pddl.specs.Faults.{or_fault}
use Rattle.cpt_pddl.specs.Items.{Items, end, word, group}
use Rattle.cpt_pddl.specs.Names.{place_in}
use Rattle.cpt_pddl.specs.Typed.{Run, dashed, declared, finished, fits_sort, limit_of, most, named, no_names, padded, taken, type_word, typed_as, typed_list, typed_rest}
use Rattle.cpt_pddl.specs.Words.{is_name}
use Rattle.cpt_domain.specs.SoundKinds.{AreBelow, AreTyped}
use Rattle.cpt_domain.proofs.Tools.{Holds, holds_bind, holds_found, holds_if, length_end, length_replicate, place_below, replicate_below}

le_false : (a b : ℕ) → nat_le a b ≡ false → b < a
le_false a b h = grind (arith, nat_tests)

-- a typed list that is being read: at most so many names, and some of them have one of so many types
record KeepsTyped (limit count : ℕ) (run : Run) : Type 0 where
  fewer : length run.kinds ≤ length run.names
  below : AreBelow count run.kinds
  few : length run.names ≤ limit

length_padded : (len kind : ℕ) (kinds : List ℕ) → length kinds ≤ len → length (padded len kind kinds) ≡ len
length_padded len kind kinds h =
    let a = length-append kinds (replicate (len - length kinds) kind) in
    let b = length_replicate (len - length kinds) kind in
    omega (arith, a, b, h)

padded_below : (count len kind : ℕ) (kinds : List ℕ) → kind < count → AreBelow count kinds → AreBelow count (padded len kind kinds)
padded_below count len kind kinds lt h =
    All-append (λ n. n < count) kinds (replicate (len - length kinds) kind) h (replicate_below count (len - length kinds) kind lt)

declared_few : (sort : Sort) (names : List (List ℕ)) (at : ℕ) (w : List ℕ) → Holds (λ more. (length more ≡ length names + 1) × (length more ≤ most sort)) (declared sort names at w)
unfolding declared
declared_few sort names at w =
    let P : List (List ℕ) → Type 0 = λ more. (length more ≡ length names + 1) × (length more ≤ most sort) in
    holds_if P (fits_sort sort w) _ (Err (faults.Shape at))
    (λ _. holds_if P (is_some (place_in names w)) (Err (faults.Twice at)) _ (λ _. tt)
    (λ _. holds_if P (nat_le (most sort) (length names)) (Err (faults.Limit (limit_of sort) at)) (Ok (names ++ w ∷ [])) (λ _. tt)
    (λ room. let lt = le_false (most sort) (length names) room in let e = length_end names w in (e, omega (arith, e, lt)))))
    (λ _. tt)

named_keeps : (sort : Sort) (count : ℕ) (run : Run) (at : ℕ) (w : List ℕ) → KeepsTyped (most sort) count run → Holds (KeepsTyped (most sort) count) (named sort run at w)
unfolding named
named_keeps sort count run at w h =
    holds_bind (λ more. (length more ≡ length run.names + 1) × (length more ≤ most sort)) (KeepsTyped (most sort) count) (declared sort run.names at w)
    (λ names. Ok (record run { names = names })) (declared_few sort run.names at w)
    (λ names k. record { fewer = omega (arith, k.0, h.fewer); below = h.below; few = k.1 })

type_sound : (types : List (List ℕ)) (at : ℕ) (w : List ℕ) → Holds (λ kind. kind < length types) (type_word types at w)
type_sound types at w =
    holds_if (λ kind. kind < length types) (is_name w) (or_fault (faults.BadName at) (place_in types w)) (Err (faults.Shape at))
    (λ _. holds_found (λ kind. kind < length types) (faults.BadName at) (place_in types w) (place_below types w)) (λ _. tt)

typed_as_keeps : (limit : ℕ) (types : List (List ℕ)) (run : Run) (at : ℕ) (w : List ℕ) → KeepsTyped limit (length types) run → Holds (KeepsTyped limit (length types)) (typed_as types run at w)
unfolding typed_as
typed_as_keeps limit types run at w h =
    holds_bind (λ kind. kind < length types) (KeepsTyped limit (length types)) (type_word types at w)
    (λ kind. Ok (record { names = run.names; kinds = padded (length run.names) kind run.kinds; dash = false })) (type_sound types at w)
    (λ kind lt. record {
      fewer = let e = length_padded (length run.names) kind run.kinds h.fewer in omega (arith, e);
      below = padded_below (length types) (length run.names) kind run.kinds lt h.below;
      few = h.few;
    })

taken_keeps : (sort : Sort) (types : List (List ℕ)) (run : Run) (at : ℕ) (w : List ℕ) → KeepsTyped (most sort) (length types) run → Holds (KeepsTyped (most sort) (length types)) (taken sort types run at w)
unfolding taken dashed
taken_keeps sort types run at w h =
    let P : Run → Type 0 = KeepsTyped (most sort) (length types) in
    holds_if P run.dash (typed_as types run at w) _ (λ _. typed_as_keeps (most sort) types run at w h)
    (λ _. holds_if P (bytes_eq w (codes "-")) _ (named sort run at w)
    (λ _. holds_if P (nat_eq (length run.names) (length run.kinds)) (Err (faults.Shape at)) (Ok (record run { dash = true })) (λ _. tt)
    (λ _. record { fewer = h.fewer; below = h.below; few = h.few }))
    (λ _. named_keeps sort (length types) run at w h))

finished_sound : (limit count : ℕ) (run : Run) (close : ℕ) → 0 < count → KeepsTyped limit count run → Holds (AreTyped limit count) (finished run close)
unfolding finished
finished_sound limit count run close some h =
    holds_if (AreTyped limit count) run.dash (Err (faults.Shape close)) (Ok (record { names = run.names; kinds = padded (length run.names) 0 run.kinds })) (λ _. tt)
    (λ _. record {
      lengths = length_padded (length run.names) 0 run.kinds h.fewer;
      below = padded_below count (length run.names) 0 run.kinds some h.below;
      few = h.few;
    })

rest_sound : (sort : Sort) (types : List (List ℕ)) (run : Run) (items : Items) → 0 < length types → KeepsTyped (most sort) (length types) run → Holds (AreTyped (most sort) (length types)) (typed_rest sort types run items)
rest_sound sort types run (end close) some h = finished_sound (most sort) (length types) run close some h
rest_sound sort types run (word at w rest) some h =
    holds_bind (KeepsTyped (most sort) (length types)) (AreTyped (most sort) (length types)) (taken sort types run at w) (λ next. typed_rest sort types next rest)
    (taken_keeps sort types run at w h) (λ next k. rest_sound sort types next rest some k)
rest_sound sort types run (group at inside rest) some h = tt

-- a typed list is sound
pub typed_sound : (sort : Sort) (types : List (List ℕ)) (items : Items) → 0 < length types → Holds (AreTyped (most sort) (length types)) (typed_list sort types no_names items)
unfolding typed_list
typed_sound sort types items some =
    rest_sound sort types (record { names = []; kinds = []; dash = false }) items some
    (record { fewer = omega arith; below = All-nil (λ n. n < length types); few = omega arith })
