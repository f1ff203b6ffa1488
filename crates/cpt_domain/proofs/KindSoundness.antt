use Rattle.std.proofs.Common.{◌≡◌, ℕ, ◌<◌, ◌+◌, ◌++◌, ◌∷◌, [], true, false, nat_eq, List, length, drop, refl, ap, ◌∙◌, sym, arith}
use Rattle.std.specs.Prelude.{if◌then◌else◌, Ok, Err, Option, None, Some, codes, slice_set}
use Rattle.std.specs.Str.{bytes_eq}
use Rattle.std.proofs.lemmas.List.{length-set}
use Rattle.std.proofs.lemmas.List.Elements.{All-set, All-cons, All-nil}
use Rattle.cpt_pddl.specs.declared.fault.Fault.TheVariants as faults
use Rattle.cpt_pddl.specs.Items.{Items, end, word, group}
use Rattle.cpt_pddl.specs.Kinds.{is_below}
use Rattle.cpt_pddl.specs.Names.{place_in}
use Rattle.cpt_pddl.specs.Words.{is_name}
use Rattle.cpt_declared.specs.declared.kinds.Kinds.{Kinds}
use Rattle.cpt_declared.specs.Kinds.{KindRun, adopted, below_parent, dashed, entered_as, finished, is_entered, is_rooted, kinds_in, kinds_rest, object_alone, parent_as, start, taken}
use Rattle.cpt_domain.specs.SoundKinds.{AreBelow, AreKinds}
use Rattle.cpt_domain.proofs.Tools.{Holds, all_end, holds_bind, holds_if, length_end, more_below, place_below}

-- so many types have a parent each, which is one of them
record AreParents (count : ℕ) (parents : List ℕ) : Type 0 where
  lengths : length parents ≡ count
  some : 0 < count
  below : AreBelow count parents

-- the same of a list of types that is being read
abbrev KeepsParents : KindRun → Type 0
KeepsParents run = AreParents (length run.names) run.parents

one_type_more : (names : List (List ℕ)) (w : List ℕ) (parents : List ℕ) → AreParents (length names) parents → AreParents (length (names ++ w ∷ [])) (parents ++ 0 ∷ [])
one_type_more names w parents h =
    let n : length (names ++ w ∷ []) ≡ length names + 1 = length_end names w in
    record {
      lengths = length_end parents 0 ∙ ap (λ k. k + 1) h.lengths ∙ sym n;
      some = omega (arith, n);
      below = all_end (λ k. k < length (names ++ w ∷ [])) parents 0 (more_below (length names) (length (names ++ w ∷ [])) parents (omega (arith, n)) h.below) (omega (arith, n));
    }

adopted_below : (count parent : ℕ) (kinds parents : List ℕ) → parent < count → AreParents count parents → AreParents count (adopted parent kinds parents)
adopted_below count parent [] parents lt h = h
adopted_below count parent (kind ∷ kinds) parents lt h =
    adopted_below count parent kinds (slice_set parents kind parent) lt (record {
      lengths = length-set parents kind parent ∙ h.lengths;
      some = h.some;
      below = All-set (λ k. k < count) parents kind parent lt h.below;
    })

below_parent_below : (count parent : ℕ) (kinds parents : List ℕ) → parent < count → AreParents count parents → AreParents count (below_parent parent kinds parents)
below_parent_below count parent kinds parents lt h =
    elim (nat_eq parent 0) as (λ b. AreParents count (if b then parents else adopted parent kinds parents)) [ true ↦ h | false ↦ adopted_below count parent kinds parents lt h ]

entered_keeps : (run : KindRun) (at : ℕ) (w : List ℕ) (o : Option ℕ) → KeepsParents run → Holds KeepsParents (entered_as run at w o)
entered_keeps run at w None h = one_type_more run.names w run.parents h
entered_keeps run at w (Some kind) h = holds_if KeepsParents (is_entered run.entered kind) (Err (faults.Twice at)) (Ok (record run { entered = run.entered ++ kind ∷ [] })) (λ _. tt) (λ _. h)

parent_keeps : (run : KindRun) (w : List ℕ) (o : Option ℕ) → ((n : ℕ) → o ≡ Some n → n < length run.names) → KeepsParents run → KeepsParents (parent_as run w o)
parent_keeps run w None place h =
    below_parent_below (length (run.names ++ w ∷ [])) (length run.names) (drop run.parented run.entered) (run.parents ++ 0 ∷ []) (let n = length_end run.names w in omega (arith, n)) (one_type_more run.names w run.parents h)
parent_keeps run w (Some parent) place h = below_parent_below (length run.names) parent (drop run.parented run.entered) run.parents (place parent refl) h

taken_keeps : (run : KindRun) (at : ℕ) (w : List ℕ) → KeepsParents run → Holds KeepsParents (taken run at w)
unfolding taken dashed
taken_keeps run at w h =
    holds_if KeepsParents run.dash _ _
    (λ _. holds_if KeepsParents (is_name w) (Ok (parent_as run w (place_in run.names w))) (Err (faults.Shape at)) (λ _. parent_keeps run w (place_in run.names w) (place_below run.names w) h) (λ _. tt))
    (λ _. holds_if KeepsParents (bytes_eq w (codes "-")) _ _
    (λ _. holds_if KeepsParents (nat_eq (length run.entered) run.parented) (Err (faults.Shape at)) (Ok (record run { dash = true })) (λ _. tt) (λ _. h))
    (λ _. holds_if KeepsParents (is_name w) (entered_as run at w (place_in run.names w)) (Err (faults.Shape at)) (λ _. entered_keeps run at w (place_in run.names w) h) (λ _. tt)))

abbrev pub SoundTypes : Kinds → Type 0
SoundTypes kinds = AreKinds (length kinds.names) kinds.parents

finished_sound : (section : ℕ) (run : KindRun) (close : ℕ) → KeepsParents run → Holds SoundTypes (finished section run close)
unfolding finished
finished_sound section run close h =
    holds_if SoundTypes run.dash (Err (faults.Shape close)) _ (λ _. tt)
    (λ _. holds_if SoundTypes (is_rooted run.parents) (Ok (record { names = run.names; parents = run.parents })) (Err (faults.BadType section))
    (λ rooted. record { lengths = h.lengths; some = h.some; below = h.below; rooted = rooted }) (λ _. tt))

rest_sound : (section : ℕ) (run : KindRun) (items : Items) → KeepsParents run → Holds SoundTypes (kinds_rest section run items)
rest_sound section run (end close) h = finished_sound section run close h
rest_sound section run (word at w rest) h =
    holds_bind KeepsParents SoundTypes (taken run at w) (λ next. kinds_rest section next rest) (taken_keeps run at w h) (λ next k. rest_sound section next rest k)
rest_sound section run (group at inside rest) h = tt

-- the types of a section are sound
pub kinds_sound : (section : ℕ) (items : Items) → Holds SoundTypes (kinds_in section items)
unfolding kinds_in
kinds_sound section items =
    rest_sound section start items (record { lengths = refl; some = omega arith; below = All-cons (λ k. k < 1) 0 [] (omega arith) (All-nil (λ k. k < 1)) })

-- the one type that is always there is sound
pub object_sound : SoundTypes object_alone
unfolding is_rooted is_below
object_sound = record { lengths = refl; some = omega arith; below = All-cons (λ k. k < 1) 0 [] (omega arith) (All-nil (λ k. k < 1)); rooted = refl }
