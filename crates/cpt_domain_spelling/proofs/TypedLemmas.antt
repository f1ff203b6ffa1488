use Rattle.std.proofs.Common.{◌≡◌, ◌≢◌, ℕ, ◌+◌, ◌-◌, ◌<◌, ◌≤◌, ◌++◌, ◌∷◌, [], Bool, true, false, List, length, All, refl, ap, ◌∙◌, sym, subst, arith}
use Rattle.std.specs.Prelude.{is_some, replicate, Ok, None, codes}
use Rattle.std.specs.Str.{bytes_eq}
use Rattle.std.proofs.lemmas.Bool.{lt-leb, ne_eqb}
use Rattle.std.proofs.lemmas.List.{append-nil, append_assoc, length-append}
use Rattle.std.proofs.lemmas.List.Elements.{All-head, All-tail}
use Rattle.cpt_pddl.specs.declared.fault.Fault.TheVariants as faults
use Rattle.cpt_pddl.specs.declared.typed.Sort.{Sort}
use Rattle.cpt_pddl.specs.declared.typed.Sort.TheVariants.{Objects, Variables}
use Rattle.cpt_pddl.specs.declared.typed.Typed.{Typed}
use Rattle.cpt_pddl.specs.Faults.{or_fault}
use Rattle.cpt_pddl.specs.Items.{Items}
use Rattle.cpt_pddl.specs.Names.{place_in}
use Rattle.cpt_pddl.specs.Typed.{Run, dashed, declared, finished, fits_sort, most, no_names, padded, taken, type_word, typed_as, typed_list, typed_rest}
use Rattle.cpt_pddl.specs.Typed as typed
use Rattle.cpt_domain.specs.SoundKinds.{AreBelow, AreTyped}
use Rattle.cpt_domain.specs.SoundNames.{AreDifferent}
use Rattle.cpt_domain_spelling.specs.Saying.{says}
use Rattle.cpt_domain_spelling.specs.Spellable.{AreDistinct}
use Rattle.cpt_domain_spelling.specs.Names.{named}
use Rattle.cpt_domain_spelling.specs.Spelling.{typed_nest}
use Rattle.cpt_domain_spelling.proofs.ItemLemmas.{bound, end_there, unless, when, word_there}
use Rattle.cpt_domain_spelling.proofs.NameLemmas.{name_other, other_bytes, place_new, place_there, variable_other}

-- a typed list that is being read, and one that was read
abbrev reading : List (List ℕ) → List ℕ → Bool → Run
reading names kinds dash = record { names = names; kinds = kinds; dash = dash }

abbrev pub typed_of : List (List ℕ) → List ℕ → Typed
typed_of names kinds = record { names = names; kinds = kinds }

fits_no_dash : (sort : Sort) (w : List ℕ) → fits_sort sort w ≡ true → bytes_eq w (codes "-") ≡ false
fits_no_dash Objects w h = other_bytes w (codes "-") (name_other w 45 [] h (omega arith))
fits_no_dash Variables w h = other_bytes w (codes "-") (variable_other w 45 [] h (omega arith))

name_step : (sort : Sort) (types names : List (List ℕ)) (kinds : List ℕ) (at : ℕ) (w : List ℕ) → fits_sort sort w ≡ true → place_in names w ≡ None → length names < most sort
    → taken sort types (reading names kinds false) at w ≡ Ok (reading (names ++ w ∷ []) kinds false)
unfolding taken typed.named declared
name_step sort types names kinds at w fits new room =
    unless _ _ (fits_no_dash sort w fits)
    ∙ bound _ (when _ _ fits ∙ unless _ _ (ap is_some new) ∙ unless _ _ (lt-leb (most sort) (length names) room)) refl

dash_step : (sort : Sort) (types names : List (List ℕ)) (kinds : List ℕ) (at : ℕ) → length names ≢ length kinds → taken sort types (reading names kinds false) at (codes "-") ≡ Ok (reading names kinds true)
unfolding taken dashed
dash_step sort types names kinds at h = unless _ _ (ne_eqb (length names) (length kinds) h)

padded_one : (len kind : ℕ) (kinds : List ℕ) → len ≡ length kinds + 1 → padded len kind kinds ≡ kinds ++ kind ∷ []
padded_one len kind kinds e = let one : len - length kinds ≡ 1 = omega (arith, e) in ap (λ n. kinds ++ replicate n kind) one

type_step : (sort : Sort) (types names : List (List ℕ)) (kinds : List ℕ) (at kind : ℕ) → AreDistinct types → kind < length types → length names ≡ length kinds + 1
    → taken sort types (reading names kinds true) at (named types kind) ≡ Ok (reading names (kinds ++ kind ∷ []) false)
unfolding taken typed_as
type_step sort types names kinds at kind h lt e =
    bound _ (when _ _ (h.names kind [] lt) ∙ ap (or_fault (faults.BadName at)) (place_there types kind h.different lt))
    (ap (λ ks. Ok (reading names ks false)) (padded_one (length names) kind kinds e))

typed_end : (done : List (List ℕ)) (kinds : List ℕ) (close : ℕ) → length done ≡ length kinds → finished (reading done kinds false) close ≡ Ok (typed_of done kinds)
unfolding finished
typed_end done kinds close e =
    let none : length done - length kinds ≡ 0 = omega (arith, e) in
    ap (λ n. Ok (typed_of done (kinds ++ replicate n 0))) none ∙ ap (λ ks. Ok (typed_of done ks)) (append-nil kinds)

-- the rest of a typed list that says its names with their types
rest_back : (sort : Sort) (types all done names : List (List ℕ)) (whole before kinds : List ℕ) (items : Items) → AreDistinct types → AreDifferent all → length all ≤ most sort
    → All (λ w. fits_sort sort w ≡ true) names → AreBelow (length types) kinds → all ≡ done ++ names → whole ≡ before ++ kinds → length done ≡ length before → length names ≡ length kinds
    → says items ≡ typed_nest types names kinds → typed_rest sort types (reading done before false) items ≡ Ok (typed_of all whole)
rest_back sort types all done [] whole before [] items t d few fit below e f n m said =
    let last = end_there items said in
    ap (typed_rest sort types (reading done before false)) last.is ∙ typed_end done before last.close n
    ∙ ap (λ ns. Ok (typed_of ns before)) (sym (append-nil done) ∙ sym e) ∙ ap (λ ks. Ok (typed_of all ks)) (sym (append-nil before) ∙ sym f)
rest_back sort types all done [] whole before (kind ∷ kinds) items t d few fit below e f n m said = absurd (omega arith)
rest_back sort types all done (w ∷ names) whole before [] items t d few fit below e f n m said = absurd (omega arith)
rest_back sort types all done (w ∷ names) whole before (kind ∷ kinds) items t d few fit below e f n m said =
    let a = word_there items w _ said in
    let b = word_there a.more (codes "-") _ a.said in
    let c = word_there b.more (named types kind) _ b.said in
    let fits = All-head (λ v. fits_sort sort v ≡ true) w names fit in
    let lt = All-head (λ k. k < length types) kind kinds below in
    let long = length-append done (w ∷ names) in
    let one = length-append done (w ∷ []) in
    let step = length-append before (kind ∷ []) in
    let total = ap length e in
    let room : length done < most sort = omega (arith, long, total, few) in
    let new = place_new done w names (subst AreDifferent e d) in
    ap (typed_rest sort types (reading done before false)) a.is
    ∙ bound _ (name_step sort types done before a.at w fits new room)
    (ap (typed_rest sort types (reading (done ++ w ∷ []) before false)) b.is
    ∙ bound _ (dash_step sort types (done ++ w ∷ []) before b.at (omega (arith, one, n)))
    (ap (typed_rest sort types (reading (done ++ w ∷ []) before true)) c.is
    ∙ bound _ (type_step sort types (done ++ w ∷ []) before c.at kind t lt (omega (arith, one, n)))
    (rest_back sort types all (done ++ w ∷ []) names whole (before ++ kind ∷ []) kinds c.more t d few
    (All-tail (λ v. fits_sort sort v ≡ true) w names fit) (All-tail (λ k. k < length types) kind kinds below)
    (e ∙ sym (append_assoc done (w ∷ []) names)) (f ∙ sym (append_assoc before (kind ∷ []) kinds)) (omega (arith, one, step, n)) (omega arith) c.said)))

-- a typed list that says its names with their types is read as them
pub typed_back : (sort : Sort) (types names : List (List ℕ)) (kinds : List ℕ) (items : Items) → AreDistinct types → AreDifferent names → All (λ w. fits_sort sort w ≡ true) names
    → AreTyped (most sort) (length types) (typed_of names kinds) → says items ≡ typed_nest types names kinds → typed_list sort types no_names items ≡ Ok (typed_of names kinds)
unfolding typed_list
typed_back sort types names kinds items t d fit h said =
    rest_back sort types names [] names kinds [] kinds items t d h.few fit h.below refl refl refl (sym h.lengths) said
