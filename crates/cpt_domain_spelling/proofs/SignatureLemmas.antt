use Rattle.std.proofs.Common.{◌≡◌, ℕ, ◌++◌, ◌∷◌, [], Bool, true, false, List, length, All, refl, ap, ◌∙◌, sym, subst, arith}
use Rattle.std.specs.Prelude.{is_some, Ok, None}
use Rattle.std.proofs.lemmas.List.{append-nil, append_assoc}
use Rattle.std.proofs.lemmas.List.Elements.{All-head, All-tail}
use Rattle.cpt_sexp.specs.Printing as nest
use Rattle.cpt_pddl.specs.declared.typed.Sort.TheVariants.{Variables}
use Rattle.cpt_pddl.specs.Items.{Items}
use Rattle.cpt_pddl.specs.Names.{place_in}
use Rattle.cpt_pddl.specs.Typed.{no_names, typed_list}
use Rattle.cpt_pddl.specs.Words.{head_of, is_name}
use Rattle.cpt_declared.specs.declared.signatures.Last.{Last}
use Rattle.cpt_declared.specs.declared.signatures.Last.TheVariants.{Start, Behind, Dash}
use Rattle.cpt_declared.specs.declared.signatures.Signatures.{Signatures}
use Rattle.cpt_declared.specs.declared.signatures.Sort.{Sort}
use Rattle.cpt_declared.specs.declared.signatures.Sort.TheVariants.{Predicates, Functions}
use Rattle.cpt_declared.specs.Signatures.{function_at, functions_end, functions_in, functions_rest, is_refused, is_reserved, named_signature, new_name, no_signatures, predicates_in, signature, with_signature}
use Rattle.cpt_domain.specs.SoundKinds.{AreSignatures, AreVariables}
use Rattle.cpt_domain.specs.SoundNames.{AreDifferent}
use Rattle.cpt_domain_spelling.specs.Saying.{says}
use Rattle.cpt_domain_spelling.specs.Spellable.{AreDistinct, AreUnreserved, AreNames}
use Rattle.cpt_domain_spelling.specs.Spelling.{signatures_nest, variables_from, variables_nest}
use Rattle.cpt_domain_spelling.proofs.ItemLemmas.{bound, end_there, group_there, unless, when, word_there}
use Rattle.cpt_domain_spelling.proofs.NameLemmas.{place_new}
use Rattle.cpt_domain_spelling.proofs.TypedLemmas.{typed_back}
use Rattle.cpt_domain_spelling.proofs.VariableLemmas.{length_variables, variables_different, variables_fit}

abbrev signatures : List (List ℕ) → List (List ℕ) → Signatures
signatures names kinds = record { names = names; kinds = kinds }

-- variables that are said with their types are read as they are
pub variables_back : (types : List (List ℕ)) (kinds : List ℕ) (items : Items) → AreDistinct types → AreVariables (length types) kinds → says items ≡ variables_nest types kinds
    → typed_list Variables types no_names items ≡ Ok (record { names = variables_from 0 kinds; kinds = kinds })
variables_back types kinds items t h said =
    let few = h.few in
    let long = length_variables 0 kinds in
    typed_back Variables types (variables_from 0 kinds) kinds items t (variables_different kinds few) (variables_fit 0 kinds (omega arith))
    (record { lengths = sym long; below = h.below; few = omega (arith, long, few) }) said

name_back : (sort : Sort) (names : List (List ℕ)) (at : ℕ) (w : List ℕ) → is_refused sort w ≡ false → is_name w ≡ true → place_in names w ≡ None → new_name sort names at w ≡ Ok tt
unfolding new_name
name_back sort names at w free h new = unless _ _ free ∙ when _ _ h ∙ unless _ _ (ap is_some new)

signature_back : (sort : Sort) (types : List (List ℕ)) (sigs : Signatures) (w : List ℕ) (kinds : List ℕ) (items : Items) → AreDistinct types → is_refused sort w ≡ false → is_name w ≡ true
    → place_in sigs.names w ≡ None → AreVariables (length types) kinds → says items ≡ nest.name w (variables_nest types kinds) → signature sort types sigs items ≡ Ok (with_signature sigs w kinds)
unfolding named_signature
signature_back sort types sigs w kinds items t free h new v said =
    let a = word_there items w _ said in
    ap (signature sort types sigs) a.is ∙ bound _ (name_back sort sigs.names a.at w free h new) (bound _ (variables_back types kinds a.more t v a.said) refl)

predicates_rest_back : (types all done names whole before kinds : List (List ℕ)) (items : Items) → AreDistinct types → AreDifferent all → AreNames names → AreUnreserved names
    → All (AreVariables (length types)) kinds → all ≡ done ++ names → whole ≡ before ++ kinds → length names ≡ length kinds → says items ≡ signatures_nest types names kinds
    → predicates_in types (signatures done before) items ≡ Ok (signatures all whole)
predicates_rest_back types all done [] whole before [] items t d h free v e f m said =
    let last = end_there items said in
    ap (predicates_in types (signatures done before)) last.is
    ∙ ap (λ ns. Ok (signatures ns before)) (sym (append-nil done) ∙ sym e) ∙ ap (λ ks. Ok (signatures all ks)) (sym (append-nil before) ∙ sym f)
predicates_rest_back types all done [] whole before (k ∷ kinds) items t d h free v e f m said = absurd (omega arith)
predicates_rest_back types all done (w ∷ names) whole before [] items t d h free v e f m said = absurd (omega arith)
predicates_rest_back types all done (w ∷ names) whole before (k ∷ kinds) items t d h free v e f m said =
    let a = group_there items _ _ said in
    let one = All-head (λ x. is_reserved (head_of x) ≡ false) w names free in
    let own = All-head (λ x. is_name x ≡ true) w names h in
    let first = All-head (AreVariables (length types)) k kinds v in
    ap (predicates_in types (signatures done before)) a.is
    ∙ bound _ (signature_back Predicates types (signatures done before) w k a.inside t one own (place_new done w names (subst AreDifferent e d)) first a.within)
    (predicates_rest_back types all (done ++ w ∷ []) names whole (before ++ k ∷ []) kinds a.more t d (All-tail (λ x. is_name x ≡ true) w names h)
    (All-tail (λ x. is_reserved (head_of x) ≡ false) w names free) (All-tail (AreVariables (length types)) k kinds v)
    (e ∙ sym (append_assoc done (w ∷ []) names)) (f ∙ sym (append_assoc before (k ∷ []) kinds)) (omega arith) a.said)

-- predicates that are said with their variables are read as they are
pub predicates_back : (types : List (List ℕ)) (sigs : Signatures) (items : Items) → AreDistinct types → AreDistinct sigs.names → AreUnreserved sigs.names → AreSignatures (length types) sigs
    → says items ≡ signatures_nest types sigs.names sigs.kinds → predicates_in types no_signatures items ≡ Ok sigs
predicates_back types sigs items t d free h said =
    predicates_rest_back types sigs.names [] sigs.names sigs.kinds [] sigs.kinds items t d.different d.names free h.variables refl refl (sym h.lengths) said

-- a function may follow
abbrev open_after : Last → Bool
open_after Start = true
open_after Behind = true
open_after Dash = false

function_there : (last : Last) (types : List (List ℕ)) (sigs : Signatures) (at : ℕ) (inside : Items) → open_after last ≡ true → function_at last types sigs at inside ≡ signature Functions types sigs inside
function_there Start types sigs at inside h = refl
function_there Behind types sigs at inside h = refl
function_there Dash types sigs at inside h = cc

functions_close : (last : Last) (sigs : Signatures) (close : ℕ) → open_after last ≡ true → functions_end last sigs close ≡ Ok sigs
functions_close Start sigs close h = refl
functions_close Behind sigs close h = refl
functions_close Dash sigs close h = cc

functions_rest_back : (last : Last) (types all done names whole before kinds : List (List ℕ)) (items : Items) → open_after last ≡ true → AreDistinct types → AreDifferent all → AreNames names
    → All (AreVariables (length types)) kinds → all ≡ done ++ names → whole ≡ before ++ kinds → length names ≡ length kinds → says items ≡ signatures_nest types names kinds
    → functions_rest last types (signatures done before) items ≡ Ok (signatures all whole)
functions_rest_back last types all done [] whole before [] items o t d h v e f m said =
    let a = end_there items said in
    ap (functions_rest last types (signatures done before)) a.is ∙ functions_close last (signatures done before) a.close o
    ∙ ap (λ ns. Ok (signatures ns before)) (sym (append-nil done) ∙ sym e) ∙ ap (λ ks. Ok (signatures all ks)) (sym (append-nil before) ∙ sym f)
functions_rest_back last types all done [] whole before (k ∷ kinds) items o t d h v e f m said = absurd (omega arith)
functions_rest_back last types all done (w ∷ names) whole before [] items o t d h v e f m said = absurd (omega arith)
functions_rest_back last types all done (w ∷ names) whole before (k ∷ kinds) items o t d h v e f m said =
    let a = group_there items _ _ said in
    let own = All-head (λ x. is_name x ≡ true) w names h in
    let first = All-head (AreVariables (length types)) k kinds v in
    ap (functions_rest last types (signatures done before)) a.is
    ∙ bound _ (function_there last types (signatures done before) a.at a.inside o
    ∙ signature_back Functions types (signatures done before) w k a.inside t refl own (place_new done w names (subst AreDifferent e d)) first a.within)
    (functions_rest_back Behind types all (done ++ w ∷ []) names whole (before ++ k ∷ []) kinds a.more refl t d (All-tail (λ x. is_name x ≡ true) w names h)
    (All-tail (AreVariables (length types)) k kinds v)
    (e ∙ sym (append_assoc done (w ∷ []) names)) (f ∙ sym (append_assoc before (k ∷ []) kinds)) (omega arith) a.said)

-- functions that are said with their variables are read as they are
pub functions_back : (types : List (List ℕ)) (sigs : Signatures) (items : Items) → AreDistinct types → AreDistinct sigs.names → AreSignatures (length types) sigs
    → says items ≡ signatures_nest types sigs.names sigs.kinds → functions_in types no_signatures items ≡ Ok sigs
unfolding functions_in
functions_back types sigs items t d h said =
    functions_rest_back Start types sigs.names [] sigs.names sigs.kinds [] sigs.kinds items refl t d.different d.names h.variables refl refl (sym h.lengths) said
