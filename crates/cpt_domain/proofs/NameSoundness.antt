use Rattle.std.proofs.Common.{◌≡◌, ◌≢◌, ℕ, zero, suc, ◌<◌, ◌+◌, ◌++◌, ◌∷◌, [], true, false, nat_eq, List, length, inl, inr, refl, ap, ◌∙◌, sym, arith}
use Rattle.std.specs.Prelude.{All, ◌⊎◌, is_some, nat_le, slice_index_or, Ok, Err, Option, None, Some, codes}
use Rattle.std.specs.Str.{bytes_eq}
use Rattle.std.proofs.Math.Seq.{get_or-append_seam}
use Rattle.std.proofs.lemmas.List.{get_or_append_left}
use Rattle.std.proofs.lemmas.List.Elements.{All-cons, All-nil, All-weaker}
use Rattle.std.proofs.lemmas.Bool.Decides.{not_from_Decides}
use Rattle.std.proofs.lemmas.Slice.Eq.{bytes_eq-Decides}
use Rattle.cpt_pddl.specs.declared.fault.Fault.TheVariants as faults
use Rattle.cpt_pddl.specs.declared.typed.Typed.{Typed}
use Rattle.cpt_pddl.specs.declared.typed.Sort.TheVariants.{Objects, Variables}
use Rattle.cpt_pddl.specs.Items.{Items, end, word, group}
use Rattle.cpt_pddl.specs.Names.{place_from, place_in}
use Rattle.cpt_pddl.specs.Typed as typed
use Rattle.cpt_pddl.specs.Words.{head_of, is_name, is_word}
use Rattle.cpt_pddl.proofs.WordLemmas.{name_word}
use Rattle.cpt_declared.specs.declared.kinds.Kinds.{Kinds}
use Rattle.cpt_declared.specs.declared.signatures.Last.{Last}
use Rattle.cpt_declared.specs.declared.signatures.Last.TheVariants.{Start, Behind, Dash}
use Rattle.cpt_declared.specs.declared.signatures.Signatures.{Signatures}
use Rattle.cpt_declared.specs.declared.signatures.Sort as signature_sort
use Rattle.cpt_declared.specs.declared.signatures.Sort.TheVariants.{Predicates, Functions}
use Rattle.cpt_declared.specs.Kinds as kinds
use Rattle.cpt_declared.specs.Signatures.{after_word, function_at, functions_end, functions_in, functions_rest, is_refused, named_signature, new_name, predicates_in, signature, with_signature}
use Rattle.cpt_domain.specs.SoundNames.{AreDifferent, AreWords}
use Rattle.cpt_domain.proofs.Tools.{Holds, all_end, chosen, holds_any, holds_bind, holds_if, length_end}

true_same : (xs ys : List ℕ) → bytes_eq xs ys ≡ false → xs ≢ ys
true_same xs ys h = not_from_Decides (bytes_eq xs ys) (bytes_eq-Decides xs ys) h

other_from : (names : List (List ℕ)) (k : ℕ) (w : List ℕ) → place_from names k w ≡ None → (i : ℕ) → i < length names → slice_index_or names i [] ≢ w
other_from [] k w h i lt = absurd (omega arith)
other_from (name ∷ names) k w h i lt =
    elim (chosen (bytes_eq name w) (Some k) (place_from names (k + 1) w) None h) [
      | inl x ↦ let e : Some k ≡ None = x.1 in cc
      | inr x ↦ other_cases (λ m within. other_from names (k + 1) w x.1 m within) i lt x.0
    ] where
      other_cases : ((m : ℕ) → m < length names → slice_index_or names m [] ≢ w) → (i : ℕ) → i < length (name ∷ names) → bytes_eq name w ≡ false → slice_index_or (name ∷ names) i [] ≢ w
      other_cases more zero lt e = true_same name w e
      other_cases more (suc i) lt e = more i (omega (arith, lt))

pub not_there : (names : List (List ℕ)) (w : List ℕ) → is_some (place_in names w) ≡ false → place_in names w ≡ None
not_there names w h = elim (place_in names w) as (λ o. is_some o ≡ false → o ≡ None) [ None ↦ λ e. refl | Some n ↦ λ e. cc ] h

-- one more name, which was not there
different_end : (names : List (List ℕ)) (w : List ℕ) → AreDifferent names → place_in names w ≡ None → AreDifferent (names ++ w ∷ [])
unfolding place_in
different_end names w h new i j lt within same =
    let n = length_end names w in
    let below : i < length names = omega (arith, n, lt, within) in
    let left : slice_index_or (names ++ w ∷ []) i [] ≡ slice_index_or names i [] = get_or_append_left names (w ∷ []) [] i below in
    elim (cases j (omega (arith, n, within))) [
      | inl inside ↦ h i j lt inside (sym left ∙ same ∙ get_or_append_left names (w ∷ []) [] j inside)
      | inr last ↦ other_from names 0 w new i below (sym left ∙ same ∙ ap (λ k. slice_index_or (names ++ w ∷ []) k []) last ∙ get_or-append_seam names w [] [])
    ] where
      cases : (j : ℕ) → j < length names + 1 → (j < length names) ⊎ (j ≡ length names)
      cases j h = grind arith

-- different names, each a word
pub record AreNames (names : List (List ℕ)) : Type 0 where
  pub different : AreDifferent names
  pub words : AreWords names

-- one more word, which was not there
pub names_end : (names : List (List ℕ)) (w : List ℕ) → AreNames names → is_word w ≡ true → place_in names w ≡ None → AreNames (names ++ w ∷ [])
names_end names w h is new = record { different = different_end names w h.different new; words = all_end (λ name. is_word name ≡ true) names w h.words is }

no_different : AreDifferent []
no_different i j lt within = absurd (omega arith)

pub no_names_yet : AreNames []
no_names_yet = record { different = no_different; words = All-nil (λ name. is_word name ≡ true) }

one_different : (w : List ℕ) → AreDifferent (w ∷ [])
one_different w i j lt within = absurd (omega arith)

-- one name
pub one_name : (w : List ℕ) → is_word w ≡ true → AreNames (w ∷ [])
one_name w h = record { different = one_different w; words = All-cons (λ name. is_word name ≡ true) w [] h (All-nil (λ name. is_word name ≡ true)) }

-- types

entered_named : (run : kinds.KindRun) (at : ℕ) (w : List ℕ) → AreNames run.names → is_word w ≡ true → (o : Option ℕ) → place_in run.names w ≡ o
    → Holds (λ (r : kinds.KindRun). AreNames r.names) (kinds.entered_as run at w o)
entered_named run at w h is None e = names_end run.names w h is e
entered_named run at w h is (Some kind) e =
    holds_if (λ (r : kinds.KindRun). AreNames r.names) (kinds.is_entered run.entered kind) (Err (faults.Twice at)) (Ok (record run { entered = run.entered ++ kind ∷ [] })) (λ _. tt) (λ _. h)

parent_named : (run : kinds.KindRun) (w : List ℕ) → AreNames run.names → is_word w ≡ true → (o : Option ℕ) → place_in run.names w ≡ o → AreNames (kinds.parent_as run w o).names
parent_named run w h is None e = names_end run.names w h is e
parent_named run w h is (Some parent) e = h

kind_taken_named : (run : kinds.KindRun) (at : ℕ) (w : List ℕ) → AreNames run.names → Holds (λ (r : kinds.KindRun). AreNames r.names) (kinds.taken run at w)
unfolding kinds.taken kinds.dashed
kind_taken_named run at w h =
    let P : kinds.KindRun → Type 0 = λ r. AreNames r.names in
    holds_if P run.dash _ _
    (λ _. holds_if P (is_name w) (Ok (kinds.parent_as run w (place_in run.names w))) (Err (faults.Shape at)) (λ is. parent_named run w h (name_word w is) (place_in run.names w) refl) (λ _. tt))
    (λ _. holds_if P (bytes_eq w (codes "-")) _ _
    (λ _. holds_if P (nat_eq (length run.entered) run.parented) (Err (faults.Shape at)) (Ok (record run { dash = true })) (λ _. tt) (λ _. h))
    (λ _. holds_if P (is_name w) (kinds.entered_as run at w (place_in run.names w)) (Err (faults.Shape at)) (λ is. entered_named run at w h (name_word w is) (place_in run.names w) refl) (λ _. tt)))

kind_finished_named : (section : ℕ) (run : kinds.KindRun) (close : ℕ) → AreNames run.names → Holds (λ (k : Kinds). AreNames k.names) (kinds.finished section run close)
unfolding kinds.finished
kind_finished_named section run close h =
    let P : Kinds → Type 0 = λ k. AreNames k.names in
    holds_if P run.dash (Err (faults.Shape close)) _ (λ _. tt)
    (λ _. holds_if P (kinds.is_rooted run.parents) (Ok (record { names = run.names; parents = run.parents })) (Err (faults.BadType section)) (λ _. h) (λ _. tt))

kinds_rest_named : (section : ℕ) (run : kinds.KindRun) (items : Items) → AreNames run.names → Holds (λ (k : Kinds). AreNames k.names) (kinds.kinds_rest section run items)
kinds_rest_named section run (end close) h = kind_finished_named section run close h
kinds_rest_named section run (word at w rest) h =
    holds_bind (λ (r : kinds.KindRun). AreNames r.names) (λ (k : Kinds). AreNames k.names) (kinds.taken run at w) (λ next. kinds.kinds_rest section next rest)
    (kind_taken_named run at w h) (λ next k. kinds_rest_named section next rest k)
kinds_rest_named section run (group at inside rest) h = tt

-- the types of a section have different words as names
pub kinds_named : (section : ℕ) (items : Items) → Holds (λ (k : Kinds). AreNames k.names) (kinds.kinds_in section items)
unfolding kinds.kinds_in
kinds_named section items = kinds_rest_named section kinds.start items (one_name (codes "object") refl)

-- typed lists

declared_named : (names : List (List ℕ)) (at : ℕ) (w : List ℕ) → AreNames names → Holds AreNames (typed.declared Objects names at w)
unfolding typed.declared
declared_named names at w h =
    holds_if AreNames (typed.fits_sort Objects w) _ (Err (faults.Shape at))
    (λ is. holds_if AreNames (is_some (place_in names w)) (Err (faults.Twice at)) _ (λ _. tt)
    (λ new. holds_if AreNames (nat_le (typed.most Objects) (length names)) (Err (faults.Limit (typed.limit_of Objects) at)) (Ok (names ++ w ∷ [])) (λ _. tt)
    (λ _. names_end names w h (name_word w is) (not_there names w new))))
    (λ _. tt)

typed_taken_named : (types : List (List ℕ)) (run : typed.Run) (at : ℕ) (w : List ℕ) → AreNames run.names → Holds (λ (r : typed.Run). AreNames r.names) (typed.taken Objects types run at w)
unfolding typed.taken typed.dashed typed.typed_as typed.named
typed_taken_named types run at w h =
    let P : typed.Run → Type 0 = λ r. AreNames r.names in
    holds_if P run.dash _ _
    (λ _. holds_bind (λ _. Unit {0}) P (typed.type_word types at w) _ (holds_any (typed.type_word types at w)) (λ kind _. h))
    (λ _. holds_if P (bytes_eq w (codes "-")) _ _
    (λ _. holds_if P (nat_eq (length run.names) (length run.kinds)) (Err (faults.Shape at)) (Ok (record run { dash = true })) (λ _. tt) (λ _. h))
    (λ _. holds_bind AreNames P (typed.declared Objects run.names at w) _ (declared_named run.names at w h) (λ names k. k)))

typed_finished_named : (run : typed.Run) (close : ℕ) → AreNames run.names → Holds (λ (t : Typed). AreNames t.names) (typed.finished run close)
unfolding typed.finished
typed_finished_named run close h =
    holds_if (λ (t : Typed). AreNames t.names) run.dash (Err (faults.Shape close)) (Ok (record { names = run.names; kinds = typed.padded (length run.names) 0 run.kinds })) (λ _. tt) (λ _. h)

typed_rest_named : (types : List (List ℕ)) (run : typed.Run) (items : Items) → AreNames run.names → Holds (λ (t : Typed). AreNames t.names) (typed.typed_rest Objects types run items)
typed_rest_named types run (end close) h = typed_finished_named run close h
typed_rest_named types run (word at w rest) h =
    holds_bind (λ (r : typed.Run). AreNames r.names) (λ (t : Typed). AreNames t.names) (typed.taken Objects types run at w) (λ next. typed.typed_rest Objects types next rest)
    (typed_taken_named types run at w h) (λ next k. typed_rest_named types next rest k)
typed_rest_named types run (group at inside rest) h = tt

-- the names of a typed list of objects are different words
pub typed_named : (types : List (List ℕ)) (items : Items) → Holds (λ (t : Typed). AreNames t.names) (typed.typed_list Objects types typed.no_names items)
unfolding typed.typed_list
typed_named types items = typed_rest_named types (record { names = []; kinds = []; dash = false }) items no_names_yet

-- predicates and functions

-- names of predicates or of functions: different words, none of them refused
pub record AreSignatureNames (sort : signature_sort.Sort) (names : List (List ℕ)) : Type 0 where
  pub named : AreNames names
  pub allowed : All (λ name. is_refused sort name ≡ false) names

pub no_signature_names : (sort : signature_sort.Sort) → AreSignatureNames sort []
no_signature_names sort = record { named = no_names_yet; allowed = All-nil (λ name. is_refused sort name ≡ false) }

record IsNewName (sort : signature_sort.Sort) (names : List (List ℕ)) (w : List ℕ) : Type 0 where
  is : is_word w ≡ true
  allowed : is_refused sort w ≡ false
  new : place_in names w ≡ None

signature_names_end : (sort : signature_sort.Sort) (names : List (List ℕ)) (w : List ℕ) → AreSignatureNames sort names → IsNewName sort names w → AreSignatureNames sort (names ++ w ∷ [])
signature_names_end sort names w h n = record { named = names_end names w h.named n.is n.new; allowed = all_end (λ name. is_refused sort name ≡ false) names w h.allowed n.allowed }

new_name_new : (sort : signature_sort.Sort) (names : List (List ℕ)) (at : ℕ) (w : List ℕ) → Holds (λ _. IsNewName sort names w) (new_name sort names at w)
unfolding new_name
new_name_new sort names at w =
    let P : Unit {0} → Type 0 = λ _. IsNewName sort names w in
    holds_if P (is_refused sort w) (Err (faults.BadName at)) _ (λ _. tt)
    (λ allowed. holds_if P (is_name w) _ (Err (faults.Shape at))
    (λ is. holds_if P (is_some (place_in names w)) (Err (faults.Twice at)) (Ok tt) (λ _. tt) (λ new. record { is = name_word w is; allowed = allowed; new = not_there names w new })) (λ _. tt))

signature_named : (sort : signature_sort.Sort) (types : List (List ℕ)) (sigs : Signatures) (items : Items) → AreSignatureNames sort sigs.names → Holds (λ (s : Signatures). AreSignatureNames sort s.names) (signature sort types sigs items)
unfolding named_signature
signature_named sort types sigs (end close) h = tt
signature_named sort types sigs (word at w rest) h =
    let P : Signatures → Type 0 = λ s. AreSignatureNames sort s.names in
    holds_bind (λ _. IsNewName sort sigs.names w) P (new_name sort sigs.names at w) _ (new_name_new sort sigs.names at w)
    (λ _ new. holds_bind (λ _. Unit {0}) P (typed.typed_list Variables types typed.no_names rest) (λ t. Ok (with_signature sigs w t.kinds)) (holds_any (typed.typed_list Variables types typed.no_names rest))
    (λ t _. signature_names_end sort sigs.names w h new))
signature_named sort types sigs (group at inside rest) h = tt

-- the predicates of a section have different words as names
pub predicates_named : (types : List (List ℕ)) (sigs : Signatures) (items : Items) → AreSignatureNames Predicates sigs.names → Holds (λ (s : Signatures). AreSignatureNames Predicates s.names) (predicates_in types sigs items)
predicates_named types sigs (end close) h = h
predicates_named types sigs (word at w rest) h = tt
predicates_named types sigs (group at inside rest) h =
    holds_bind (λ (s : Signatures). AreSignatureNames Predicates s.names) (λ (s : Signatures). AreSignatureNames Predicates s.names) (signature Predicates types sigs inside) (λ more. predicates_in types more rest)
    (signature_named Predicates types sigs inside h) (λ more k. predicates_named types more rest k)

end_named : (last : Last) (sigs : Signatures) (close : ℕ) → AreSignatureNames Functions sigs.names → Holds (λ (s : Signatures). AreSignatureNames Functions s.names) (functions_end last sigs close)
end_named Start sigs close h = h
end_named Behind sigs close h = h
end_named Dash sigs close h = tt

function_named : (last : Last) (types : List (List ℕ)) (sigs : Signatures) (at : ℕ) (items : Items) → AreSignatureNames Functions sigs.names → Holds (λ (s : Signatures). AreSignatureNames Functions s.names) (function_at last types sigs at items)
function_named Start types sigs at items h = signature_named Functions types sigs items h
function_named Behind types sigs at items h = signature_named Functions types sigs items h
function_named Dash types sigs at items h = tt

functions_rest_named : (last : Last) (types : List (List ℕ)) (sigs : Signatures) (items : Items) → AreSignatureNames Functions sigs.names → Holds (λ (s : Signatures). AreSignatureNames Functions s.names) (functions_rest last types sigs items)
functions_rest_named last types sigs (end close) h = end_named last sigs close h
functions_rest_named last types sigs (word at w rest) h =
    holds_bind (λ _. Unit {0}) (λ (s : Signatures). AreSignatureNames Functions s.names) (after_word last at w) (λ next. functions_rest next types sigs rest)
    (holds_any (after_word last at w)) (λ next _. functions_rest_named next types sigs rest h)
functions_rest_named last types sigs (group at inside rest) h =
    holds_bind (λ (s : Signatures). AreSignatureNames Functions s.names) (λ (s : Signatures). AreSignatureNames Functions s.names) (function_at last types sigs at inside) (λ more. functions_rest Behind types more rest)
    (function_named last types sigs at inside h) (λ more k. functions_rest_named Behind types more rest k)

-- the functions of a section have different words as names
pub functions_named : (types : List (List ℕ)) (sigs : Signatures) (items : Items) → AreSignatureNames Functions sigs.names → Holds (λ (s : Signatures). AreSignatureNames Functions s.names) (functions_in types sigs items)
unfolding functions_in
functions_named types sigs items h = functions_rest_named Start types sigs items h

not_refused : is_refused Predicates (codes "not") ≡ true
unfolding head_of
not_refused = refl

-- what is refused for predicates names none
pub never_not : (names : List (List ℕ)) → AreSignatureNames Predicates names → All (λ name. name ≢ codes "not") names
never_not names h =
    All-weaker (λ name. is_refused Predicates name ≡ false) (λ name. name ≢ codes "not")
    (λ name allowed same. let refused : is_refused Predicates name ≡ true = ap (is_refused Predicates) same ∙ not_refused in cc) names h.allowed
