use Rattle.std.proofs.Common.{◌≡◌, ℕ, ◌+◌, ◌-◌, ◌<◌, ◌≤◌, ◌++◌, ◌∷◌, [], true, false, List, length, drop, nat_eq, All, refl, ◌∙◌, arith}
use Rattle.std.specs.Prelude.{is_some, nat_le, replicate, Ok, Err, Option, None, Some, codes}
use Rattle.std.specs.Str.{bytes_eq}
use Rattle.std.proofs.lemmas.List.{get_or_append_left, length-append, length-replicate}
use Rattle.std.proofs.lemmas.List.Elements.{All-cons, All-nil, All-push}
use Rattle.cpt_pddl.specs.declared.fault.Fault.TheVariants as faults
use Rattle.cpt_pddl.specs.declared.typed.Sort.{Sort}
use Rattle.cpt_pddl.specs.declared.typed.Sort.TheVariants.{Variables}
use Rattle.cpt_pddl.specs.declared.typed.Typed.{Typed}
use Rattle.cpt_pddl.specs.Items.{Items, end, word, group}
use Rattle.cpt_pddl.specs.Names.{place_in}
use Rattle.cpt_pddl.specs.Typed as typed
use Rattle.cpt_pddl.specs.Words.{is_name}
use Rattle.cpt_declared.specs.declared.kinds.Kinds.{Kinds}
use Rattle.cpt_declared.specs.declared.signatures.Last.{Last}
use Rattle.cpt_declared.specs.declared.signatures.Last.TheVariants.{Start, Behind, Dash}
use Rattle.cpt_declared.specs.declared.signatures.Signatures.{Signatures}
use Rattle.cpt_declared.specs.declared.signatures.Sort as signature_sort
use Rattle.cpt_declared.specs.declared.signatures.Sort.TheVariants.{Predicates, Functions}
use Rattle.cpt_declared.specs.Kinds as kinds
use Rattle.cpt_declared.specs.Signatures.{after_word, function_at, functions_end, functions_in, functions_rest, is_refused, named_signature, new_name, predicates_in, signature, with_signature}
use Rattle.cpt_domain_spelling.specs.Names.{named}
use Rattle.cpt_domain_spelling.specs.Spellable.{AreNames}
use Rattle.cpt_domain_spelling.proofs.HoldsLemmas.{Holds, holds_after, holds_bind, holds_if}
use Rattle.cpt_domain_spelling.proofs.KindLemmas.{below_length}

-- names with a type each
pub record TypedRead (sort : Sort) (t : Typed) : Type 0 where
  pub names : All (λ w. typed.fits_sort sort w ≡ true) t.names
  pub lengths : length t.kinds ≡ length t.names

record RunRead (sort : Sort) (run : typed.Run) : Type 0 where
  names : All (λ w. typed.fits_sort sort w ≡ true) run.names
  fewer : length run.kinds ≤ length run.names

length_padded : (len kind : ℕ) (ks : List ℕ) → length ks ≤ len → length (typed.padded len kind ks) ≡ len
length_padded len kind ks h =
    let a = length-append ks (replicate (len - length ks) kind) in
    let b = length-replicate (len - length ks) kind in
    omega (arith, a, b, h)

word_read : (sort : Sort) (types : List (List ℕ)) (run : typed.Run) (at : ℕ) (w : List ℕ) → RunRead sort run → Holds (RunRead sort) (typed.taken sort types run at w)
unfolding typed.taken typed.dashed typed.typed_as typed.named typed.declared
word_read sort types run at w h =
    let P : typed.Run → Type 0 = RunRead sort in
    holds_if P run.dash _ _
    (λ _. holds_after P (typed.type_word types at w) _ (λ kind. record { names = h.names; fewer = let n = length_padded (length run.names) kind run.kinds h.fewer in omega (arith, n) }))
    (λ _. holds_if P (bytes_eq w (codes "-")) _ _
    (λ _. holds_if P (nat_eq (length run.names) (length run.kinds)) (Err (faults.Shape at)) (Ok (record run { dash = true })) (λ _. tt) (λ _. record { names = h.names; fewer = h.fewer }))
    (λ _. holds_bind (λ names. All (λ v. typed.fits_sort sort v ≡ true) names × (length names ≡ length run.names + 1)) P (typed.declared sort run.names at w) _
    (holds_if (λ names. All (λ v. typed.fits_sort sort v ≡ true) names × (length names ≡ length run.names + 1)) (typed.fits_sort sort w) _ (Err (faults.Shape at))
    (λ fits. holds_if (λ names. All (λ v. typed.fits_sort sort v ≡ true) names × (length names ≡ length run.names + 1)) (is_some (place_in run.names w)) (Err (faults.Twice at)) _ (λ _. tt)
    (λ _. holds_if (λ names. All (λ v. typed.fits_sort sort v ≡ true) names × (length names ≡ length run.names + 1)) (nat_le (typed.most sort) (length run.names)) (Err (faults.Limit (typed.limit_of sort) at)) (Ok (run.names ++ w ∷ [])) (λ _. tt)
    (λ _. (All-push (λ v. typed.fits_sort sort v ≡ true) run.names w h.names fits, length-append run.names (w ∷ []))))) (λ _. tt))
    (λ names k. record { names = k.0; fewer = let n = k.1 in let few = h.fewer in omega (arith, n, few) })))

rest_read : (sort : Sort) (types : List (List ℕ)) (run : typed.Run) (items : Items) → RunRead sort run → Holds (TypedRead sort) (typed.typed_rest sort types run items)
unfolding typed.finished
rest_read sort types run (end close) h =
    holds_if (TypedRead sort) run.dash (Err (faults.Shape close)) (Ok (record { names = run.names; kinds = typed.padded (length run.names) 0 run.kinds })) (λ _. tt)
    (λ _. record { names = h.names; lengths = length_padded (length run.names) 0 run.kinds h.fewer })
rest_read sort types run (word at w rest) h =
    holds_bind (RunRead sort) (TypedRead sort) (typed.taken sort types run at w) (λ next. typed.typed_rest sort types next rest) (word_read sort types run at w h) (λ next k. rest_read sort types next rest k)
rest_read sort types run (group at inside rest) h = tt

pub typed_read : (sort : Sort) (types : List (List ℕ)) (items : Items) → Holds (TypedRead sort) (typed.typed_list sort types typed.no_names items)
unfolding typed.typed_list
typed_read sort types items =
    rest_read sort types (record { names = []; kinds = []; dash = false }) items (record { names = All-nil (λ w. typed.fits_sort sort w ≡ true); fewer = omega arith })

-- names of types, object first, with a parent each
pub record KindsRead (words : List (List ℕ)) (parents : List ℕ) : Type 0 where
  pub names : AreNames words
  pub some : 0 < length words
  pub object : named words 0 ≡ codes "object"
  pub lengths : length parents ≡ length words

kind_more : (names : List (List ℕ)) (parents more : List ℕ) (w : List ℕ) → KindsRead names parents → is_name w ≡ true → length more ≡ length parents + 1 → KindsRead (names ++ w ∷ []) more
kind_more names parents more w h own e =
    let n = length-append names (w ∷ []) in
    let some = h.some in
    let lengths = h.lengths in
    record {
      names = All-push (λ v. is_name v ≡ true) names w h.names own;
      some = omega (arith, n);
      object = get_or_append_left names (w ∷ []) [] 0 some ∙ h.object;
      lengths = omega (arith, n, lengths, e);
    }

kind_same : (names : List (List ℕ)) (parents more : List ℕ) → KindsRead names parents → length more ≡ length parents → KindsRead names more
kind_same names parents more h e = record { names = h.names; some = h.some; object = h.object; lengths = e ∙ h.lengths }

abbrev RunKinds : kinds.KindRun → Type 0
RunKinds run = KindsRead run.names run.parents

entered_read : (run : kinds.KindRun) (at : ℕ) (w : List ℕ) (o : Option ℕ) → RunKinds run → is_name w ≡ true → Holds RunKinds (kinds.entered_as run at w o)
entered_read run at w None h own = kind_more run.names run.parents (run.parents ++ 0 ∷ []) w h own (length-append run.parents (0 ∷ []))
entered_read run at w (Some kind) h own =
    holds_if RunKinds (kinds.is_entered run.entered kind) (Err (faults.Twice at)) (Ok (record run { entered = run.entered ++ kind ∷ [] })) (λ _. tt) (λ _. kind_same run.names run.parents run.parents h refl)

parent_read : (run : kinds.KindRun) (w : List ℕ) (o : Option ℕ) → RunKinds run → is_name w ≡ true → RunKinds (kinds.parent_as run w o)
parent_read run w None h own =
    kind_more run.names run.parents (kinds.below_parent (length run.names) (drop run.parented run.entered) (run.parents ++ 0 ∷ [])) w h own
    (below_length (length run.names) (drop run.parented run.entered) (run.parents ++ 0 ∷ []) ∙ length-append run.parents (0 ∷ []))
parent_read run w (Some parent) h own =
    kind_same run.names run.parents (kinds.below_parent parent (drop run.parented run.entered) run.parents) h (below_length parent (drop run.parented run.entered) run.parents)

kind_word : (run : kinds.KindRun) (at : ℕ) (w : List ℕ) → RunKinds run → Holds RunKinds (kinds.taken run at w)
unfolding kinds.taken kinds.dashed
kind_word run at w h =
    holds_if RunKinds run.dash _ _
    (λ _. holds_if RunKinds (is_name w) (Ok (kinds.parent_as run w (place_in run.names w))) (Err (faults.Shape at)) (λ own. parent_read run w (place_in run.names w) h own) (λ _. tt))
    (λ _. holds_if RunKinds (bytes_eq w (codes "-")) _ _
    (λ _. holds_if RunKinds (nat_eq (length run.entered) run.parented) (Err (faults.Shape at)) (Ok (record run { dash = true })) (λ _. tt) (λ _. kind_same run.names run.parents run.parents h refl))
    (λ _. holds_if RunKinds (is_name w) (kinds.entered_as run at w (place_in run.names w)) (Err (faults.Shape at)) (λ own. entered_read run at w (place_in run.names w) h own) (λ _. tt)))

kinds_rest_read : (section : ℕ) (run : kinds.KindRun) (items : Items) → RunKinds run → Holds (λ (k : Kinds). KindsRead k.names k.parents) (kinds.kinds_rest section run items)
unfolding kinds.finished
kinds_rest_read section run (end close) h =
    let P : Kinds → Type 0 = λ k. KindsRead k.names k.parents in
    holds_if P run.dash (Err (faults.Shape close)) _ (λ _. tt)
    (λ _. holds_if P (kinds.is_rooted run.parents) (Ok (record { names = run.names; parents = run.parents })) (Err (faults.BadType section)) (λ _. kind_same run.names run.parents run.parents h refl) (λ _. tt))
kinds_rest_read section run (word at w rest) h =
    holds_bind RunKinds (λ (k : Kinds). KindsRead k.names k.parents) (kinds.taken run at w) (λ next. kinds.kinds_rest section next rest) (kind_word run at w h) (λ next k. kinds_rest_read section next rest k)
kinds_rest_read section run (group at inside rest) h = tt

pub object_read : KindsRead (codes "object" ∷ []) (0 ∷ [])
object_read = record { names = All-cons (λ w. is_name w ≡ true) (codes "object") [] refl (All-nil (λ w. is_name w ≡ true)); some = omega arith; object = refl; lengths = refl }

pub kinds_read : (section : ℕ) (items : Items) → Holds (λ (k : Kinds). KindsRead k.names k.parents) (kinds.kinds_in section items)
unfolding kinds.kinds_in
kinds_read section items = kinds_rest_read section kinds.start items object_read

-- names of predicates or functions, each with its variables
pub record SignaturesRead (sort : signature_sort.Sort) (sigs : Signatures) : Type 0 where
  pub names : AreNames sigs.names
  pub allowed : All (λ w. is_refused sort w ≡ false) sigs.names
  pub lengths : length sigs.kinds ≡ length sigs.names

new_read : (sort : signature_sort.Sort) (names : List (List ℕ)) (at : ℕ) (w : List ℕ) → Holds (λ _. (is_refused sort w ≡ false) × (is_name w ≡ true)) (new_name sort names at w)
unfolding new_name
new_read sort names at w =
    let P : Unit {0} → Type 0 = λ _. (is_refused sort w ≡ false) × (is_name w ≡ true) in
    holds_if P (is_refused sort w) (Err (faults.BadName at)) _ (λ _. tt)
    (λ free. holds_if P (is_name w) _ (Err (faults.Shape at)) (λ own. holds_if P (is_some (place_in names w)) (Err (faults.Twice at)) (Ok tt) (λ _. tt) (λ _. (free, own))) (λ _. tt))

signature_read : (sort : signature_sort.Sort) (types : List (List ℕ)) (sigs : Signatures) (items : Items) → SignaturesRead sort sigs → Holds (SignaturesRead sort) (signature sort types sigs items)
unfolding named_signature
signature_read sort types sigs (end close) h = tt
signature_read sort types sigs (word at w rest) h =
    holds_bind (λ _. (is_refused sort w ≡ false) × (is_name w ≡ true)) (SignaturesRead sort) (new_name sort sigs.names at w) _ (new_read sort sigs.names at w)
    (λ _ k. holds_after (SignaturesRead sort) (typed.typed_list Variables types typed.no_names rest) (λ t. Ok (with_signature sigs w t.kinds))
    (λ t.
    let a = length-append sigs.kinds (t.kinds ∷ []) in
    let b = length-append sigs.names (w ∷ []) in
    let lengths = h.lengths in
    record {
      names = All-push (λ v. is_name v ≡ true) sigs.names w h.names k.1;
      allowed = All-push (λ v. is_refused sort v ≡ false) sigs.names w h.allowed k.0;
      lengths = omega (arith, a, b, lengths);
    }))
signature_read sort types sigs (group at inside rest) h = tt

pub predicates_read : (types : List (List ℕ)) (sigs : Signatures) (items : Items) → SignaturesRead Predicates sigs → Holds (SignaturesRead Predicates) (predicates_in types sigs items)
predicates_read types sigs (end close) h = h
predicates_read types sigs (word at w rest) h = tt
predicates_read types sigs (group at inside rest) h =
    holds_bind (SignaturesRead Predicates) (SignaturesRead Predicates) (signature Predicates types sigs inside) (λ more. predicates_in types more rest)
    (signature_read Predicates types sigs inside h) (λ more k. predicates_read types more rest k)

end_read : (last : Last) (sigs : Signatures) (close : ℕ) → SignaturesRead Functions sigs → Holds (SignaturesRead Functions) (functions_end last sigs close)
end_read Start sigs close h = h
end_read Behind sigs close h = h
end_read Dash sigs close h = tt

function_read : (last : Last) (types : List (List ℕ)) (sigs : Signatures) (at : ℕ) (items : Items) → SignaturesRead Functions sigs → Holds (SignaturesRead Functions) (function_at last types sigs at items)
function_read Start types sigs at items h = signature_read Functions types sigs items h
function_read Behind types sigs at items h = signature_read Functions types sigs items h
function_read Dash types sigs at items h = tt

functions_rest_read : (last : Last) (types : List (List ℕ)) (sigs : Signatures) (items : Items) → SignaturesRead Functions sigs → Holds (SignaturesRead Functions) (functions_rest last types sigs items)
functions_rest_read last types sigs (end close) h = end_read last sigs close h
functions_rest_read last types sigs (word at w rest) h = holds_after (SignaturesRead Functions) (after_word last at w) (λ next. functions_rest next types sigs rest) (λ next. functions_rest_read next types sigs rest h)
functions_rest_read last types sigs (group at inside rest) h =
    holds_bind (SignaturesRead Functions) (SignaturesRead Functions) (function_at last types sigs at inside) (λ more. functions_rest Behind types more rest)
    (function_read last types sigs at inside h) (λ more k. functions_rest_read Behind types more rest k)

pub functions_read : (types : List (List ℕ)) (sigs : Signatures) (items : Items) → SignaturesRead Functions sigs → Holds (SignaturesRead Functions) (functions_in types sigs items)
unfolding functions_in
functions_read types sigs items h = functions_rest_read Start types sigs items h
