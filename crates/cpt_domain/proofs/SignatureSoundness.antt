use Rattle.std.proofs.Common.{ℕ, ◌<◌, ◌+◌, List, length, refl, ap, ◌∙◌, sym, arith}
use Rattle.std.specs.Prelude.{Ok}
use Rattle.std.proofs.lemmas.List.Elements.{All-nil}
use Rattle.cpt_pddl.specs.declared.typed.Sort.TheVariants.{Variables}
use Rattle.cpt_pddl.specs.Items.{Items, end, word, group}
use Rattle.cpt_pddl.specs.Typed.{no_names, typed_list}
use Rattle.cpt_declared.specs.declared.signatures.Last.{Last}
use Rattle.cpt_declared.specs.declared.signatures.Last.TheVariants.{Start, Behind, Dash}
use Rattle.cpt_declared.specs.declared.signatures.Signatures.{Signatures}
use Rattle.cpt_declared.specs.declared.signatures.Sort.{Sort}
use Rattle.cpt_declared.specs.declared.signatures.Sort.TheVariants.{Predicates, Functions}
use Rattle.cpt_declared.specs.Signatures.{after_word, function_at, functions_end, functions_in, functions_rest, named_signature, new_name, no_signatures, predicates_in, signature, with_signature}
use Rattle.cpt_domain.specs.SoundKinds.{AreSignatures, AreTyped, AreVariables}
use Rattle.cpt_domain.proofs.Tools.{Holds, all_end, holds_any, holds_bind, length_end}
use Rattle.cpt_domain.proofs.TypedSoundness.{typed_sound}

named_sound : (sort : Sort) (types : List (List ℕ)) (sigs : Signatures) (at : ℕ) (w : List ℕ) (rest : Items) → 0 < length types
    → AreSignatures (length types) sigs → Holds (AreSignatures (length types)) (named_signature sort types sigs at w rest)
unfolding named_signature
named_sound sort types sigs at w rest some h =
    holds_bind (λ _. Unit {0}) (AreSignatures (length types)) (new_name sort sigs.names at w) _ (holds_any (new_name sort sigs.names at w))
    (λ _ _. holds_bind (AreTyped 16 (length types)) (AreSignatures (length types)) (typed_list Variables types no_names rest) (λ typed. Ok (with_signature sigs w typed.kinds))
    (typed_sound Variables types rest some)
    (λ typed k. record {
      lengths = length_end sigs.kinds typed.kinds ∙ ap (λ n. n + 1) h.lengths ∙ sym (length_end sigs.names w);
      variables = all_end (AreVariables (length types)) sigs.kinds typed.kinds h.variables (record { below = k.below; few = let e = k.lengths in let f = k.few in omega (arith, e, f) });
    }))

signature_sound : (sort : Sort) (types : List (List ℕ)) (sigs : Signatures) (items : Items) → 0 < length types
    → AreSignatures (length types) sigs → Holds (AreSignatures (length types)) (signature sort types sigs items)
signature_sound sort types sigs (end close) some h = tt
signature_sound sort types sigs (word at w rest) some h = named_sound sort types sigs at w rest some h
signature_sound sort types sigs (group at inside rest) some h = tt

pub no_signatures_sound : (count : ℕ) → AreSignatures count no_signatures
no_signatures_sound count = record { lengths = refl; variables = All-nil (AreVariables count) }

-- the predicates of a section are sound
pub predicates_sound : (types : List (List ℕ)) (sigs : Signatures) (items : Items) → 0 < length types
    → AreSignatures (length types) sigs → Holds (AreSignatures (length types)) (predicates_in types sigs items)
predicates_sound types sigs (end close) some h = h
predicates_sound types sigs (word at w rest) some h = tt
predicates_sound types sigs (group at inside rest) some h =
    holds_bind (AreSignatures (length types)) (AreSignatures (length types)) (signature Predicates types sigs inside) (λ more. predicates_in types more rest)
    (signature_sound Predicates types sigs inside some h) (λ more k. predicates_sound types more rest some k)

end_sound : (count : ℕ) (last : Last) (sigs : Signatures) (close : ℕ) → AreSignatures count sigs → Holds (AreSignatures count) (functions_end last sigs close)
end_sound count Start sigs close h = h
end_sound count Behind sigs close h = h
end_sound count Dash sigs close h = tt

function_sound : (last : Last) (types : List (List ℕ)) (sigs : Signatures) (at : ℕ) (items : Items) → 0 < length types
    → AreSignatures (length types) sigs → Holds (AreSignatures (length types)) (function_at last types sigs at items)
function_sound Start types sigs at items some h = signature_sound Functions types sigs items some h
function_sound Behind types sigs at items some h = signature_sound Functions types sigs items some h
function_sound Dash types sigs at items some h = tt

rest_sound : (last : Last) (types : List (List ℕ)) (sigs : Signatures) (items : Items) → 0 < length types
    → AreSignatures (length types) sigs → Holds (AreSignatures (length types)) (functions_rest last types sigs items)
rest_sound last types sigs (end close) some h = end_sound (length types) last sigs close h
rest_sound last types sigs (word at w rest) some h =
    holds_bind (λ _. Unit {0}) (AreSignatures (length types)) (after_word last at w) (λ next. functions_rest next types sigs rest)
    (holds_any (after_word last at w)) (λ next _. rest_sound next types sigs rest some h)
rest_sound last types sigs (group at inside rest) some h =
    holds_bind (AreSignatures (length types)) (AreSignatures (length types)) (function_at last types sigs at inside) (λ more. functions_rest Behind types more rest)
    (function_sound last types sigs at inside some h) (λ more k. rest_sound Behind types more rest some k)

-- the functions of a section are sound
pub functions_sound : (types : List (List ℕ)) (sigs : Signatures) (items : Items) → 0 < length types
    → AreSignatures (length types) sigs → Holds (AreSignatures (length types)) (functions_in types sigs items)
unfolding functions_in
functions_sound types sigs items some h = rest_sound Start types sigs items some h
