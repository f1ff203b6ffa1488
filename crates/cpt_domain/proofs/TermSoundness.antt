use Rattle.std.proofs.Common.{◌≡◌, ℕ, zero, suc, ◌<◌, ◌≤◌, ◌++◌, ◌∷◌, [], Bool, false, List, length, All, refl, arith}
use Rattle.std.specs.Prelude.{nat_lt, slice_get, slice_index_or, Result, Ok, Err, Option, None, Some}
use Rattle.std.proofs.lemmas.Bool.Decides.{nat_tests}
use Rattle.std.proofs.lemmas.List.Elements.{All-nil}
use Rattle.cpt_task.specs.declared.memory.Limit.TheVariants as limits
use Rattle.cpt_pddl.specs.declared.fault.Fault.{Fault}
use Rattle.cpt_pddl.specs.declared.fault.Fault.TheVariants as faults
use Rattle.cpt_pddl.specs.declared.typed.Typed.{Typed}
use Rattle.cpt_pddl.specs.Faults.{or_fault}
use Rattle.cpt_pddl.specs.Items.{Items, end, word, group}
use Rattle.cpt_pddl.specs.Kinds.{is_below}
use Rattle.cpt_pddl.specs.Names.{place_in}
use Rattle.cpt_pddl.specs.Words.{is_name, is_variable}
use Rattle.cpt_declared.specs.declared.declared.Declared.{Declared}
use Rattle.cpt_declared.specs.declared.signatures.Signatures.{Signatures}
use Rattle.cpt_schema.specs.declared.terms.Lit.{Lit}
use Rattle.cpt_schema.specs.declared.terms.Term.{Term}
use Rattle.cpt_schema.specs.Terms.{applied, atom_in, next_term, object_at, param_at, term_at, terms_in, terms_rest, typed_term}
use Rattle.cpt_domain.specs.SoundSchemas.{IsLit, IsTerm}
use Rattle.cpt_domain.proofs.Tools.{Holds, all_end, holds_bind, holds_found, holds_if, length_end, place_below}

get_within : {A : Type 0} → (xs : List A) (i : ℕ) (x : A) → slice_get xs i ≡ Some x → i < length xs
get_within [] i x h = cc
get_within (y ∷ ys) zero x h = omega arith
get_within (y ∷ ys) (suc i) x h = let lt = get_within ys i x h in omega (arith, lt)

lt_false : (a b : ℕ) → nat_lt a b ≡ false → b ≤ a
lt_false a b h = grind (arith, nat_tests)

-- the terms of a schema with these parameters
abbrev pub TermOf : Declared → Typed → Term → Type 0
TermOf d params term = IsTerm (length params.names) (length d.constants.names) term

param_sound : (d : Declared) (params : Typed) (at : ℕ) (o : Option ℕ) → ((n : ℕ) → o ≡ Some n → n < length params.names) → Holds (λ x. TermOf d params x.0) (param_at params at o)
param_sound d params at None h = tt
param_sound d params at (Some n) h = h n refl

object_sound : (d : Declared) (params : Typed) (at : ℕ) (o : Option ℕ) → ((n : ℕ) → o ≡ Some n → n < length d.constants.names) → Holds (λ x. TermOf d params x.0) (object_at d.constants at o)
object_sound d params at None h = tt
object_sound d params at (Some n) h = h n refl

pub term_sound : (d : Declared) (params : Typed) (at : ℕ) (w : List ℕ) → Holds (λ x. TermOf d params x.0) (term_at d params at w)
unfolding term_at
term_sound d params at w =
    holds_if (λ x. TermOf d params x.0) (is_variable w) (param_at params at (place_in params.names w)) _
    (λ _. param_sound d params at (place_in params.names w) (place_below params.names w))
    (λ _. holds_if (λ x. TermOf d params x.0) (is_name w) (object_at d.constants at (place_in d.constants.names w)) (Err (faults.Shape at))
    (λ _. object_sound d params at (place_in d.constants.names w) (place_below d.constants.names w)) (λ _. tt))

typed_term_sound : (d : Declared) (params : Typed) (wanted at : ℕ) (w : List ℕ) → Holds (TermOf d params) (typed_term d params wanted at w)
unfolding typed_term
typed_term_sound d params wanted at w =
    holds_bind (λ x. TermOf d params x.0) (TermOf d params) (term_at d params at w) _ (term_sound d params at w)
    (λ x k. holds_if (TermOf d params) (is_below d.types.parents x.1 wanted) (Ok x.0) (Err (faults.BadType at)) (λ _. k) (λ _. tt))

next_sound : (d : Declared) (params : Typed) (atom : ℕ) (wanted : List ℕ) (i : ℕ) (o : Option ℕ) (at : ℕ) (w : List ℕ) → slice_get wanted i ≡ o
    → Holds (λ t. TermOf d params t × (i < length wanted)) (next_term d params atom o at w)
next_sound d params atom wanted i None at w e = tt
next_sound d params atom wanted i (Some kind) at w e = weaken (typed_term d params kind at w) (typed_term_sound d params kind at w) where
  weaken : (r : Result Term Fault) → Holds (TermOf d params) r → Holds (λ t. TermOf d params t × (i < length wanted)) r
  weaken (Ok t) h = (h, get_within wanted i kind e)
  weaken (Err f) h = tt

rest_sound : (d : Declared) (params : Typed) (atom : ℕ) (wanted : List ℕ) (terms : List Term) (items : Items) → All (TermOf d params) terms → length terms ≤ length wanted
    → Holds (λ ts. All (TermOf d params) ts × (length ts ≡ length wanted)) (terms_rest d params atom wanted terms items)
rest_sound d params atom wanted terms (end close) h le =
    holds_if (λ ts. All (TermOf d params) ts × (length ts ≡ length wanted)) (nat_lt (length terms) (length wanted)) (Err (faults.Arity atom)) (Ok terms) (λ _. tt)
    (λ enough. let ge = lt_false (length terms) (length wanted) enough in (h, omega (arith, ge, le)))
rest_sound d params atom wanted terms (word at w rest) h le =
    holds_bind (λ t. TermOf d params t × (length terms < length wanted)) (λ ts. All (TermOf d params) ts × (length ts ≡ length wanted))
    (next_term d params atom (slice_get wanted (length terms)) at w) (λ t. terms_rest d params atom wanted (terms ++ t ∷ []) rest)
    (next_sound d params atom wanted (length terms) (slice_get wanted (length terms)) at w refl)
    (λ t k. rest_sound d params atom wanted (terms ++ t ∷ []) rest (all_end (TermOf d params) terms t h k.0) (let e = length_end terms t in let lt = k.1 in omega (arith, e, lt)))
rest_sound d params atom wanted terms (group at inside rest) h le = tt

-- a predicate or function with its terms is sound
pub applied_sound : (d : Declared) (params : Typed) (sigs : Signatures) (atom at : ℕ) (w : List ℕ) (rest : Items) → length sigs.kinds ≡ length sigs.names
    → Holds (IsLit (length params.names) (length d.constants.names) sigs.kinds) (applied d params sigs atom at w rest)
unfolding applied terms_in
applied_sound d params sigs atom at w rest e =
    let P : Lit → Type 0 = IsLit (length params.names) (length d.constants.names) sigs.kinds in
    holds_bind (λ n. n < length sigs.names) P (or_fault (faults.BadName at) (place_in sigs.names w)) _
    (holds_found (λ n. n < length sigs.names) (faults.BadName at) (place_in sigs.names w) (place_below sigs.names w))
    (λ n lt. holds_bind (λ ts. All (TermOf d params) ts × (length ts ≡ length (slice_index_or sigs.kinds n []))) P
    (terms_rest d params atom (slice_index_or sigs.kinds n []) [] rest) _
    (rest_sound d params atom (slice_index_or sigs.kinds n []) [] rest (All-nil (TermOf d params)) (omega arith))
    (λ ts k. record { known = omega (arith, lt, e); arity = k.1; fit = k.0 }))

-- an atom is sound, and its list had room
pub atom_sound : (d : Declared) (params : Typed) (full : Bool) (atom at : ℕ) (w : List ℕ) (rest : Items) → length d.predicates.kinds ≡ length d.predicates.names
    → Holds (λ lit. IsLit (length params.names) (length d.constants.names) d.predicates.kinds lit × (full ≡ false)) (atom_in d params full atom at w rest)
unfolding atom_in
atom_sound d params full atom at w rest e =
    let P : Lit → Type 0 = λ lit. IsLit (length params.names) (length d.constants.names) d.predicates.kinds lit × (full ≡ false) in
    let both : (r : Result Lit Fault) → Holds (IsLit (length params.names) (length d.constants.names) d.predicates.kinds) r → full ≡ false → Holds P r =
    λ r. elim r as (λ r. Holds (IsLit (length params.names) (length d.constants.names) d.predicates.kinds) r → full ≡ false → Holds P r) [ Ok lit ↦ λ h f. (h, f) | Err fault ↦ λ h f. tt ] in
    holds_if P (is_name w) _ (Err (faults.Shape at))
    (λ _. holds_if P full (Err (faults.Limit limits.LongList atom)) (applied d params d.predicates atom at w rest) (λ _. tt)
    (λ room. both (applied d params d.predicates atom at w rest) (applied_sound d params d.predicates atom at w rest e) room))
    (λ _. tt)
