use Rattle.std.proofs.Common.{◌≡◌, ℕ, ◌<◌, ◌++◌, ◌∷◌, [], Bool, true, false, List, length, refl, ap, ◌∙◌, sym, subst, arith}
use Rattle.std.specs.Prelude.{nat_lt, slice_get, slice_index_or, Result, Ok, Err, Option, None, Some}
use Rattle.std.specs.List.{AllZip}
use Rattle.std.proofs.lemmas.Bool.{ltb-false}
use Rattle.std.proofs.lemmas.List.{append-nil, append_assoc, length-append}
use Rattle.cpt_task.specs.declared.memory.Limit.TheVariants as limits
use Rattle.cpt_pddl.specs.declared.fault.Fault.{Fault}
use Rattle.cpt_pddl.specs.declared.fault.Fault.TheVariants as faults
use Rattle.cpt_pddl.specs.declared.typed.Typed.{Typed}
use Rattle.cpt_pddl.specs.Faults.{or_fault}
use Rattle.cpt_pddl.specs.Items.{Items, end, word, group}
use Rattle.cpt_pddl.specs.Kinds.{is_below}
use Rattle.cpt_pddl.specs.Names.{place_in}
use Rattle.cpt_pddl.specs.Words.{head_of, is_name, is_variable}
use Rattle.cpt_declared.specs.declared.declared.Declared.{Declared}
use Rattle.cpt_declared.specs.declared.signatures.Signatures.{Signatures}
use Rattle.cpt_declared.specs.Signatures.{is_reserved}
use Rattle.cpt_schema.specs.declared.terms.Lit.{Lit}
use Rattle.cpt_schema.specs.declared.terms.Term.{Term}
use Rattle.cpt_schema.specs.Terms.{applied, atom_in, next_term, object_at, param_at, term_at, terms_in, terms_rest, typed_term}
use Rattle.cpt_domain_spelling.specs.Names.{named}
use Rattle.cpt_domain_spelling.specs.Spellable.{AreOfTypes, AreUnreserved, IsTypedAtom, kind_of}
use Rattle.cpt_domain_spelling.proofs.HoldsLemmas.{Holds, holds_bind, holds_found, holds_if, place_name}
use Rattle.cpt_domain_spelling.proofs.NameLemmas.{get_seam}

-- a term of a type, or of one below it
abbrev Below : Declared → List ℕ → Term → ℕ → Type 0
Below d params term wanted = is_below d.types.parents (kind_of d params term) wanted ≡ true

param_typed : (d : Declared) (params : Typed) (at : ℕ) (o : Option ℕ) → Holds (λ x. x.1 ≡ kind_of d params.kinds x.0) (param_at params at o)
param_typed d params at None = tt
param_typed d params at (Some n) = refl

object_typed : (d : Declared) (params : Typed) (at : ℕ) (o : Option ℕ) → Holds (λ x. x.1 ≡ kind_of d params.kinds x.0) (object_at d.constants at o)
object_typed d params at None = tt
object_typed d params at (Some n) = refl

term_typed : (d : Declared) (params : Typed) (at : ℕ) (w : List ℕ) → Holds (λ x. x.1 ≡ kind_of d params.kinds x.0) (term_at d params at w)
unfolding term_at
term_typed d params at w =
    holds_if (λ x. x.1 ≡ kind_of d params.kinds x.0) (is_variable w) (param_at params at (place_in params.names w)) _ (λ _. param_typed d params at (place_in params.names w))
    (λ _. holds_if (λ x. x.1 ≡ kind_of d params.kinds x.0) (is_name w) (object_at d.constants at (place_in d.constants.names w)) (Err (faults.Shape at))
    (λ _. object_typed d params at (place_in d.constants.names w)) (λ _. tt))

typed_typed : (d : Declared) (params : Typed) (wanted at : ℕ) (w : List ℕ) → Holds (λ t. Below d params.kinds t wanted) (typed_term d params wanted at w)
unfolding typed_term
typed_typed d params wanted at w =
    holds_bind (λ x. x.1 ≡ kind_of d params.kinds x.0) (λ t. Below d params.kinds t wanted) (term_at d params at w) _ (term_typed d params at w)
    (λ x k. holds_if (λ t. Below d params.kinds t wanted) (is_below d.types.parents x.1 wanted) (Ok x.0) (Err (faults.BadType at))
    (λ below. ap (λ kind. is_below d.types.parents kind wanted) (sym k) ∙ below) (λ _. tt))

get_past : {A : Type 0} → (xs : List A) → slice_get xs (length xs) ≡ None
get_past [] = refl
get_past (x ∷ xs) = get_past xs

zip_push : {A B : Type 0} → (R : A → B → Type 0) (xs : List A) (ys : List B) (x : A) (y : B) → AllZip R xs ys → R x y → AllZip R (xs ++ x ∷ []) (ys ++ y ∷ [])
zip_push R [] [] x y h k = (k, tt)
zip_push R [] (b ∷ ys) x y h k = absurd h
zip_push R (a ∷ xs) [] x y h k = absurd h
zip_push R (a ∷ xs) (b ∷ ys) x y h k = (h.0, zip_push R xs ys x y h.1 k)

rest_typed : (d : Declared) (params : Typed) (atom : ℕ) (wanted before kinds : List ℕ) (done : List Term) (items : Items) → wanted ≡ before ++ kinds → length done ≡ length before
    → AreOfTypes d params.kinds before done → Holds (AreOfTypes d params.kinds wanted) (terms_rest d params atom wanted done items)
rest_typed d params atom wanted before [] done (end close) e n h =
    let same : before ≡ wanted = sym (append-nil before) ∙ sym e in
    holds_if (AreOfTypes d params.kinds wanted) (nat_lt (length done) (length wanted)) (Err (faults.Arity atom)) (Ok done) (λ _. tt) (λ _. subst (λ ws. AreOfTypes d params.kinds ws done) same h)
rest_typed d params atom wanted before (kind ∷ kinds) done (end close) e n h =
    let long = length-append before (kind ∷ kinds) in
    let total = ap length e in
    holds_if (AreOfTypes d params.kinds wanted) (nat_lt (length done) (length wanted)) (Err (faults.Arity atom)) (Ok done) (λ _. tt)
    (λ enough. let le = ltb-false (length done) (length wanted) enough in absurd (omega (arith, le, long, total, n)))
rest_typed d params atom wanted before [] done (word at w rest) e n h =
    let same : wanted ≡ before = e ∙ append-nil before in
    let none : slice_get wanted (length done) ≡ None = ap (slice_get wanted) n ∙ ap (λ ws. slice_get ws (length before)) same ∙ get_past before in
    holds_bind (λ (t : Term). ⊥) (AreOfTypes d params.kinds wanted) (next_term d params atom (slice_get wanted (length done)) at w) _
    (subst (λ o. Holds (λ (t : Term). ⊥) (next_term d params atom o at w)) (sym none) tt) (λ t bad. absurd bad)
rest_typed d params atom wanted before (kind ∷ kinds) done (word at w rest) e n h =
    let found : slice_get wanted (length done) ≡ Some kind = ap (slice_get wanted) n ∙ ap (λ ws. slice_get ws (length before)) e ∙ get_seam before kind kinds in
    holds_bind (λ t. Below d params.kinds t kind) (AreOfTypes d params.kinds wanted) (next_term d params atom (slice_get wanted (length done)) at w) (λ t. terms_rest d params atom wanted (done ++ t ∷ []) rest)
    (subst (λ o. Holds (λ t. Below d params.kinds t kind) (next_term d params atom o at w)) (sym found) (typed_typed d params kind at w))
    (λ t k.
    let one = length-append done (t ∷ []) in
    let step = length-append before (kind ∷ []) in
    rest_typed d params atom wanted (before ++ kind ∷ []) kinds (done ++ t ∷ []) rest (e ∙ sym (append_assoc before (kind ∷ []) kinds)) (omega (arith, one, step, n))
    (zip_push (λ (term : Term) (wanted : ℕ). Below d params.kinds term wanted) done before t kind h k))
rest_typed d params atom wanted before kinds done (group at inside rest) e n h = tt

-- a predicate or function that is read has terms of the types that it wants, and the name that was read
pub record AppliedOf (d : Declared) (params : List ℕ) (sigs : Signatures) (w : List ℕ) (lit : Lit) : Type 0 where
  pub typed : AreOfTypes d params (slice_index_or sigs.kinds lit.pred []) lit.terms
  pub within : lit.pred < length sigs.names
  pub name : named sigs.names lit.pred ≡ w

pub applied_typed : (d : Declared) (params : Typed) (sigs : Signatures) (atom at : ℕ) (w : List ℕ) (rest : Items) → Holds (AppliedOf d params.kinds sigs w) (applied d params sigs atom at w rest)
unfolding applied terms_in
applied_typed d params sigs atom at w rest =
    let P : Lit → Type 0 = AppliedOf d params.kinds sigs w in
    holds_bind (λ n. (n < length sigs.names) × (named sigs.names n ≡ w)) P (or_fault (faults.BadName at) (place_in sigs.names w)) _
    (holds_found (λ n. (n < length sigs.names) × (named sigs.names n ≡ w)) (faults.BadName at) (place_in sigs.names w) (λ n e. let p = place_name sigs.names w n e in (p.within, p.name)))
    (λ n k. holds_bind (AreOfTypes d params.kinds (slice_index_or sigs.kinds n [])) P (terms_rest d params atom (slice_index_or sigs.kinds n []) [] rest) _
    (rest_typed d params atom (slice_index_or sigs.kinds n []) [] (slice_index_or sigs.kinds n []) [] rest refl refl tt)
    (λ ts h. record { typed = h; within = k.0; name = k.1 }))

-- an atom that is read
pub record AtomRead (d : Declared) (params : List ℕ) (w : List ℕ) (lit : Lit) : Type 0 where
  pub typed : IsTypedAtom d params lit
  pub name : named d.predicates.names lit.pred ≡ w
  pub unreserved : is_reserved (head_of w) ≡ false

pub atom_typed : (d : Declared) (params : Typed) (full : Bool) (atom at : ℕ) (w : List ℕ) (rest : Items) → AreUnreserved d.predicates.names → Holds (AtomRead d params.kinds w) (atom_in d params full atom at w rest)
unfolding atom_in
atom_typed d params full atom at w rest u =
    let P : Lit → Type 0 = AtomRead d params.kinds w in
    holds_if P (is_name w) _ (Err (faults.Shape at))
    (λ _. holds_if P full (Err (faults.Limit limits.LongList atom)) (applied d params d.predicates atom at w rest) (λ _. tt)
    (λ _. weaker (applied d params d.predicates atom at w rest) (applied_typed d params d.predicates atom at w rest)))
    (λ _. tt)
  where
    own : (lit : Lit) → AppliedOf d params.kinds d.predicates w lit → AtomRead d params.kinds w lit
    own lit a = record { typed = a.typed; name = a.name; unreserved = ap (λ v. is_reserved (head_of v)) (sym a.name) ∙ u lit.pred [] a.within }

    weaker : (r : Result Lit Fault) → Holds (AppliedOf d params.kinds d.predicates w) r → Holds (AtomRead d params.kinds w) r
    weaker (Ok lit) h = own lit h
    weaker (Err f) h = tt
