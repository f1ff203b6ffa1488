use Rattle.std.proofs.Common.{◌≡◌, ℕ, ◌≤◌, ◌++◌, ◌∷◌, [], Bool, true, false, List, length, All, refl, ap, ◌∙◌, sym, arith}
use Rattle.std.specs.Prelude.{slice_get, slice_index_or, Ok, Some}
use Rattle.std.proofs.lemmas.Bool.{le-ltb}
use Rattle.std.proofs.lemmas.List.{append-nil, append_assoc, length-append}
use Rattle.std.proofs.lemmas.List.Elements.{All-head, All-tail}
use Rattle.cpt_pddl.specs.declared.fault.Fault.TheVariants as faults
use Rattle.cpt_pddl.specs.Faults.{or_fault}
use Rattle.cpt_pddl.specs.Items.{Items}
use Rattle.cpt_pddl.specs.Kinds.{is_below}
use Rattle.cpt_pddl.specs.Words.{is_name}
use Rattle.cpt_declared.specs.declared.declared.Declared.{Declared}
use Rattle.cpt_declared.specs.declared.signatures.Signatures.{Signatures}
use Rattle.cpt_schema.specs.declared.terms.Lit.{Lit}
use Rattle.cpt_schema.specs.declared.terms.Term.{Term}
use Rattle.cpt_schema.specs.declared.terms.Term.TheVariants.{Param, Object}
use Rattle.cpt_schema.specs.Terms.{applied, atom_in, next_term, object_at, param_at, term_at, terms_in, terms_rest, typed_term}
use Rattle.cpt_domain.specs.SoundSchemas.{IsApplied, IsLit, IsTerm}
use Rattle.cpt_domain_spelling.specs.Saying.{says}
use Rattle.cpt_domain_spelling.specs.Spellable.{AreDistinct, AreOfTypes, HasSpelling, IsTypedAtom, kind_of}
use Rattle.cpt_domain_spelling.specs.Names.{named}
use Rattle.cpt_domain_spelling.specs.Spelling.{parameters_of, term_word, terms_nest}
use Rattle.cpt_domain_spelling.proofs.ItemLemmas.{bound, end_there, unless, when, word_there}
use Rattle.cpt_domain_spelling.proofs.NameLemmas.{get_seam, name_no_variable, place_there}
use Rattle.cpt_domain_spelling.proofs.VariableLemmas.{variable_is, variable_there}

-- a term of a schema with these parameters
abbrev pub TermOf : Declared → List ℕ → Term → Type 0
TermOf d params term = IsTerm (length params) (length d.constants.names) term

-- a spelled term is read as it is
pub term_back : (d : Declared) (params : List ℕ) (at : ℕ) (term : Term) → HasSpelling d → length params ≤ 16 → TermOf d params term
    → term_at d (parameters_of params) at (term_word d term) ≡ Ok (term, kind_of d params term)
unfolding term_at
term_back d params at (Param n) h few lt =
    when _ _ (variable_is n (omega (arith, few, lt))) ∙ ap (param_at (parameters_of params) at) (variable_there params n few lt)
term_back d params at (Object n) h few lt =
    let own : is_name (named d.constants.names n) ≡ true = h.constants.names n [] lt in
    unless _ _ (name_no_variable (named d.constants.names n) own) ∙ when _ _ own
    ∙ ap (object_at d.constants at) (place_there d.constants.names n h.constants.different lt)

typed_back : (d : Declared) (params : List ℕ) (wanted at : ℕ) (term : Term) → HasSpelling d → length params ≤ 16 → TermOf d params term
    → is_below d.types.parents (kind_of d params term) wanted ≡ true → typed_term d (parameters_of params) wanted at (term_word d term) ≡ Ok term
unfolding typed_term
typed_back d params wanted at term h few lt below = bound _ (term_back d params at term h few lt) (when _ _ below)

terms_rest_back : (d : Declared) (params : List ℕ) (atom : ℕ) (wanted before kinds : List ℕ) (all done terms : List Term) (items : Items) → HasSpelling d → length params ≤ 16
    → All (TermOf d params) terms → AreOfTypes d params kinds terms → wanted ≡ before ++ kinds → all ≡ done ++ terms → length done ≡ length before
    → says items ≡ terms_nest d terms → terms_rest d (parameters_of params) atom wanted done items ≡ Ok all
terms_rest_back d params atom wanted before [] all done [] items h few fit typed f e n said =
    let last = end_there items said in
    let total = ap length f in
    let long = length-append before [] in
    ap (terms_rest d (parameters_of params) atom wanted done) last.is
    ∙ unless _ _ (le-ltb (length done) (length wanted) (omega (arith, n, total, long))) ∙ ap (λ ts. Ok ts) (sym (append-nil done) ∙ sym e)
terms_rest_back d params atom wanted before (kind ∷ kinds) all done [] items h few fit typed f e n said = absurd typed
terms_rest_back d params atom wanted before [] all done (term ∷ terms) items h few fit typed f e n said = absurd typed
terms_rest_back d params atom wanted before (kind ∷ kinds) all done (term ∷ terms) items h few fit typed f e n said =
    let a = word_there items (term_word d term) _ said in
    let found : slice_get wanted (length done) ≡ Some kind = ap (λ k. slice_get wanted k) n ∙ ap (λ ws. slice_get ws (length before)) f ∙ get_seam before kind kinds in
    let one = length-append done (term ∷ []) in
    let step = length-append before (kind ∷ []) in
    ap (terms_rest d (parameters_of params) atom wanted done) a.is
    ∙ bound _ (ap (λ o. next_term d (parameters_of params) atom o a.at (term_word d term)) found
    ∙ typed_back d params kind a.at term h few (All-head (TermOf d params) term terms fit) typed.0)
    (terms_rest_back d params atom wanted (before ++ kind ∷ []) kinds all (done ++ term ∷ []) terms a.more h few (All-tail (TermOf d params) term terms fit) typed.1
    (f ∙ sym (append_assoc before (kind ∷ []) kinds)) (e ∙ sym (append_assoc done (term ∷ []) terms)) (omega (arith, one, step, n)) a.said)

-- a spelled predicate or function with its terms is read as it is
pub applied_back : (d : Declared) (params : List ℕ) (sigs : Signatures) (atom at number : ℕ) (terms : List Term) (items : Items) → HasSpelling d → length params ≤ 16
    → AreDistinct sigs.names → length sigs.kinds ≡ length sigs.names → IsApplied (length params) (length d.constants.names) sigs.kinds number terms
    → AreOfTypes d params (slice_index_or sigs.kinds number []) terms → says items ≡ terms_nest d terms
    → applied d (parameters_of params) sigs atom at (named sigs.names number) items ≡ Ok (record { pred = number; terms = terms })
unfolding applied terms_in
applied_back d params sigs atom at number terms items h few t lengths a typed said =
    let lt = a.known in
    let there = place_there sigs.names number t.different (omega (arith, lt, lengths)) in
    let kinds = slice_index_or sigs.kinds number [] in
    bound _ (ap (or_fault (faults.BadName at)) there)
    (bound _ (terms_rest_back d params atom kinds [] kinds terms [] terms items h few a.fit typed refl refl refl said) refl)

-- an atom of a schema with these parameters
pub record AtomOf (d : Declared) (params : List ℕ) (lit : Lit) : Type 0 where
  pub sound : IsLit (length params) (length d.constants.names) d.predicates.kinds lit
  pub typed : IsTypedAtom d params lit

-- a spelled atom is read as it is, where its list has room
pub atom_back : (d : Declared) (params : List ℕ) (full : Bool) (atom at : ℕ) (lit : Lit) (items : Items) → HasSpelling d → length params ≤ 16 → full ≡ false → AtomOf d params lit
    → says items ≡ terms_nest d lit.terms → atom_in d (parameters_of params) full atom at (named d.predicates.names lit.pred) items ≡ Ok lit
unfolding atom_in
atom_back d params full atom at lit items h few room a said =
    let lt = a.sound.known in
    let lengths = h.sound.predicates.lengths in
    let own : is_name (named d.predicates.names lit.pred) ≡ true = h.predicates.names lit.pred [] (omega (arith, lt, lengths)) in
    when _ _ own ∙ unless _ _ room
    ∙ applied_back d params d.predicates atom at lit.pred lit.terms items h few h.predicates lengths a.sound a.typed said
