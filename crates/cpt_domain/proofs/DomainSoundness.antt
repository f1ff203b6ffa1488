use Rattle.std.proofs.Common.{◌≡◌, ℕ, suc, ◌<◌, ◌≤◌, ◌++◌, ◌∷◌, [], Bool, true, false, List, length, All, map, refl, ap, ◌∙◌, sym, subst, arith}
use Rattle.std.specs.Prelude.{slice_index_or, Ok, Err, codes}
use Rattle.std.specs.List.{zip}
use Rattle.std.proofs.lemmas.List.Elements.{All-nil}
use Rattle.cpt_pddl.specs.declared.fault.Fault.TheVariants as faults
use Rattle.cpt_pddl.specs.declared.typed.Sort.TheVariants.{Objects}
use Rattle.cpt_pddl.specs.declared.typed.Typed.{Typed}
use Rattle.cpt_pddl.specs.Faults.{◌>>=◌}
use Rattle.cpt_pddl.specs.Items.{Items, end, word, group}
use Rattle.cpt_pddl.specs.Reading.{after_word, group_at, nothing}
use Rattle.cpt_pddl.specs.Typed.{no_names, typed_list}
use Rattle.cpt_declared.specs.declared.declared.Declared.{Declared}
use Rattle.cpt_declared.specs.declared.kinds.Kinds.{Kinds}
use Rattle.cpt_declared.specs.declared.signatures.Signatures.{Signatures}
use Rattle.cpt_declared.specs.Kinds.{kinds_in, object_alone}
use Rattle.cpt_declared.specs.Signatures.{functions_in, no_signatures, predicates_in, words_only}
use Rattle.cpt_schema.specs.declared.schemas.Schema.{Schema}
use Rattle.cpt_schema.specs.Schemas.{schema_in}
use Rattle.cpt_domain.specs.declared.domain.Domain.{Domain}
use Rattle.cpt_domain.specs.declared.domain.Function.{Function}
use Rattle.cpt_domain.specs.declared.domain.ObjectDecl.{ObjectDecl}
use Rattle.cpt_domain.specs.declared.domain.Predicate.{Predicate}
use Rattle.cpt_domain.specs.declared.domain.TypeDecl.{TypeDecl}
use Rattle.cpt_domain.specs.declared.keys.Key.{Key}
use Rattle.cpt_domain.specs.declared.keys.Key.TheVariants as keys
use Rattle.cpt_domain.specs.declared.keys.Section as section
use Rattle.cpt_domain.specs.declared.keys.Section.TheVariants.{Requirements, Types, Constants, Predicates, Functions}
use Rattle.cpt_domain.specs.Reading.{Part, assembled, definition, domain_in, is_seen, key_of, name_in, nothing_declared, nothing_read, part_by, part_in, parts_in, section_in, with_action, with_declared, with_section}
use Rattle.cpt_domain.specs.Sound.{FitTogether, Fits, IsSound}
use Rattle.cpt_domain.specs.SoundKinds.{AreSignatures, AreTyped, IsSoundDeclared}
use Rattle.cpt_domain.proofs.DomainNames.{NamedPart, assembled_named, parts_named, start_named}
use Rattle.cpt_domain.proofs.KindSoundness.{SoundTypes, kinds_sound, object_sound}
use Rattle.cpt_domain.proofs.SchemaSoundness.{SchemaOf, schema_sound}
use Rattle.cpt_domain.proofs.SignatureSoundness.{functions_sound, no_signatures_sound, predicates_sound}
use Rattle.cpt_domain.proofs.Tools.{Holds, all_end, holds_any, holds_both, holds_bind, holds_if, holds_ok, more_below}
use Rattle.cpt_domain.proofs.TypedSoundness.{typed_sound}

-- what is sound over fewer types is sound over more
typed_more : (a b : ℕ) (typed : Typed) → a ≤ b → AreTyped 4096 a typed → AreTyped 4096 b typed
typed_more a b typed le h = record { lengths = h.lengths; below = more_below a b typed.kinds le h.below; few = h.few }

signatures_more : (a b : ℕ) (sigs : Signatures) → a ≤ b → AreSignatures a sigs → AreSignatures b sigs
signatures_more a b sigs le h = record {
  lengths = h.lengths;
  variables = λ k x lt. let v = h.variables k x lt in record { below = more_below a b (slice_index_or sigs.kinds k x) le v.below; few = v.few };
}

-- a domain so far is sound; it has the one type before its types, and no action before it acts
record SoundPart (p : Part) : Type 0 where
  declared : IsSoundDeclared p.declared
  fresh : p.seen.types ≡ false → p.declared.types ≡ object_alone
  idle : p.acting ≡ false → p.schemas ≡ []
  schemas : All (SchemaOf p.declared) p.schemas

no_schemas : (d : Declared) (schemas : List Schema) → schemas ≡ [] → All (SchemaOf d) schemas
no_schemas d schemas e = subst (All (SchemaOf d)) (sym e) (All-nil (SchemaOf d))

section_keeps : (s : section.Section) (p : Part) (at : ℕ) (items : Items) → SoundPart p → p.acting ≡ false → is_seen p.seen s ≡ false
    → Holds SoundPart (section_in s p.declared at items >>= (λ declared. Ok (record p { declared = declared; seen = with_section p.seen s })))
section_keeps Requirements p at items h idle new =
    holds_bind (λ (d : Declared). IsSoundDeclared d × (d.types ≡ p.declared.types)) SoundPart (words_only items >>= (λ _. Ok p.declared)) (λ declared. Ok (record p { declared = declared; seen = with_section p.seen Requirements }))
    (holds_bind (λ _. Unit {0}) (λ (d : Declared). IsSoundDeclared d × (d.types ≡ p.declared.types)) (words_only items) (λ _. Ok p.declared) (holds_any (words_only items)) (λ _ _. (h.declared, refl)))
    (λ d k. record { declared = k.0; fresh = λ f. k.1 ∙ h.fresh f; idle = h.idle; schemas = no_schemas d p.schemas (h.idle idle) })
section_keeps Types p at items h idle new =
    let one : length p.declared.types.names ≡ 1 = ap (λ (k : Kinds). length k.names) (h.fresh new) in
    holds_bind IsSoundDeclared SoundPart (kinds_in at items >>= (λ types. Ok (record p.declared { types = types }))) (λ declared. Ok (record p { declared = declared; seen = with_section p.seen Types }))
    (holds_bind SoundTypes IsSoundDeclared (kinds_in at items) (λ types. Ok (record p.declared { types = types })) (kinds_sound at items)
    (λ types k.
    let le : length p.declared.types.names ≤ length types.names = let some = k.some in omega (arith, one, some) in
    record {
      types = k;
      constants = typed_more (length p.declared.types.names) (length types.names) p.declared.constants le h.declared.constants;
      predicates = signatures_more (length p.declared.types.names) (length types.names) p.declared.predicates le h.declared.predicates;
      functions = signatures_more (length p.declared.types.names) (length types.names) p.declared.functions le h.declared.functions;
    }))
    (λ d k. record { declared = k; fresh = λ f. cc; idle = h.idle; schemas = no_schemas d p.schemas (h.idle idle) })
section_keeps Constants p at items h idle new =
    holds_bind (λ (d : Declared). IsSoundDeclared d × (d.types ≡ p.declared.types)) SoundPart (typed_list Objects p.declared.types.names no_names items >>= (λ constants. Ok (record p.declared { constants = constants })))
    (λ declared. Ok (record p { declared = declared; seen = with_section p.seen Constants }))
    (holds_bind (AreTyped 4096 (length p.declared.types.names)) (λ (d : Declared). IsSoundDeclared d × (d.types ≡ p.declared.types)) (typed_list Objects p.declared.types.names no_names items) (λ constants. Ok (record p.declared { constants = constants }))
    (typed_sound Objects p.declared.types.names items h.declared.types.some)
    (λ constants k. (record { types = h.declared.types; constants = k; predicates = h.declared.predicates; functions = h.declared.functions }, refl)))
    (λ d k. record { declared = k.0; fresh = λ f. k.1 ∙ h.fresh f; idle = h.idle; schemas = no_schemas d p.schemas (h.idle idle) })
section_keeps Predicates p at items h idle new =
    holds_bind (λ (d : Declared). IsSoundDeclared d × (d.types ≡ p.declared.types)) SoundPart (predicates_in p.declared.types.names no_signatures items >>= (λ sigs. Ok (record p.declared { predicates = sigs })))
    (λ declared. Ok (record p { declared = declared; seen = with_section p.seen Predicates }))
    (holds_bind (AreSignatures (length p.declared.types.names)) (λ (d : Declared). IsSoundDeclared d × (d.types ≡ p.declared.types)) (predicates_in p.declared.types.names no_signatures items) (λ sigs. Ok (record p.declared { predicates = sigs }))
    (predicates_sound p.declared.types.names no_signatures items h.declared.types.some (no_signatures_sound (length p.declared.types.names)))
    (λ sigs k. (record { types = h.declared.types; constants = h.declared.constants; predicates = k; functions = h.declared.functions }, refl)))
    (λ d k. record { declared = k.0; fresh = λ f. k.1 ∙ h.fresh f; idle = h.idle; schemas = no_schemas d p.schemas (h.idle idle) })
section_keeps Functions p at items h idle new =
    holds_bind (λ (d : Declared). IsSoundDeclared d × (d.types ≡ p.declared.types)) SoundPart (functions_in p.declared.types.names no_signatures items >>= (λ sigs. Ok (record p.declared { functions = sigs })))
    (λ declared. Ok (record p { declared = declared; seen = with_section p.seen Functions }))
    (holds_bind (AreSignatures (length p.declared.types.names)) (λ (d : Declared). IsSoundDeclared d × (d.types ≡ p.declared.types)) (functions_in p.declared.types.names no_signatures items) (λ sigs. Ok (record p.declared { functions = sigs }))
    (functions_sound p.declared.types.names no_signatures items h.declared.types.some (no_signatures_sound (length p.declared.types.names)))
    (λ sigs k. (record { types = h.declared.types; constants = h.declared.constants; predicates = h.declared.predicates; functions = k }, refl)))
    (λ d k. record { declared = k.0; fresh = λ f. k.1 ∙ h.fresh f; idle = h.idle; schemas = no_schemas d p.schemas (h.idle idle) })

declared_keeps : (s : section.Section) (p : Part) (at keyword : ℕ) (items : Items) → SoundPart p → Holds SoundPart (with_declared s p at keyword items)
unfolding with_declared
declared_keeps s p at keyword items h =
    holds_if SoundPart p.acting (Err (faults.Shape keyword)) _ (λ _. tt)
    (λ idle. holds_if SoundPart (is_seen p.seen s) (Err (faults.Twice at)) _ (λ _. tt) (λ new. section_keeps s p at items h idle new))

action_keeps : (durative : Bool) (p : Part) (items : Items) → SoundPart p → Holds SoundPart (with_action durative p items)
unfolding with_action
action_keeps durative p items h =
    holds_bind (SchemaOf p.declared) SoundPart (schema_in durative p.declared p.names items)
    (λ schema. Ok (record p { names = p.names ++ schema.name ∷ []; schemas = p.schemas ++ schema ∷ []; acting = true })) (schema_sound durative p.declared p.names items h.declared)
    (λ schema k. record { declared = h.declared; fresh = h.fresh; idle = λ f. cc; schemas = all_end (SchemaOf p.declared) p.schemas schema h.schemas k })

part_by_keeps : (p : Part) (at keyword : ℕ) (items : Items) (key : Key) → SoundPart p → Holds SoundPart (part_by p at keyword items key)
part_by_keeps p at keyword items (keys.Section s) h = declared_keeps s p at keyword items h
part_by_keeps p at keyword items (keys.Action durative) h = action_keeps durative p items h
part_by_keeps p at keyword items keys.Untaken h = tt
part_by_keeps p at keyword items keys.Other h = tt

part_keeps : (p : Part) (at : ℕ) (items : Items) → SoundPart p → Holds SoundPart (part_in p at items)
part_keeps p at (end close) h = tt
part_keeps p at (word keyword w rest) h = part_by_keeps p at keyword rest (key_of w) h
part_keeps p at (group a inside rest) h = tt

parts_sound : (p : Part) (items : Items) → SoundPart p → Holds SoundPart (parts_in p items)
parts_sound p (end close) h = h
parts_sound p (word at w rest) h = tt
parts_sound p (group at inside rest) h =
    holds_bind SoundPart SoundPart (part_in p at inside) (λ more. parts_in more rest) (part_keeps p at inside h) (λ more k. parts_sound more rest k)

start_sound : SoundPart nothing_read
start_sound = record {
  declared = record {
    types = object_sound;
    constants = record { lengths = refl; below = All-nil (λ n. n < 1); few = omega arith };
    predicates = no_signatures_sound 1;
    functions = no_signatures_sound 1;
  };
  fresh = λ _. refl;
  idle = λ _. refl;
  schemas = All-nil (SchemaOf nothing_declared);
}

-- what was paired and made one is had back
zipped_back : {A B C : Type 0} → (make : A × B → C) (second : C → B) → ((p : A × B) → second (make p) ≡ p.1) → (xs : List A) (ys : List B) → length ys ≡ length xs → map second (map make (zip xs ys)) ≡ ys
zipped_back make second back [] [] e = refl
zipped_back make second back [] (y ∷ ys) e = absurd (omega (arith, e))
zipped_back make second back (x ∷ xs) [] e = absurd (omega (arith, e))
zipped_back make second back (x ∷ xs) (y ∷ ys) e =
    ap (λ z. z ∷ map second (map make (zip xs ys))) (back (x, y)) ∙ ap (λ zs. y ∷ zs) (zipped_back make second back xs ys (omega (arith, e)))

zipped_length : {A B C : Type 0} → (make : A × B → C) (xs : List A) (ys : List B) → length ys ≡ length xs → length xs ≡ length (map make (zip xs ys))
zipped_length make [] [] e = refl
zipped_length make [] (y ∷ ys) e = absurd (omega (arith, e))
zipped_length make (x ∷ xs) [] e = absurd (omega (arith, e))
zipped_length make (x ∷ xs) (y ∷ ys) e = ap suc (zipped_length make xs ys (omega (arith, e)))

assembled_sound : (name : List ℕ) (p : Part) → SoundPart p → Fits (assembled name p)
assembled_sound name p h =
    let d : Declared = p.declared in
    let make_type : List ℕ × ℕ → TypeDecl = λ q. record { name = q.0; parent = q.1 } in
    let make_object : List ℕ × ℕ → ObjectDecl = λ q. record { name = q.0; kind = q.1 } in
    let make_predicate : List ℕ × List ℕ → Predicate = λ q. record { name = q.0; kinds = q.1 } in
    let make_function : List ℕ × List ℕ → Function = λ q. record { name = q.0; kinds = q.1 } in
    let types : length d.types.names ≡ length (map make_type (zip d.types.names d.types.parents)) = zipped_length make_type d.types.names d.types.parents h.declared.types.lengths in
    let objects : length d.constants.names ≡ length (map make_object (zip d.constants.names d.constants.kinds)) = zipped_length make_object d.constants.names d.constants.kinds h.declared.constants.lengths in
    let parents : map (λ (t : TypeDecl). t.parent) (map make_type (zip d.types.names d.types.parents)) ≡ d.types.parents = zipped_back make_type (λ (t : TypeDecl). t.parent) (λ _. refl) d.types.names d.types.parents h.declared.types.lengths in
    let kinds : map (λ (o : ObjectDecl). o.kind) (map make_object (zip d.constants.names d.constants.kinds)) ≡ d.constants.kinds = zipped_back make_object (λ (o : ObjectDecl). o.kind) (λ _. refl) d.constants.names d.constants.kinds h.declared.constants.lengths in
    let predicates : map (λ (q : Predicate). q.kinds) (map make_predicate (zip d.predicates.names d.predicates.kinds)) ≡ d.predicates.kinds = zipped_back make_predicate (λ (q : Predicate). q.kinds) (λ _. refl) d.predicates.names d.predicates.kinds h.declared.predicates.lengths in
    let functions : map (λ (f : Function). f.kinds) (map make_function (zip d.functions.names d.functions.kinds)) ≡ d.functions.kinds = zipped_back make_function (λ (f : Function). f.kinds) (λ _. refl) d.functions.names d.functions.kinds h.declared.functions.lengths in
    let fit : FitTogether (length d.types.names) (length d.constants.names) d.types.parents d.constants.kinds d.predicates.kinds d.functions.kinds p.schemas = record {
      tree = h.declared.types;
      constants = h.declared.constants.below;
      few = h.declared.constants.few;
      predicate_variables = h.declared.predicates.variables;
      function_variables = h.declared.functions.variables;
      actions = h.schemas;
    } in
    let a = subst (λ n. FitTogether n (length d.constants.names) d.types.parents d.constants.kinds d.predicates.kinds d.functions.kinds p.schemas) types fit in
    let b = subst (λ n. FitTogether (length (map make_type (zip d.types.names d.types.parents))) n d.types.parents d.constants.kinds d.predicates.kinds d.functions.kinds p.schemas) objects a in
    let c = subst (λ n. FitTogether (length (map make_type (zip d.types.names d.types.parents))) (length (map make_object (zip d.constants.names d.constants.kinds))) n d.constants.kinds d.predicates.kinds d.functions.kinds p.schemas) (sym parents) b in
    let e = subst (λ n. FitTogether (length (map make_type (zip d.types.names d.types.parents))) (length (map make_object (zip d.constants.names d.constants.kinds))) (map (λ (t : TypeDecl). t.parent) (map make_type (zip d.types.names d.types.parents))) n d.predicates.kinds d.functions.kinds p.schemas) (sym kinds) c in
    let f = subst (λ n. FitTogether (length (map make_type (zip d.types.names d.types.parents))) (length (map make_object (zip d.constants.names d.constants.kinds))) (map (λ (t : TypeDecl). t.parent) (map make_type (zip d.types.names d.types.parents))) (map (λ (o : ObjectDecl). o.kind) (map make_object (zip d.constants.names d.constants.kinds))) n d.functions.kinds p.schemas) (sym predicates) e in
    subst (λ n. FitTogether (length (map make_type (zip d.types.names d.types.parents))) (length (map make_object (zip d.constants.names d.constants.kinds))) (map (λ (t : TypeDecl). t.parent) (map make_type (zip d.types.names d.types.parents))) (map (λ (o : ObjectDecl). o.kind) (map make_object (zip d.constants.names d.constants.kinds))) (map (λ (q : Predicate). q.kinds) (map make_predicate (zip d.predicates.names d.predicates.kinds))) n p.schemas) (sym functions) f

definition_sound : (items : Items) → Holds IsSound (definition items)
unfolding definition
definition_sound items =
    holds_bind (λ _. Unit {0}) IsSound (after_word (codes "define") items) _ (holds_any (after_word (codes "define") items))
    (λ rest _. holds_bind (λ _. Unit {0}) IsSound (group_at rest) _ (holds_any (group_at rest))
    (λ head _. holds_bind (λ _. Unit {0}) IsSound (name_in head.1) _ (holds_any (name_in head.1))
    (λ name _. holds_bind (λ (whole : Part). SoundPart whole × NamedPart whole) IsSound (parts_in nothing_read head.2) (λ whole. Ok (assembled name whole))
    (holds_both SoundPart NamedPart (parts_in nothing_read head.2) (parts_sound nothing_read head.2 start_sound) (parts_named nothing_read head.2 start_named))
    (λ whole k.
    let h = k.0.declared in
    let named = assembled_named name whole h.types.lengths h.constants.lengths h.predicates.lengths h.functions.lengths k.1 in
    record {
      fit = assembled_sound name whole k.0;
      names = named.0;
      words = named.1;
    }))))

domain_sound : (items : Items) → Holds IsSound (domain_in items)
unfolding domain_in
domain_sound items =
    holds_bind (λ _. Unit {0}) IsSound (group_at items) _ (holds_any (group_at items))
    (λ found _. holds_bind IsSound IsSound (definition found.1) (λ domain. nothing found.2 >>= (λ _. Ok domain)) (definition_sound found.1)
    (λ domain k. holds_bind (λ _. Unit {0}) IsSound (nothing found.2) (λ _. Ok domain) (holds_any (nothing found.2)) (λ _ _. k)))

-- a domain that is read is sound
pub read_is_sound : (items : Items) (d : Domain) → domain_in items ≡ Ok d → IsSound d
read_is_sound items d e = holds_ok IsSound (domain_in items) d e (domain_sound items)
