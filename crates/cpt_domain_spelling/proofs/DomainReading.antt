use Rattle.std.proofs.Common.{◌≡◌, ℕ, ◌++◌, ◌∷◌, [], Bool, true, false, List, length, map, All, refl, ap, ◌∙◌, sym, subst, arith}
use Rattle.std.specs.Prelude.{Result, Ok, Err, codes}
use Rattle.std.specs.List.{zip}
use Rattle.std.proofs.lemmas.List.Elements.{All-map, All-nil, All-push}
use Rattle.cpt_sexp.specs.Grammar.{ForestShape}
use Rattle.cpt_pddl.specs.declared.fault.Fault.{Fault}
use Rattle.cpt_pddl.specs.declared.fault.Fault.TheVariants as faults
use Rattle.cpt_pddl.specs.declared.typed.Sort.TheVariants.{Objects}
use Rattle.cpt_pddl.specs.Items.{Items, end, word, group, said_by}
use Rattle.cpt_pddl.specs.Reading.{after_word, group_at, name_at, nothing}
use Rattle.cpt_pddl.specs.Typed.{no_names, typed_list}
use Rattle.cpt_pddl.specs.Words.{is_name}
use Rattle.cpt_declared.specs.declared.declared.Declared.{Declared}
use Rattle.cpt_declared.specs.declared.kinds.Kinds.{Kinds}
use Rattle.cpt_declared.specs.declared.signatures.Sort.{Sort}
use Rattle.cpt_declared.specs.declared.signatures.Sort.TheVariants as signatures
use Rattle.cpt_declared.specs.Kinds.{kinds_in}
use Rattle.cpt_declared.specs.Signatures.{functions_in, is_refused, no_signatures, predicates_in, words_only}
use Rattle.cpt_schema.specs.declared.schemas.Schema.{Schema}
use Rattle.cpt_schema.specs.Schemas.{schema_in}
use Rattle.cpt_domain.specs.declared.domain.Domain.{Domain}
use Rattle.cpt_domain.specs.declared.domain.Function.{Function}
use Rattle.cpt_domain.specs.declared.domain.ObjectDecl.{ObjectDecl}
use Rattle.cpt_domain.specs.declared.domain.Predicate.{Predicate}
use Rattle.cpt_domain.specs.declared.domain.TypeDecl.{TypeDecl}
use Rattle.cpt_domain.specs.declared.keys.Key.{Key}
use Rattle.cpt_domain.specs.declared.keys.Key.TheVariants as keys
use Rattle.cpt_domain.specs.declared.keys.Section as section
use Rattle.cpt_domain.specs.declared.keys.Section.TheVariants.{Requirements, Types, Constants, Predicates, Functions}
use Rattle.cpt_domain.specs.Errors.{of_domain}
use Rattle.cpt_domain.specs.Sound.{IsSound}
use Rattle.cpt_domain_spelling.proofs.KindReading.{Stand, kinds_stand}
use Rattle.cpt_domain_spelling.proofs.OrderLemmas.{lesser_stand}
use Rattle.cpt_domain.specs.Reading.{Part, assembled, definition, domain_in, domain_of, is_seen, key_of, name_in, nothing_read, part_by, part_in, parts_in, section_in, with_action, with_declared, with_section}
use Rattle.cpt_domain_spelling.specs.Names.{named}
use Rattle.cpt_domain_spelling.specs.Siblings.{Siblings, one_by_one}
use Rattle.cpt_domain_spelling.specs.Spellable.{AreNames, AreUnreserved, IsSpellable, IsTyped, IsWellFormed}
use Rattle.cpt_domain_spelling.specs.Spelling.{declared_of}
use Rattle.cpt_domain_spelling.proofs.HoldsLemmas.{Holds, holds_both, holds_after, holds_bind, holds_if, holds_ok}
use Rattle.cpt_domain_spelling.proofs.NameReading.{KindsRead, SignaturesRead, TypedRead, functions_read, kinds_read, object_read, predicates_read, typed_read}
use Rattle.cpt_domain_spelling.proofs.SchemaTyping.{SchemaRead, name_read, schema_read}

-- what is declared so far
record DeclaredRead (d : Declared) : Type 0 where
  types : KindsRead d.types.names d.types.parents
  stood : Stand d.types.parents
  constants : TypedRead Objects d.constants
  predicates : SignaturesRead signatures.Predicates d.predicates
  functions : SignaturesRead signatures.Functions d.functions

-- a domain so far: its actions are over what is declared, which does not change behind the first action
record PartRead (p : Part) : Type 0 where
  declared : DeclaredRead p.declared
  actions : All (SchemaRead p.declared) p.schemas
  idle : p.acting ≡ false → p.schemas ≡ []

no_signatures_read : (sort : Sort) → SignaturesRead sort no_signatures
no_signatures_read sort = record { names = All-nil (λ w. is_name w ≡ true); allowed = All-nil (λ w. is_refused sort w ≡ false); lengths = refl }

no_names_read : TypedRead Objects no_names
no_names_read = record { names = All-nil (λ w. is_name w ≡ true); lengths = refl }

section_read : (s : section.Section) (d : Declared) (at : ℕ) (items : Items) → DeclaredRead d → Holds DeclaredRead (section_in s d at items)
section_read Requirements d at items h = holds_after DeclaredRead (words_only items) (λ _. Ok d) (λ _. h)
section_read Types d at items h =
    holds_bind (λ (k : Kinds). KindsRead k.names k.parents × Stand k.parents) DeclaredRead (kinds_in at items) (λ types. Ok (record d { types = types }))
    (holds_both (λ (k : Kinds). KindsRead k.names k.parents) (λ (k : Kinds). Stand k.parents) (kinds_in at items) (kinds_read at items) (kinds_stand at items))
    (λ types k. record { types = k.0; stood = k.1; constants = h.constants; predicates = h.predicates; functions = h.functions })
section_read Constants d at items h =
    holds_bind (TypedRead Objects) DeclaredRead (typed_list Objects d.types.names no_names items) (λ constants. Ok (record d { constants = constants })) (typed_read Objects d.types.names items)
    (λ constants k. record { types = h.types; stood = h.stood; constants = k; predicates = h.predicates; functions = h.functions })
section_read Predicates d at items h =
    holds_bind (SignaturesRead signatures.Predicates) DeclaredRead (predicates_in d.types.names no_signatures items) (λ sigs. Ok (record d { predicates = sigs }))
    (predicates_read d.types.names no_signatures items (no_signatures_read signatures.Predicates))
    (λ sigs k. record { types = h.types; stood = h.stood; constants = h.constants; predicates = k; functions = h.functions })
section_read Functions d at items h =
    holds_bind (SignaturesRead signatures.Functions) DeclaredRead (functions_in d.types.names no_signatures items) (λ sigs. Ok (record d { functions = sigs }))
    (functions_read d.types.names no_signatures items (no_signatures_read signatures.Functions))
    (λ sigs k. record { types = h.types; stood = h.stood; constants = h.constants; predicates = h.predicates; functions = k })

declared_read : (s : section.Section) (p : Part) (at keyword : ℕ) (items : Items) → PartRead p → Holds PartRead (with_declared s p at keyword items)
unfolding with_declared
declared_read s p at keyword items h =
    holds_if PartRead p.acting (Err (faults.Shape keyword)) _ (λ _. tt)
    (λ still. holds_if PartRead (is_seen p.seen s) (Err (faults.Twice at)) _ (λ _. tt)
    (λ _. holds_bind DeclaredRead PartRead (section_in s p.declared at items) (λ declared. Ok (record p { declared = declared; seen = with_section p.seen s }))
    (section_read s p.declared at items h.declared)
    (λ d k. record { declared = k; actions = subst (All (SchemaRead d)) (sym (h.idle still)) (All-nil (SchemaRead d)); idle = h.idle })))

action_read : (durative : Bool) (p : Part) (items : Items) → PartRead p → Holds PartRead (with_action durative p items)
unfolding with_action
action_read durative p items h =
    holds_bind (SchemaRead p.declared) PartRead (schema_in durative p.declared p.names items)
    (λ schema. Ok (record p { names = p.names ++ schema.name ∷ []; schemas = p.schemas ++ schema ∷ []; acting = true }))
    (schema_read durative p.declared p.names items h.declared.predicates.allowed)
    (λ schema k. record { declared = h.declared; actions = All-push (SchemaRead p.declared) p.schemas schema h.actions k; idle = λ e. cc })

part_by_read : (p : Part) (at keyword : ℕ) (items : Items) (key : Key) → PartRead p → Holds PartRead (part_by p at keyword items key)
part_by_read p at keyword items (keys.Section s) h = declared_read s p at keyword items h
part_by_read p at keyword items (keys.Action durative) h = action_read durative p items h
part_by_read p at keyword items keys.Untaken h = tt
part_by_read p at keyword items keys.Other h = tt

part_read : (p : Part) (at : ℕ) (items : Items) → PartRead p → Holds PartRead (part_in p at items)
part_read p at (end close) h = tt
part_read p at (word keyword w rest) h = part_by_read p at keyword rest (key_of w) h
part_read p at (group a inside rest) h = tt

parts_read : (p : Part) (items : Items) → PartRead p → Holds PartRead (parts_in p items)
parts_read p (end close) h = h
parts_read p (word at w rest) h = tt
parts_read p (group at inside rest) h = holds_bind PartRead PartRead (part_in p at inside) (λ more. parts_in more rest) (part_read p at inside h) (λ more k. parts_read more rest k)

start_read : PartRead nothing_read
start_read = record {
  declared = record { types = object_read; stood = (one_by_one 1 [], lesser_stand (0 ∷ []) (λ kind some lt. absurd (omega arith))); constants = no_names_read; predicates = no_signatures_read signatures.Predicates; functions = no_signatures_read signatures.Functions };
  actions = All-nil (SchemaRead nothing_read.declared);
  idle = λ e. refl;
}

-- what was paired and made one is had back
first_back : {A B C : Type 0} → (make : A × B → C) (first : C → A) → ((p : A × B) → first (make p) ≡ p.0) → (xs : List A) (ys : List B) → length ys ≡ length xs → map first (map make (zip xs ys)) ≡ xs
first_back make first back [] [] e = refl
first_back make first back [] (y ∷ ys) e = absurd (omega arith)
first_back make first back (x ∷ xs) [] e = absurd (omega arith)
first_back make first back (x ∷ xs) (y ∷ ys) e = ap (λ z. z ∷ map first (map make (zip xs ys))) (back (x, y)) ∙ ap (λ zs. x ∷ zs) (first_back make first back xs ys (omega arith))

second_back : {A B C : Type 0} → (make : A × B → C) (second : C → B) → ((p : A × B) → second (make p) ≡ p.1) → (xs : List A) (ys : List B) → length ys ≡ length xs → map second (map make (zip xs ys)) ≡ ys
second_back make second back [] [] e = refl
second_back make second back [] (y ∷ ys) e = absurd (omega arith)
second_back make second back (x ∷ xs) [] e = absurd (omega arith)
second_back make second back (x ∷ xs) (y ∷ ys) e = ap (λ z. z ∷ map second (map make (zip xs ys))) (back (x, y)) ∙ ap (λ zs. y ∷ zs) (second_back make second back xs ys (omega arith))

-- what a domain declares is what was read
declared_back : (name : List ℕ) (p : Part) → DeclaredRead p.declared → declared_of (assembled name p) ≡ p.declared
declared_back name p h =
    let d : Declared = p.declared in
    let make : List (List ℕ) → List ℕ → List (List ℕ) → List ℕ → List (List ℕ) → List (List ℕ) → List (List ℕ) → List (List ℕ) → Declared =
    λ a b c e f g i j. record { types = record { names = a; parents = b }; constants = record { names = c; kinds = e }; predicates = record { names = f; kinds = g }; functions = record { names = i; kinds = j } } in
    let of_type : List ℕ × ℕ → TypeDecl = λ q. record { name = q.0; parent = q.1 } in
    let of_object : List ℕ × ℕ → ObjectDecl = λ q. record { name = q.0; kind = q.1 } in
    let of_predicate : List ℕ × List ℕ → Predicate = λ q. record { name = q.0; kinds = q.1 } in
    let of_function : List ℕ × List ℕ → Function = λ q. record { name = q.0; kinds = q.1 } in
    let a = first_back of_type (λ (t : TypeDecl). t.name) (λ _. refl) d.types.names d.types.parents h.types.lengths in
    let b = second_back of_type (λ (t : TypeDecl). t.parent) (λ _. refl) d.types.names d.types.parents h.types.lengths in
    let c = first_back of_object (λ (o : ObjectDecl). o.name) (λ _. refl) d.constants.names d.constants.kinds h.constants.lengths in
    let e = second_back of_object (λ (o : ObjectDecl). o.kind) (λ _. refl) d.constants.names d.constants.kinds h.constants.lengths in
    let f = first_back of_predicate (λ (q : Predicate). q.name) (λ _. refl) d.predicates.names d.predicates.kinds h.predicates.lengths in
    let g = second_back of_predicate (λ (q : Predicate). q.kinds) (λ _. refl) d.predicates.names d.predicates.kinds h.predicates.lengths in
    let i = first_back of_function (λ (q : Function). q.name) (λ _. refl) d.functions.names d.functions.kinds h.functions.lengths in
    let j = second_back of_function (λ (q : Function). q.kinds) (λ _. refl) d.functions.names d.functions.kinds h.functions.lengths in
    let k = declared_of (assembled name p) in
    ap (λ x. make x k.types.parents k.constants.names k.constants.kinds k.predicates.names k.predicates.kinds k.functions.names k.functions.kinds) a
    ∙ ap (λ x. make d.types.names x k.constants.names k.constants.kinds k.predicates.names k.predicates.kinds k.functions.names k.functions.kinds) b
    ∙ ap (λ x. make d.types.names d.types.parents x k.constants.kinds k.predicates.names k.predicates.kinds k.functions.names k.functions.kinds) c
    ∙ ap (λ x. make d.types.names d.types.parents d.constants.names x k.predicates.names k.predicates.kinds k.functions.names k.functions.kinds) e
    ∙ ap (λ x. make d.types.names d.types.parents d.constants.names d.constants.kinds x k.predicates.kinds k.functions.names k.functions.kinds) f
    ∙ ap (λ x. make d.types.names d.types.parents d.constants.names d.constants.kinds d.predicates.names x k.functions.names k.functions.kinds) g
    ∙ ap (λ x. make d.types.names d.types.parents d.constants.names d.constants.kinds d.predicates.names d.predicates.kinds x k.functions.kinds) i
    ∙ ap (λ x. make d.types.names d.types.parents d.constants.names d.constants.kinds d.predicates.names d.predicates.kinds d.functions.names x) j

-- a domain that is read is well formed, and its types stand in some groups
record DomainRead (d : Domain) : Type 0 where
  formed : IsWellFormed d
  stood : Stand (declared_of d).types.parents

whole_read : (name : List ℕ) (p : Part) → is_name name ≡ true → PartRead p → DomainRead (assembled name p)
whole_read name p own h =
    let same = sym (declared_back name p h.declared) in
    let k = h.declared in
    let words : IsWellFormed (assembled name p) =
    record {
      name = own;
      types = subst (λ (d : Declared). AreNames d.types.names) same k.types.names;
      object = subst (λ (d : Declared). named d.types.names 0 ≡ codes "object") same k.types.object;
      constants = subst (λ (d : Declared). AreNames d.constants.names) same k.constants.names;
      predicates = subst (λ (d : Declared). AreNames d.predicates.names) same k.predicates.names;
      unreserved = subst (λ (d : Declared). AreUnreserved d.predicates.names) same k.predicates.allowed;
      functions = subst (λ (d : Declared). AreNames d.functions.names) same k.functions.names;
      actions = All-map (λ n. is_name n ≡ true) (λ (s : Schema). s.name) p.schemas (λ i x lt. (h.actions i x lt).name);
      typed = subst (λ d. All (IsTyped d) p.schemas) same (λ i x lt. (h.actions i x lt).typed);
    } in
    record { formed = words; stood = subst (λ (d : Declared). Stand d.types.parents) same k.stood }

domain_is_read : (items : Items) → Holds DomainRead (domain_in items)
unfolding domain_in definition name_in
domain_is_read items =
    holds_after DomainRead (group_at items) _
    (λ found. holds_bind DomainRead DomainRead (definition found.1) _
    (holds_after DomainRead (after_word (codes "define") found.1) _
    (λ rest. holds_after DomainRead (group_at rest) _
    (λ head. holds_bind (λ name. is_name name ≡ true) DomainRead (name_in head.1) _
    (holds_after (λ name. is_name name ≡ true) (after_word (codes "domain") head.1) _
    (λ after. holds_bind (λ (n : ℕ × List ℕ × Items). is_name n.1 ≡ true) (λ name. is_name name ≡ true) (name_at after) _ (name_read after)
    (λ name own. holds_after (λ name. is_name name ≡ true) (nothing name.2) (λ _. Ok name.1) (λ _. own))))
    (λ name own. holds_bind PartRead DomainRead (parts_in nothing_read head.2) (λ whole. Ok (assembled name whole)) (parts_read nothing_read head.2 start_read)
    (λ whole h. whole_read name whole own h)))))
    (λ domain k. holds_after DomainRead (nothing found.2) (λ _. Ok domain) (λ _. k)))

read_of : (r : Result Domain Fault) (d : Domain) → of_domain r ≡ Ok d → r ≡ Ok d
read_of (Ok x) d e = let same : x ≡ d = cc in ap (λ y. Ok y) same
read_of (Err f) d e = absurd (cc)

domain_parts : (d : Domain) (forest : ForestShape) → domain_of forest ≡ Ok d → DomainRead d
unfolding domain_of
domain_parts d forest e = holds_ok DomainRead (domain_in (said_by forest)) d (read_of (domain_in (said_by forest)) d e) (domain_is_read (said_by forest))

-- each domain that is read is well formed
pub domain_formed : (d : Domain) (forest : ForestShape) → domain_of forest ≡ Ok d → IsWellFormed d
domain_formed d forest e = (domain_parts d forest e).formed

-- each sound domain that is read has a spelling
pub domain_spelled : (d : Domain) (forest : ForestShape) → IsSound d → domain_of forest ≡ Ok d → (groups : List Siblings) × IsSpellable d groups
domain_spelled d forest sound e =
    let h = domain_parts d forest e in
    let stood = h.stood in
    (stood.0, record { sound = sound; formed = h.formed; arranged = stood.1 })
