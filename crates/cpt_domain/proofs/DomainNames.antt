use Rattle.std.proofs.Common.{◌≡◌, ◌≢◌, ℕ, ◌++◌, ◌∷◌, [], Bool, true, List, length, map, refl, ap, ◌∙◌, sym, subst, arith}
use Rattle.std.specs.Prelude.{All, is_some, Result, Ok, Err, None, codes}
use Rattle.std.specs.List.{zip}
use Rattle.cpt_pddl.specs.declared.fault.Fault.{Fault}
use Rattle.cpt_pddl.specs.declared.fault.Fault.TheVariants as faults
use Rattle.cpt_pddl.specs.declared.typed.Sort.TheVariants.{Objects}
use Rattle.cpt_pddl.specs.declared.typed.Typed.{Typed}
use Rattle.cpt_pddl.specs.Items.{Items, end, word, group}
use Rattle.cpt_pddl.specs.Names.{place_in}
use Rattle.cpt_pddl.specs.Reading.{name_at}
use Rattle.cpt_pddl.specs.Typed.{no_names, typed_list}
use Rattle.cpt_pddl.specs.Words.{is_name, is_word}
use Rattle.cpt_pddl.proofs.WordLemmas.{name_word}
use Rattle.cpt_declared.specs.declared.declared.Declared.{Declared}
use Rattle.cpt_declared.specs.declared.kinds.Kinds.{Kinds}
use Rattle.cpt_declared.specs.declared.signatures.Signatures.{Signatures}
use Rattle.cpt_declared.specs.declared.signatures.Sort.TheVariants as signatures
use Rattle.cpt_declared.specs.Kinds.{kinds_in}
use Rattle.cpt_declared.specs.Signatures.{functions_in, no_signatures, predicates_in, words_only}
use Rattle.cpt_schema.specs.declared.schemas.Schema.{Schema}
use Rattle.cpt_schema.specs.Schemas.{assembled as schema_of, body, lasting_next, parameters, schema_after, schema_in}
use Rattle.cpt_domain.specs.declared.domain.Function.{Function}
use Rattle.cpt_domain.specs.declared.domain.ObjectDecl.{ObjectDecl}
use Rattle.cpt_domain.specs.declared.domain.Predicate.{Predicate}
use Rattle.cpt_domain.specs.declared.domain.TypeDecl.{TypeDecl}
use Rattle.cpt_domain.specs.declared.keys.Key.{Key}
use Rattle.cpt_domain.specs.declared.keys.Key.TheVariants as keys
use Rattle.cpt_domain.specs.declared.keys.Section as section
use Rattle.cpt_domain.specs.declared.keys.Section.TheVariants.{Requirements, Types, Constants, Predicates, Functions}
use Rattle.cpt_domain.specs.Reading.{Part, assembled, is_seen, key_of, nothing_read, part_by, part_in, parts_in, section_in, with_action, with_declared, with_section}
use Rattle.cpt_domain.specs.SoundNames.{AreDifferent, AreWords, HasDifferentNames, HasWordNames}
use Rattle.cpt_domain.proofs.NameSoundness.{AreNames, AreSignatureNames, functions_named, kinds_named, names_end, never_not, no_names_yet, no_signature_names, not_there, one_name, predicates_named, typed_named}
use Rattle.cpt_domain.proofs.Tools.{Holds, holds_any, holds_bind, holds_if}

-- what is declared has different words as names
pub record NamedDeclared (d : Declared) : Type 0 where
  pub types : AreNames d.types.names
  pub constants : AreNames d.constants.names
  pub predicates : AreSignatureNames signatures.Predicates d.predicates.names
  pub functions : AreSignatureNames signatures.Functions d.functions.names

-- a domain so far has different words as names
pub record NamedPart (p : Part) : Type 0 where
  pub declared : NamedDeclared p.declared
  pub actions : AreNames p.names
  pub same : map (λ (s : Schema). s.name) p.schemas ≡ p.names

section_named : (s : section.Section) (d : Declared) (at : ℕ) (items : Items) → NamedDeclared d → Holds NamedDeclared (section_in s d at items)
section_named Requirements d at items h = holds_bind (λ _. Unit {0}) NamedDeclared (words_only items) (λ _. Ok d) (holds_any (words_only items)) (λ _ _. h)
section_named Types d at items h =
    holds_bind (λ (k : Kinds). AreNames k.names) NamedDeclared (kinds_in at items) (λ types. Ok (record d { types = types })) (kinds_named at items)
    (λ types k. record { types = k; constants = h.constants; predicates = h.predicates; functions = h.functions })
section_named Constants d at items h =
    holds_bind (λ (t : Typed). AreNames t.names) NamedDeclared (typed_list Objects d.types.names no_names items) (λ constants. Ok (record d { constants = constants })) (typed_named d.types.names items)
    (λ constants k. record { types = h.types; constants = k; predicates = h.predicates; functions = h.functions })
section_named Predicates d at items h =
    holds_bind (λ (s : Signatures). AreSignatureNames signatures.Predicates s.names) NamedDeclared (predicates_in d.types.names no_signatures items) (λ sigs. Ok (record d { predicates = sigs })) (predicates_named d.types.names no_signatures items (no_signature_names signatures.Predicates))
    (λ sigs k. record { types = h.types; constants = h.constants; predicates = k; functions = h.functions })
section_named Functions d at items h =
    holds_bind (λ (s : Signatures). AreSignatureNames signatures.Functions s.names) NamedDeclared (functions_in d.types.names no_signatures items) (λ sigs. Ok (record d { functions = sigs })) (functions_named d.types.names no_signatures items (no_signature_names signatures.Functions))
    (λ sigs k. record { types = h.types; constants = h.constants; predicates = h.predicates; functions = k })

after_named : (durative : Bool) (d : Declared) (name : List ℕ) (items : Items) → Holds (λ (s : Schema). s.name ≡ name) (schema_after durative d name items)
unfolding schema_after
after_named durative d name items =
    let P : Schema → Type 0 = λ s. s.name ≡ name in
    holds_bind (λ _. Unit {0}) P (parameters d items) _ (holds_any (parameters d items))
    (λ params _. holds_bind (λ _. Unit {0}) P (lasting_next durative d params.0 params.1) _ (holds_any (lasting_next durative d params.0 params.1))
    (λ lasting _. holds_bind (λ _. Unit {0}) P (body durative d params.0 lasting.1) (λ parts. Ok (schema_of name params.0 lasting.0 parts.0 parts.1)) (holds_any (body durative d params.0 lasting.1))
    (λ parts _. refl)))

-- the name of a schema is a word, and new
record IsNewSchema (known : List (List ℕ)) (s : Schema) : Type 0 where
  is : is_word s.name ≡ true
  new : place_in known s.name ≡ None

name_at_word : (items : Items) → Holds (λ (n : ℕ × List ℕ × Items). is_word n.1 ≡ true) (name_at items)
name_at_word (end close) = tt
name_at_word (word at w rest) =
    holds_if (λ (n : ℕ × List ℕ × Items). is_word n.1 ≡ true) (is_name w) (Ok (at, w, rest)) (Err (faults.Shape at)) (λ is. name_word w is) (λ _. tt)
name_at_word (group at inside rest) = tt

schema_new : (durative : Bool) (d : Declared) (known : List (List ℕ)) (items : Items) → Holds (IsNewSchema known) (schema_in durative d known items)
unfolding schema_in
schema_new durative d known items =
    let P : Schema → Type 0 = IsNewSchema known in
    let named : (name : List ℕ) (r : Result Schema Fault) → is_word name ≡ true → place_in known name ≡ None → Holds (λ (s : Schema). s.name ≡ name) r → Holds P r =
    λ name r is new. elim r as (λ r. Holds (λ (s : Schema). s.name ≡ name) r → Holds P r) [
      | Ok s ↦ λ e. record { is = ap is_word e ∙ is; new = ap (place_in known) e ∙ new }
      | Err f ↦ λ e. tt
    ] in
    holds_bind (λ (n : ℕ × List ℕ × Items). is_word n.1 ≡ true) P (name_at items) _ (name_at_word items)
    (λ name is. holds_if P (is_some (place_in known name.1)) (Err (faults.Twice name.0)) (schema_after durative d name.1 name.2) (λ _. tt)
    (λ new. named name.1 (schema_after durative d name.1 name.2) is (not_there known name.1 new) (after_named durative d name.1 name.2)))

map_end : (f : Schema → List ℕ) (xs : List Schema) (x : Schema) → map f (xs ++ x ∷ []) ≡ map f xs ++ f x ∷ []
map_end f [] x = refl
map_end f (y ∷ xs) x = ap (λ l. f y ∷ l) (map_end f xs x)

declared_named : (s : section.Section) (p : Part) (at keyword : ℕ) (items : Items) → NamedPart p → Holds NamedPart (with_declared s p at keyword items)
unfolding with_declared
declared_named s p at keyword items h =
    holds_if NamedPart p.acting (Err (faults.Shape keyword)) _ (λ _. tt)
    (λ _. holds_if NamedPart (is_seen p.seen s) (Err (faults.Twice at)) _ (λ _. tt)
    (λ _. holds_bind NamedDeclared NamedPart (section_in s p.declared at items) (λ declared. Ok (record p { declared = declared; seen = with_section p.seen s }))
    (section_named s p.declared at items h.declared) (λ d k. record { declared = k; actions = h.actions; same = h.same })))

action_named : (durative : Bool) (p : Part) (items : Items) → NamedPart p → Holds NamedPart (with_action durative p items)
unfolding with_action
action_named durative p items h =
    holds_bind (IsNewSchema p.names) NamedPart (schema_in durative p.declared p.names items)
    (λ schema. Ok (record p { names = p.names ++ schema.name ∷ []; schemas = p.schemas ++ schema ∷ []; acting = true })) (schema_new durative p.declared p.names items)
    (λ schema new. record {
      declared = h.declared;
      actions = names_end p.names schema.name h.actions new.is new.new;
      same = map_end (λ (s : Schema). s.name) p.schemas schema ∙ ap (λ ns. ns ++ schema.name ∷ []) h.same;
    })

part_by_named : (p : Part) (at keyword : ℕ) (items : Items) (key : Key) → NamedPart p → Holds NamedPart (part_by p at keyword items key)
part_by_named p at keyword items (keys.Section s) h = declared_named s p at keyword items h
part_by_named p at keyword items (keys.Action durative) h = action_named durative p items h
part_by_named p at keyword items keys.Untaken h = tt
part_by_named p at keyword items keys.Other h = tt

part_named : (p : Part) (at : ℕ) (items : Items) → NamedPart p → Holds NamedPart (part_in p at items)
part_named p at (end close) h = tt
part_named p at (word keyword w rest) h = part_by_named p at keyword rest (key_of w) h
part_named p at (group a inside rest) h = tt

-- the parts of a domain keep the names different words
pub parts_named : (p : Part) (items : Items) → NamedPart p → Holds NamedPart (parts_in p items)
parts_named p (end close) h = h
parts_named p (word at w rest) h = tt
parts_named p (group at inside rest) h =
    holds_bind NamedPart NamedPart (part_in p at inside) (λ more. parts_in more rest) (part_named p at inside h) (λ more k. parts_named more rest k)

pub start_named : NamedPart nothing_read
start_named = record {
  declared = record {
    types = one_name (codes "object") refl;
    constants = no_names_yet;
    predicates = no_signature_names signatures.Predicates;
    functions = no_signature_names signatures.Functions;
  };
  actions = no_names_yet;
  same = refl;
}

-- what was paired and made one is had back
zipped_first : {A B C : Type 0} → (make : A × B → C) (first : C → A) → ((p : A × B) → first (make p) ≡ p.0) → (xs : List A) (ys : List B) → length ys ≡ length xs → map first (map make (zip xs ys)) ≡ xs
zipped_first make first back [] [] e = refl
zipped_first make first back [] (y ∷ ys) e = absurd (omega (arith, e))
zipped_first make first back (x ∷ xs) [] e = absurd (omega (arith, e))
zipped_first make first back (x ∷ xs) (y ∷ ys) e =
    ap (λ z. z ∷ map first (map make (zip xs ys))) (back (x, y)) ∙ ap (λ zs. x ∷ zs) (zipped_first make first back xs ys (omega (arith, e)))

-- a domain that is put together has different words as names
pub assembled_named : (name : List ℕ) (p : Part) → length p.declared.types.parents ≡ length p.declared.types.names → length p.declared.constants.kinds ≡ length p.declared.constants.names
    → length p.declared.predicates.kinds ≡ length p.declared.predicates.names → length p.declared.functions.kinds ≡ length p.declared.functions.names → NamedPart p
    → HasDifferentNames (assembled name p) × HasWordNames (assembled name p)
assembled_named name p types constants predicates functions h =
    let d : Declared = p.declared in
    let make_type : List ℕ × ℕ → TypeDecl = λ q. record { name = q.0; parent = q.1 } in
    let make_object : List ℕ × ℕ → ObjectDecl = λ q. record { name = q.0; kind = q.1 } in
    let make_predicate : List ℕ × List ℕ → Predicate = λ q. record { name = q.0; kinds = q.1 } in
    let make_function : List ℕ × List ℕ → Function = λ q. record { name = q.0; kinds = q.1 } in
    let of_types = sym (zipped_first make_type (λ (t : TypeDecl). t.name) (λ _. refl) d.types.names d.types.parents types) in
    let of_constants = sym (zipped_first make_object (λ (o : ObjectDecl). o.name) (λ _. refl) d.constants.names d.constants.kinds constants) in
    let of_predicates = sym (zipped_first make_predicate (λ (q : Predicate). q.name) (λ _. refl) d.predicates.names d.predicates.kinds predicates) in
    let of_functions = sym (zipped_first make_function (λ (f : Function). f.name) (λ _. refl) d.functions.names d.functions.kinds functions) in
    let NoNot : List (List ℕ) → Type 0 = λ names. All (λ name. name ≢ codes "not") names in (
      record {
        types = subst AreDifferent of_types h.declared.types.different;
        constants = subst AreDifferent of_constants h.declared.constants.different;
        predicates = subst AreDifferent of_predicates h.declared.predicates.named.different;
        functions = subst AreDifferent of_functions h.declared.functions.named.different;
        actions = subst AreDifferent (sym h.same) h.actions.different;
      },
      record {
        types = subst AreWords of_types h.declared.types.words;
        constants = subst AreWords of_constants h.declared.constants.words;
        predicates = subst AreWords of_predicates h.declared.predicates.named.words;
        functions = subst AreWords of_functions h.declared.functions.named.words;
        actions = subst AreWords (sym h.same) h.actions.words;
        no_not = subst NoNot of_predicates (never_not d.predicates.names h.declared.predicates);
      },
    )
