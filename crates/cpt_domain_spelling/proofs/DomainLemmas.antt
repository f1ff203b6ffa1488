use Rattle.std.proofs.Common.{◌≡◌, ℕ, ◌-◌, ◌++◌, ◌∷◌, [], Bool, true, false, List, length, map, All, refl, ap, ◌∙◌, sym, subst, arith}
use Rattle.std.specs.Prelude.{Result, Ok, None, codes}
use Rattle.std.specs.List.{slice_range}
use Rattle.std.proofs.lemmas.List.{append-nil, append_assoc, length-map}
use Rattle.std.proofs.lemmas.List.Elements.{All-head, All-tail}
use Rattle.cpt_sexp.specs.Grammar.{ForestShape}
use Rattle.cpt_sexp.specs.Printing.{Nest, nest_of}
use Rattle.cpt_sexp.specs.Printing as nest
use Rattle.cpt_sexp.specs.Trees.{Trees}
use Rattle.cpt_sexp.specs.Trees as trees
use Rattle.cpt_pddl.specs.declared.fault.Fault.{Fault}
use Rattle.cpt_pddl.specs.declared.typed.Sort.TheVariants.{Objects}
use Rattle.cpt_pddl.specs.Items.{Items, items_of, said_by}
use Rattle.cpt_pddl.specs.Names.{place_in}
use Rattle.cpt_pddl.specs.Reading.{after_word, group_at, name_at, nothing}
use Rattle.cpt_pddl.specs.Typed.{no_names}
use Rattle.cpt_pddl.specs.Words.{is_name}
use Rattle.cpt_declared.specs.declared.declared.Declared.{Declared}
use Rattle.cpt_declared.specs.Signatures.{no_signatures}
use Rattle.cpt_schema.specs.declared.schemas.Schema.{Schema}
use Rattle.cpt_domain.specs.declared.domain.Domain.{Domain}
use Rattle.cpt_domain.specs.declared.domain.Function.{Function}
use Rattle.cpt_domain.specs.declared.domain.ObjectDecl.{ObjectDecl}
use Rattle.cpt_domain.specs.declared.domain.Predicate.{Predicate}
use Rattle.cpt_domain.specs.declared.domain.TypeDecl.{TypeDecl}
use Rattle.cpt_domain.specs.declared.keys.Key.TheVariants as keys
use Rattle.cpt_domain.specs.declared.keys.Section.TheVariants.{Types, Constants, Predicates, Functions}
use Rattle.cpt_domain.specs.declared.keys.Seen.{Seen}
use Rattle.cpt_domain.specs.Errors.{of_domain}
use Rattle.cpt_domain.specs.Reading.{Part, assembled, definition, domain_in, domain_of, function_list, key_of, name_in, nothing_read, object_decls, part_by, part_in, parts_in, predicate_list, type_decls, with_action, with_declared}
use Rattle.cpt_domain.specs.Sound.{function_kinds, predicate_kinds}
use Rattle.cpt_domain.specs.SoundKinds.{AreBelow, AreVariables}
use Rattle.cpt_domain.specs.SoundNames.{AreDifferent}
use Rattle.cpt_domain.specs.SoundSchemas.{IsSoundSchema}
use Rattle.cpt_domain_spelling.specs.Siblings.{IsArranged, Siblings, siblings_nest}
use Rattle.cpt_domain_spelling.specs.Saying.{says}
use Rattle.cpt_domain_spelling.specs.Spellable.{AreNames, HasSpelling, IsSoundOver, IsSpellable, IsTyped}
use Rattle.cpt_domain_spelling.specs.Spelling.{action_nest, actions_nest, declared_of, domain_nest, sections_then, signatures_nest, typed_nest}
use Rattle.cpt_domain_spelling.proofs.ItemLemmas.{bound, end_there, group_there, when, word_there}
use Rattle.cpt_domain_spelling.proofs.KindLemmas.{kinds_back}
use Rattle.cpt_domain_spelling.proofs.NameLemmas.{place_new}
use Rattle.cpt_domain_spelling.proofs.SchemaLemmas.{schema_back}
use Rattle.cpt_domain_spelling.proofs.SignatureLemmas.{functions_back, predicates_back}
use Rattle.cpt_domain_spelling.proofs.TypedLemmas.{typed_back}

-- the keywords of the sections
key_types : key_of (codes ":types") ≡ keys.Section Types
unfolding key_of
key_types = refl

key_constants : key_of (codes ":constants") ≡ keys.Section Constants
unfolding key_of
key_constants = refl

key_predicates : key_of (codes ":predicates") ≡ keys.Section Predicates
unfolding key_of
key_predicates = refl

key_functions : key_of (codes ":functions") ≡ keys.Section Functions
unfolding key_of
key_functions = refl

key_action : key_of (codes ":durative-action") ≡ keys.Action true
unfolding key_of
key_action = refl

-- a domain so far, behind its sections
abbrev seen_all : Seen
seen_all = record { requirements = false; types = true; constants = true; predicates = true; functions = true }

abbrev part : Declared → List (List ℕ) → List Schema → Bool → Part
part d names schemas acting = record { declared = d; seen = seen_all; names = names; schemas = schemas; acting = acting }

-- a domain so far, behind the first sections
abbrev behind : Declared → Seen → Part
behind d seen = record { declared = d; seen = seen; names = []; schemas = []; acting = false }

abbrev behind_types : Declared → Part
behind_types d =
    behind (record { types = d.types; constants = no_names; predicates = no_signatures; functions = no_signatures })
    (record { requirements = false; types = true; constants = false; predicates = false; functions = false })

abbrev behind_constants : Declared → Part
behind_constants d =
    behind (record { types = d.types; constants = d.constants; predicates = no_signatures; functions = no_signatures })
    (record { requirements = false; types = true; constants = true; predicates = false; functions = false })

abbrev behind_predicates : Declared → Part
behind_predicates d =
    behind (record { types = d.types; constants = d.constants; predicates = d.predicates; functions = no_signatures })
    (record { requirements = false; types = true; constants = true; predicates = true; functions = false })

types_part : (d : Declared) (groups : List Siblings) (at : ℕ) (items : Items) → HasSpelling d → IsArranged d.types.parents groups → says items ≡ nest.name (codes ":types") (siblings_nest d.types.names groups) → part_in nothing_read at items ≡ Ok (behind_types d)
unfolding with_declared
types_part d groups at items h arranged said =
    let w = word_there items (codes ":types") _ said in
    ap (part_in nothing_read at) w.is ∙ ap (part_by nothing_read at w.at w.more) key_types
    ∙ bound _ (bound _ (kinds_back at d.types groups w.more h.types h.object h.sound.types arranged w.said) refl) refl

constants_part : (d : Declared) (at : ℕ) (items : Items) → HasSpelling d → says items ≡ nest.name (codes ":constants") (typed_nest d.types.names d.constants.names d.constants.kinds)
    → part_in (behind_types d) at items ≡ Ok (behind_constants d)
unfolding with_declared
constants_part d at items h said =
    let w = word_there items (codes ":constants") _ said in
    ap (part_in (behind_types d) at) w.is ∙ ap (part_by (behind_types d) at w.at w.more) key_constants
    ∙ bound _ (bound _ (typed_back Objects d.types.names d.constants.names d.constants.kinds w.more h.types h.constants.different h.constants.names h.sound.constants w.said) refl) refl

predicates_part : (d : Declared) (at : ℕ) (items : Items) → HasSpelling d → says items ≡ nest.name (codes ":predicates") (signatures_nest d.types.names d.predicates.names d.predicates.kinds)
    → part_in (behind_constants d) at items ≡ Ok (behind_predicates d)
unfolding with_declared
predicates_part d at items h said =
    let w = word_there items (codes ":predicates") _ said in
    ap (part_in (behind_constants d) at) w.is ∙ ap (part_by (behind_constants d) at w.at w.more) key_predicates
    ∙ bound _ (bound _ (predicates_back d.types.names d.predicates w.more h.types h.predicates h.unreserved h.sound.predicates w.said) refl) refl

functions_part : (d : Declared) (at : ℕ) (items : Items) → HasSpelling d → says items ≡ nest.name (codes ":functions") (signatures_nest d.types.names d.functions.names d.functions.kinds)
    → part_in (behind_predicates d) at items ≡ Ok (part d [] [] false)
unfolding with_declared
functions_part d at items h said =
    let w = word_there items (codes ":functions") _ said in
    ap (part_in (behind_predicates d) at) w.is ∙ ap (part_by (behind_predicates d) at w.at w.more) key_functions
    ∙ bound _ (bound _ (functions_back d.types.names d.functions w.more h.types h.functions h.sound.functions w.said) refl) refl

-- a part in its group, and then the rest
part_step : (so_far next : Part) (items : Items) (inner rest : Nest) (r : Result Part Fault) → says items ≡ nest.list inner rest
    → ((at : ℕ) (inside : Items) → says inside ≡ inner → part_in so_far at inside ≡ Ok next) → ((more : Items) → says more ≡ rest → parts_in next more ≡ r) → parts_in so_far items ≡ r
part_step so_far next items inner rest r said read go =
    let g = group_there items inner rest said in
    ap (parts_in so_far) g.is ∙ bound _ (read g.at g.inside g.within) (go g.more g.said)

sections_back : (d : Declared) (groups : List Siblings) (items : Items) (rest : Nest) (r : Result Part Fault) → HasSpelling d → IsArranged d.types.parents groups → says items ≡ sections_then d groups rest
    → ((more : Items) → says more ≡ rest → parts_in (part d [] [] false) more ≡ r) → parts_in nothing_read items ≡ r
sections_back d groups items rest r h arranged said go =
    part_step nothing_read (behind_types d) items _ _ r said (λ at inside e. types_part d groups at inside h arranged e)
    (λ more e. part_step (behind_types d) (behind_constants d) more _ _ r e (λ at inside f. constants_part d at inside h f)
    (λ after f. part_step (behind_constants d) (behind_predicates d) after _ _ r f (λ at inside k. predicates_part d at inside h k)
    (λ last k. part_step (behind_predicates d) (part d [] [] false) last _ _ r k (λ at inside m. functions_part d at inside h m) go)))

-- whether an action stood, behind these actions
abbrev acted : Bool → List Schema → Bool
acted acting [] = acting
acted acting (s ∷ schemas) = acted true schemas

abbrev pub names_of : List Schema → List (List ℕ)
names_of schemas = map (λ (s : Schema). s.name) schemas

action_back : (d : Declared) (s : Schema) (names : List (List ℕ)) (done : List Schema) (acting : Bool) (items : Items) → HasSpelling d → IsSoundOver d s → IsTyped d s → is_name s.name ≡ true
    → place_in names s.name ≡ None → says items ≡ action_nest d s → with_action true (part d names done acting) items ≡ Ok (part d (names ++ s.name ∷ []) (done ++ s ∷ []) true)
unfolding with_action
action_back d s names done acting items h sound typed own new said = bound _ (schema_back d s names items h sound typed own new said) refl

actions_back : (d : Declared) (schemas done all : List Schema) (names whole : List (List ℕ)) (acting : Bool) (items : Items) → HasSpelling d → All (IsSoundOver d) schemas → All (IsTyped d) schemas
    → AreNames (names_of schemas) → AreDifferent whole → all ≡ done ++ schemas → whole ≡ names ++ names_of schemas → says items ≡ actions_nest d schemas
    → parts_in (part d names done acting) items ≡ Ok (part d whole all (acted acting schemas))
actions_back d [] done all names whole acting items h sound typed own apart e f said =
    let last = end_there items said in
    ap (parts_in (part d names done acting)) last.is
    ∙ ap (λ ss. Ok (part d names ss acting)) (sym (append-nil done) ∙ sym e) ∙ ap (λ ns. Ok (part d ns all acting)) (sym (append-nil names) ∙ sym f)
actions_back d (s ∷ schemas) done all names whole acting items h sound typed own apart e f said =
    let g = group_there items _ _ said in
    let w = word_there g.inside (codes ":durative-action") _ g.within in
    let first = All-head (λ n. is_name n ≡ true) s.name (names_of schemas) own in
    let new = place_new names s.name (names_of schemas) (subst AreDifferent f apart) in
    ap (parts_in (part d names done acting)) g.is
    ∙ bound _ (ap (part_in (part d names done acting) g.at) w.is ∙ ap (part_by (part d names done acting) g.at w.at w.more) key_action
    ∙ action_back d s names done acting w.more h (All-head (IsSoundOver d) s schemas sound) (All-head (IsTyped d) s schemas typed) first new w.said)
    (actions_back d schemas (done ++ s ∷ []) all (names ++ s.name ∷ []) whole true g.more h (All-tail (IsSoundOver d) s schemas sound) (All-tail (IsTyped d) s schemas typed)
    (All-tail (λ n. is_name n ≡ true) s.name (names_of schemas) own) apart (e ∙ sym (append_assoc done (s ∷ []) schemas)) (f ∙ sym (append_assoc names (s.name ∷ []) (names_of schemas))) g.said)

-- what is declared has a spelling, where the domain has one
pub declared_spelled : (d : Domain) (groups : List Siblings) → IsSpellable d groups → HasSpelling (declared_of d)
declared_spelled d groups h =
    let fit = h.sound.fit in
    let tree = fit.tree in
    let types : length d.types ≡ length (map (λ (t : TypeDecl). t.name) d.types) = sym (length-map d.types (λ (t : TypeDecl). t.name)) in
    let objects = length-map d.constants (λ (o : ObjectDecl). o.name) in
    let few = fit.few in
    record {
      sound = record {
        types = record {
          lengths = tree.lengths ∙ types;
          some = let some = tree.some in omega (arith, some, types);
          below = subst (λ n. AreBelow n (map (λ (t : TypeDecl). t.parent) d.types)) types tree.below;
          rooted = tree.rooted;
        };
        constants = record {
          lengths = length-map d.constants (λ (o : ObjectDecl). o.kind) ∙ sym objects;
          below = subst (λ n. AreBelow n (map (λ (o : ObjectDecl). o.kind) d.constants)) types fit.constants;
          few = omega (arith, objects, few);
        };
        predicates = record {
          lengths = length-map d.predicates (λ (p : Predicate). p.kinds) ∙ sym (length-map d.predicates (λ (p : Predicate). p.name));
          variables = subst (λ n. All (AreVariables n) (predicate_kinds d)) types fit.predicate_variables;
        };
        functions = record {
          lengths = length-map d.functions (λ (f : Function). f.kinds) ∙ sym (length-map d.functions (λ (f : Function). f.name));
          variables = subst (λ n. All (AreVariables n) (function_kinds d)) types fit.function_variables;
        };
      };
      types = record { names = h.formed.types; different = h.sound.names.types };
      object = h.formed.object;
      constants = record { names = h.formed.constants; different = h.sound.names.constants };
      predicates = record { names = h.formed.predicates; different = h.sound.names.predicates };
      unreserved = h.formed.unreserved;
      functions = record { names = h.formed.functions; different = h.sound.names.functions };
    }

pub actions_sound : (d : Domain) (groups : List Siblings) → IsSpellable d groups → All (IsSoundOver (declared_of d)) d.schemas
actions_sound d groups h =
    let types : length d.types ≡ length (map (λ (t : TypeDecl). t.name) d.types) = sym (length-map d.types (λ (t : TypeDecl). t.name)) in
    let objects : length d.constants ≡ length (map (λ (o : ObjectDecl). o.name) d.constants) = sym (length-map d.constants (λ (o : ObjectDecl). o.name)) in
    subst (λ n. All (IsSoundSchema n (length (map (λ (o : ObjectDecl). o.name) d.constants)) (predicate_kinds d) (function_kinds d)) d.schemas) types
    (subst (λ n. All (IsSoundSchema (length d.types) n (predicate_kinds d) (function_kinds d)) d.schemas) objects h.sound.fit.actions)

-- declarations are their names with what each has
types_whole : (ts : List TypeDecl) → type_decls (map (λ (t : TypeDecl). t.name) ts) (map (λ (t : TypeDecl). t.parent) ts) ≡ ts
types_whole [] = refl
types_whole (t ∷ ts) = ap (λ xs. t ∷ xs) (types_whole ts)

objects_whole : (os : List ObjectDecl) → object_decls (map (λ (o : ObjectDecl). o.name) os) (map (λ (o : ObjectDecl). o.kind) os) ≡ os
objects_whole [] = refl
objects_whole (o ∷ os) = ap (λ xs. o ∷ xs) (objects_whole os)

predicates_whole : (ps : List Predicate) → predicate_list (map (λ (p : Predicate). p.name) ps) (map (λ (p : Predicate). p.kinds) ps) ≡ ps
predicates_whole [] = refl
predicates_whole (p ∷ ps) = ap (λ xs. p ∷ xs) (predicates_whole ps)

functions_whole : (fs : List Function) → function_list (map (λ (f : Function). f.name) fs) (map (λ (f : Function). f.kinds) fs) ≡ fs
functions_whole [] = refl
functions_whole (f ∷ fs) = ap (λ xs. f ∷ xs) (functions_whole fs)

whole : (d : Domain) (names : List (List ℕ)) (acting : Bool) → assembled d.name (part (declared_of d) names d.schemas acting) ≡ d
whole d names acting =
    let make : List TypeDecl → List ObjectDecl → List Predicate → List Function → Domain =
    λ types constants predicates functions. record { name = d.name; types = types; constants = constants; predicates = predicates; schemas = d.schemas; functions = functions } in
    let k = declared_of d in
    ap (λ ts. make ts (object_decls k.constants.names k.constants.kinds) (predicate_list k.predicates.names k.predicates.kinds) (function_list k.functions.names k.functions.kinds)) (types_whole d.types)
    ∙ ap (λ os. make d.types os (predicate_list k.predicates.names k.predicates.kinds) (function_list k.functions.names k.functions.kinds)) (objects_whole d.constants)
    ∙ ap (λ ps. make d.types d.constants ps (function_list k.functions.names k.functions.kinds)) (predicates_whole d.predicates)
    ∙ ap (make d.types d.constants d.predicates) (functions_whole d.functions)

parts_back : (d : Domain) (groups : List Siblings) (items : Items) → IsSpellable d groups → says items ≡ sections_then (declared_of d) groups (actions_nest (declared_of d) d.schemas)
    → parts_in nothing_read items ≡ Ok (part (declared_of d) (names_of d.schemas) d.schemas (acted false d.schemas))
parts_back d groups items h said =
    let k = declared_of d in
    let spelled = declared_spelled d groups h in
    sections_back k groups items (actions_nest k d.schemas) _ spelled h.arranged said
    (λ more e. actions_back k d.schemas [] d.schemas [] (names_of d.schemas) false more spelled (actions_sound d groups h) h.formed.typed h.formed.actions h.sound.names.actions refl refl e)

-- items that say the spelling of a domain are read as the domain
pub items_back : (d : Domain) (groups : List Siblings) (items : Items) → IsSpellable d groups → says items ≡ domain_nest d groups → domain_in items ≡ Ok d
unfolding domain_in definition name_in
items_back d groups items h said =
    let g = group_there items _ _ said in
    let w = word_there g.inside (codes "define") _ g.within in
    let head = group_there w.more _ _ w.said in
    let v = word_there head.inside (codes "domain") _ head.within in
    let n = word_there v.more d.name _ v.said in
    let stop = end_there n.more n.said in
    let last = end_there g.more g.said in
    bound _ (ap group_at g.is)
    (bound _ (bound _ (ap (after_word (codes "define")) w.is) (bound _ (ap group_at head.is)
    (bound _ (bound _ (ap (after_word (codes "domain")) v.is) (bound _ (ap name_at n.is ∙ when _ _ h.formed.name) (bound _ (ap nothing stop.is) refl)))
    (bound _ (parts_back d groups head.more h head.said) (ap (λ x. Ok x) (whole d (names_of d.schemas) (acted false d.schemas)))))))
    (bound _ (ap nothing last.is) refl))

-- what a parsed text says, by its items
says_of : (text : List ℕ) (close : ℕ) (ts : Trees) → says (items_of text close ts) ≡ nest_of text ts
says_of text close trees.none = refl
says_of text close (trees.word from to rest) = ap (nest.name (slice_range text from to)) (says_of text close rest)
says_of text close (trees.group from to inside rest) =
    ap (λ n. nest.list n (says (items_of text close rest))) (says_of text (to - 1) inside) ∙ ap (nest.list (nest_of text inside)) (says_of text close rest)

-- a parsed text that says the spelling of a domain is read as the domain
pub domain_back : (d : Domain) (groups : List Siblings) (forest : ForestShape) → IsSpellable d groups → nest_of forest.text forest.trees ≡ domain_nest d groups → domain_of forest ≡ Ok d
unfolding domain_of
domain_back d groups forest h said = ap of_domain (items_back d groups (said_by forest) h (says_of forest.text (length forest.text) forest.trees ∙ said))
