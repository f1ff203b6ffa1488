use Rattle.std.specs.Prelude.{◌≡◌, ℕ, Bool, ◌≤◌, true, false, List, [], length, slice_index_or, All, Ok, None, codes}
use Rattle.cpt_sexp.specs.Grammar.{ForestShape}
use Rattle.cpt_sexp.specs.Printing.{nothing, name, list, nest_of}
use Rattle.cpt_pddl.specs.declared.typed.Sort.{Sort}
use Rattle.cpt_pddl.specs.Items.{Items}
use Rattle.cpt_pddl.specs.Names.{place_in}
use Rattle.cpt_pddl.specs.Typed.{fits_sort, most, no_names, typed_list}
use Rattle.cpt_pddl.specs.Words.{is_name}
use Rattle.cpt_declared.specs.declared.kinds.Kinds.{Kinds}
use Rattle.cpt_declared.specs.declared.signatures.Signatures.{Signatures}
use Rattle.cpt_declared.specs.Kinds.{kinds_in}
use Rattle.cpt_declared.specs.Signatures.{functions_in, no_signatures, predicates_in}
use Rattle.cpt_declared.specs.declared.declared.Declared.{Declared}
use Rattle.cpt_schema.specs.declared.durations.Lasting.{Lasting}
use Rattle.cpt_schema.specs.declared.durations.Lasting.TheVariants.{Fixed}
use Rattle.cpt_schema.specs.declared.schemas.Schema.{Schema}
use Rattle.cpt_schema.specs.declared.terms.Term.{Term}
use Rattle.cpt_schema.specs.Conditions.{condition_in}
use Rattle.cpt_schema.specs.Durations.{duration_in}
use Rattle.cpt_schema.specs.Effects.{Effs, timed_effect_in}
use Rattle.cpt_schema.specs.Schemas.{lits_of, no_conds, no_effs, schema_in}
use Rattle.cpt_schema.specs.Terms.{applied}
use Rattle.cpt_domain.specs.declared.domain.Domain.{Domain}
use Rattle.cpt_domain.specs.Reading.{domain_of}
use Rattle.cpt_domain.specs.Sound.{IsSound}
use Rattle.cpt_domain.specs.SoundKinds.{AreKinds, AreSignatures, AreTyped}
use Rattle.cpt_domain.specs.SoundNames.{AreDifferent}
use Rattle.cpt_domain.specs.SoundSchemas.{IsApplied, IsLasting}
use Rattle.cpt_domain_spelling.specs.Names.{named}
use Rattle.cpt_domain_spelling.specs.Siblings.{IsArranged, Siblings, siblings_nest}
use Rattle.cpt_domain_spelling.specs.Saying.{says}
use Rattle.cpt_domain_spelling.specs.Spellable.{AreDistinct, AreUnreserved, AreOfTypes, HasSpelling, IsSoundOver, IsSpellable, IsTyped, IsTypedLasting, IsWellFormed}
use Rattle.cpt_domain_spelling.specs.Spelling.{action_nest, conditions_nest, domain_nest, duration_nest, effects_nest, parameters_of, plain_action_nest, signatures_nest, terms_nest, typed_nest}

-- a typed list that says different names with their types, each of one of these types, is read as them
abbrev pub TypedListsReadBack : Type 0
TypedListsReadBack =
    (sort : Sort) (types names : List (List ℕ)) (kinds : List ℕ) (items : Items) → AreDistinct types → AreDifferent names → All (λ w. fits_sort sort w ≡ true) names →
    AreTyped (most sort) (length types) (record { names = names; kinds = kinds }) → says items ≡ typed_nest types names kinds →
    typed_list sort types no_names items ≡ Ok (record { names = names; kinds = kinds })

-- types that are said with their parents, in groups of siblings, are read as they are, with their numbers
abbrev pub TypesReadBack : Type 0
TypesReadBack =
    (section : ℕ) (kinds : Kinds) (groups : List Siblings) (items : Items) → AreDistinct kinds.names → named kinds.names 0 ≡ codes "object" → AreKinds (length kinds.names) kinds.parents →
    IsArranged kinds.parents groups → says items ≡ siblings_nest kinds.names groups → kinds_in section items ≡ Ok kinds

-- predicates that are said with their variables are read as they are
abbrev pub PredicatesReadBack : Type 0
PredicatesReadBack =
    (types : List (List ℕ)) (sigs : Signatures) (items : Items) → AreDistinct types → AreDistinct sigs.names → AreUnreserved sigs.names → AreSignatures (length types) sigs →
    says items ≡ signatures_nest types sigs.names sigs.kinds → predicates_in types no_signatures items ≡ Ok sigs

-- functions that are said with their variables are read as they are
abbrev pub FunctionsReadBack : Type 0
FunctionsReadBack =
    (types : List (List ℕ)) (sigs : Signatures) (items : Items) → AreDistinct types → AreDistinct sigs.names → AreSignatures (length types) sigs →
    says items ≡ signatures_nest types sigs.names sigs.kinds → functions_in types no_signatures items ≡ Ok sigs

-- a predicate or function with its terms, each of the type that is wanted there, is read as it is
abbrev pub TermsReadBack : Type 0
TermsReadBack =
    (d : Declared) (params : List ℕ) (sigs : Signatures) (atom at number : ℕ) (terms : List Term) (items : Items) → HasSpelling d → length params ≤ 16 →
    AreDistinct sigs.names → length sigs.kinds ≡ length sigs.names → IsApplied (length params) (length d.constants.names) sigs.kinds number terms →
    AreOfTypes d params (slice_index_or sigs.kinds number []) terms → says items ≡ terms_nest d terms →
    applied d (parameters_of params) sigs atom at (named sigs.names number) items ≡ Ok (record { pred = number; terms = terms })

-- the conditions of an action are read as they are
abbrev pub ConditionsReadBack : Type 0
ConditionsReadBack =
    (d : Declared) (s : Schema) (at : ℕ) (items : Items) → HasSpelling d → IsSoundOver d s → IsTyped d s → says items ≡ conditions_nest d s →
    condition_in d (parameters_of s.kinds) no_conds at items ≡ Ok (record { pre = s.pre; absent = s.absent; tests = s.tests })

-- the effects at the end of an action are read as the atoms that they add and delete
abbrev pub EffectsReadBack : Type 0
EffectsReadBack =
    (d : Declared) (s : Schema) (at : ℕ) (items : Items) → HasSpelling d → IsSoundOver d s → IsTyped d s →
    says items ≡ name (codes "at") (name (codes "end") (list (effects_nest d s) nothing)) →
    (effs : Effs) × (timed_effect_in d (parameters_of s.kinds) no_effs at items ≡ Ok effs) × (lits_of effs.adds ≡ s.add) × (lits_of effs.dels ≡ s.dele)

-- a duration is read as it is
abbrev pub DurationsReadBack : Type 0
DurationsReadBack =
    (d : Declared) (params : List ℕ) (from : ℕ) (lasting : Lasting) (items : Items) → HasSpelling d → length params ≤ 16 →
    IsLasting (length params) (length d.constants.names) d.functions.kinds lasting → IsTypedLasting d params lasting → says items ≡ duration_nest d lasting →
    duration_in d (parameters_of params) from items ≡ Ok lasting

-- an action is read as it is, where its name is new
abbrev pub ActionsReadBack : Type 0
ActionsReadBack =
    (d : Declared) (s : Schema) (known : List (List ℕ)) (items : Items) → HasSpelling d → IsSoundOver d s → IsTyped d s → is_name s.name ≡ true → place_in known s.name ≡ None →
    says items ≡ action_nest d s → schema_in true d known items ≡ Ok s

-- an action that takes one unit of time is read as it is where it is spelled without a duration
abbrev pub PlainActionsReadBack : Type 0
PlainActionsReadBack =
    (d : Declared) (s : Schema) (known : List (List ℕ)) (items : Items) → HasSpelling d → IsSoundOver d s → IsTyped d s → s.dur ≡ Fixed 1 → is_name s.name ≡ true → place_in known s.name ≡ None →
    says items ≡ plain_action_nest d s → schema_in false d known items ≡ Ok s

-- a parsed text that says the spelling of a domain is read as this domain, wherever its words and groups stand
abbrev pub DomainsReadBack : Type 0
DomainsReadBack =
    (d : Domain) (groups : List Siblings) (forest : ForestShape) → IsSpellable d groups → nest_of forest.text forest.trees ≡ domain_nest d groups → domain_of forest ≡ Ok d

-- each action that is read, durative or not, is typed
abbrev pub ReadActionsAreTyped : Type 0
ReadActionsAreTyped =
    (durative : Bool) (d : Declared) (known : List (List ℕ)) (items : Items) (s : Schema) → AreUnreserved d.predicates.names → schema_in durative d known items ≡ Ok s → IsTyped d s

-- each domain that is read is well formed
abbrev pub ReadDomainsAreWellFormed : Type 0
ReadDomainsAreWellFormed = (d : Domain) (forest : ForestShape) → domain_of forest ≡ Ok d → IsWellFormed d

-- the types that are read stand in some groups of siblings, and are numbered by their first places
abbrev pub ReadTypesAreArranged : Type 0
ReadTypesAreArranged = (section : ℕ) (items : Items) (kinds : Kinds) → kinds_in section items ≡ Ok kinds → (groups : List Siblings) × IsArranged kinds.parents groups

-- each sound domain that is read has a spelling
abbrev pub ReadDomainsAreSpellable : Type 0
ReadDomainsAreSpellable = (d : Domain) (forest : ForestShape) → IsSound d → domain_of forest ≡ Ok d → (groups : List Siblings) × IsSpellable d groups
