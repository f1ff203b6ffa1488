use Rattle.std.proofs.Common.{◌≡◌, ℕ, suc, ◌+◌, ◌<◌, ◌≤◌, ◌^◌, ◌∷◌, [], Bool, true, false, List, length, All, refl, arith}
use Rattle.std.specs.Prelude.{slice_index_or}
use Rattle.std.specs.Fmt.{decimal}
use Rattle.std.proofs.lemmas.Fmt.{decimal_nonempty, digits_decimal}
use Rattle.std.proofs.lemmas.List.Elements.{All-cons, All-head, All-nil, All-tail}
use Rattle.cpt_sexp.specs.Printing.{Nest}
use Rattle.cpt_sexp.specs.Printing as nest
use Rattle.cpt_pddl.specs.Words.{is_name, is_word}
use Rattle.cpt_pddl.proofs.WordLemmas.{name_word}
use Rattle.cpt_declared.specs.declared.declared.Declared.{Declared}
use Rattle.cpt_declared.specs.declared.signatures.Signatures.{Signatures}
use Rattle.cpt_schema.specs.declared.conditions.Test.{Test}
use Rattle.cpt_schema.specs.declared.durations.Lasting.{Lasting}
use Rattle.cpt_schema.specs.declared.durations.Lasting.TheVariants.{Fixed, Value}
use Rattle.cpt_schema.specs.declared.schemas.Schema.{Schema}
use Rattle.cpt_schema.specs.declared.terms.Lit.{Lit}
use Rattle.cpt_schema.specs.declared.terms.Term.{Term}
use Rattle.cpt_schema.specs.declared.terms.Term.TheVariants.{Param, Object}
use Rattle.cpt_domain.specs.declared.domain.Domain.{Domain}
use Rattle.cpt_domain.specs.SoundKinds.{AreBelow, AreVariables}
use Rattle.cpt_domain.specs.SoundSchemas.{IsApplied, IsLasting, IsLit, IsTest}
use Rattle.cpt_domain_spelling.specs.Spellable.{AreNames, HasSpelling, IsSoundOver, IsSpellable}
use Rattle.cpt_domain_spelling.specs.Names.{named}
use Rattle.cpt_domain_spelling.specs.Siblings.{AreSiblings, IsArranged, Siblings, names_then, siblings_nest}
use Rattle.cpt_domain_spelling.specs.Spelling.{action_nest, actions_nest, applied_nest, atoms_then, condition_nest, conditions_nest, declared_of, domain_nest, duration_nest, effect_nest, effects_nest, equation_nest, sections_then, signatures_nest, signed_nest, term_word, terms_nest, tests_nest, timing_nest, typed_nest, variable, variables_from, variables_nest}
use Rattle.cpt_domain_spelling.proofs.DomainLemmas.{actions_sound, declared_spelled, names_of}
use Rattle.cpt_domain_spelling.proofs.DurationLemmas.{numerals}
use Rattle.cpt_domain_spelling.proofs.KindLemmas.{parent_there}
use Rattle.cpt_domain_spelling.proofs.TermLemmas.{TermOf}
use Rattle.cpt_domain_spelling.proofs.WrittenLemmas.{Written, digits_bytes, digits_word}

variable_word : (n : ℕ) → n < 2 ^ 64 → is_word (variable n) ≡ true
variable_word n lt = digits_bytes (decimal n) (digits_decimal numerals n lt)

-- the word with a number, among names
named_word : (names : List (List ℕ)) (n : ℕ) → AreNames names → n < length names → is_word (named names n) ≡ true
named_word names n h lt = name_word (named names n) (h n [] lt)

names_words : (names : List (List ℕ)) → AreNames names → All (λ w. is_word w ≡ true) names
names_words names h = λ k x lt. name_word (slice_index_or names k x) (h k x lt)

variables_words : (n : ℕ) (kinds : List ℕ) → n + length kinds ≤ 16 → All (λ w. is_word w ≡ true) (variables_from n kinds)
variables_words n [] h = All-nil (λ w. is_word w ≡ true)
variables_words n (kind ∷ kinds) h =
    All-cons (λ w. is_word w ≡ true) (variable n) (variables_from (n + 1) kinds) (variable_word n (omega (arith, h))) (variables_words (n + 1) kinds (omega arith))

typed_written : (depth : ℕ) (types names : List (List ℕ)) (kinds : List ℕ) → AreNames types → All (λ w. is_word w ≡ true) names → AreBelow (length types) kinds
    → Written depth (typed_nest types names kinds)
typed_written depth types [] kinds t h below = tt
typed_written depth types (w ∷ names) [] t h below = tt
typed_written depth types (w ∷ names) (kind ∷ kinds) t h below = (
  All-head (λ v. is_word v ≡ true) w names h,
  (
    refl,
    (
      named_word types kind t (All-head (λ k. k < length types) kind kinds below),
      typed_written depth types names kinds t (All-tail (λ v. is_word v ≡ true) w names h) (All-tail (λ k. k < length types) kind kinds below),
    ),
  ),
)

variables_written : (depth : ℕ) (types : List (List ℕ)) (kinds : List ℕ) → AreNames types → AreVariables (length types) kinds → Written depth (variables_nest types kinds)
variables_written depth types kinds t h = typed_written depth types (variables_from 0 kinds) kinds t (let few = h.few in variables_words 0 kinds (omega arith)) h.below

signatures_written : (depth : ℕ) (types names kinds : List (List ℕ)) → depth < 64 → AreNames types → AreNames names → All (AreVariables (length types)) kinds
    → Written depth (signatures_nest types names kinds)
signatures_written depth types [] kinds lt t h v = tt
signatures_written depth types (w ∷ names) [] lt t h v = tt
signatures_written depth types (w ∷ names) (k ∷ kinds) lt t h v = (
  lt,
  (name_word w (All-head (λ x. is_name x ≡ true) w names h), variables_written (suc depth) types k t (All-head (AreVariables (length types)) k kinds v)),
  signatures_written depth types names kinds lt t (All-tail (λ x. is_name x ≡ true) w names h) (All-tail (AreVariables (length types)) k kinds v),
)

module _ (d : Declared) (params : List ℕ) (h : HasSpelling d) (few : length params ≤ 16) where
  term_written : (term : Term) → TermOf d params term → is_word (term_word d term) ≡ true
  term_written (Param n) lt = variable_word n (omega (arith, few, lt))
  term_written (Object n) lt = named_word d.constants.names n h.constants.names lt

  terms_written : (depth : ℕ) (terms : List Term) → All (TermOf d params) terms → Written depth (terms_nest d terms)
  terms_written depth [] a = tt
  terms_written depth (term ∷ terms) a = (term_written term (All-head (TermOf d params) term terms a), terms_written depth terms (All-tail (TermOf d params) term terms a))

  applied_written : (depth : ℕ) (sigs : Signatures) (number : ℕ) (terms : List Term) → AreNames sigs.names → length sigs.kinds ≡ length sigs.names
      → IsApplied (length params) (length d.constants.names) sigs.kinds number terms → Written depth (applied_nest d sigs.names number terms)
  applied_written depth sigs number terms names lengths a =
      (named_word sigs.names number names (let lt = a.known in omega (arith, lt, lengths)), terms_written depth terms a.fit)

  signed_written : (depth : ℕ) (positive : Bool) (inside : Nest) → depth < 64 → Written depth inside → Written (suc depth) inside → Written depth (signed_nest positive inside)
  signed_written depth true inside lt a b = a
  signed_written depth false inside lt a b = (refl, (lt, b, tt))

  atoms_written : (depth : ℕ) (positive : Bool) (lits : List Lit) (rest : Nest) → depth + 1 < 64 → All (IsLit (length params) (length d.constants.names) d.predicates.kinds) lits → Written depth rest
      → Written depth (atoms_then positive d lits rest)
  atoms_written depth positive [] rest lt a r = r
  atoms_written depth positive (lit ∷ lits) rest lt a r =
      let first = All-head (IsLit (length params) (length d.constants.names) d.predicates.kinds) lit lits a in
      let there = λ (k : ℕ). applied_written k d.predicates lit.pred lit.terms h.predicates.names h.sound.predicates.lengths first in (
        omega arith,
        signed_written (suc depth) positive _ (omega arith) (there (suc depth)) (there (suc (suc depth))),
        atoms_written depth positive lits rest lt (All-tail (IsLit (length params) (length d.constants.names) d.predicates.kinds) lit lits a) r,
      )

  equation_written : (depth : ℕ) (test : Test) → IsTest (length params) (length d.constants.names) test → Written depth (equation_nest d test)
  equation_written depth test t = (refl, (term_written test.left t.on_left, (term_written test.right t.on_right, tt)))

  tests_written : (depth : ℕ) (tests : List Test) → depth + 1 < 64 → All (IsTest (length params) (length d.constants.names)) tests → Written depth (tests_nest d tests)
  tests_written depth [] lt a = tt
  tests_written depth (test ∷ tests) lt a =
      let first = All-head (IsTest (length params) (length d.constants.names)) test tests a in (
        omega arith,
        signed_written (suc depth) test.equal _ (omega arith) (equation_written (suc depth) test first) (equation_written (suc (suc depth)) test first),
        tests_written depth tests lt (All-tail (IsTest (length params) (length d.constants.names)) test tests a),
      )

  duration_written : (depth : ℕ) (lasting : Lasting) → depth < 64 → IsLasting (length params) (length d.constants.names) d.functions.kinds lasting → Written depth (duration_nest d lasting)
  duration_written depth (Fixed n) lt a =
      let small : n < 2 ^ 64 = omega (arith, a.1) in
      (refl, (refl, (digits_word (decimal n) (decimal_nonempty n small) (digits_decimal numerals n small), tt)))
  duration_written depth (Value func terms) lt a = (refl, (refl, (lt, applied_written (suc depth) d.functions func terms h.functions.names h.sound.functions.lengths a, tt)))

action_written : (d : Declared) (s : Schema) → HasSpelling d → IsSoundOver d s → is_name s.name ≡ true → Written 2 (action_nest d s)
action_written d s h sound own =
    let few = sound.kinds.few in
    let conditions : Written 4 (conditions_nest d s) =
    (refl, atoms_written d s.kinds h few 4 true s.pre _ (omega arith) sound.pre (atoms_written d s.kinds h few 4 false s.absent _ (omega arith) sound.absent (tests_written d s.kinds h few 4 s.tests (omega arith) sound.tests))) in
    let effects : Written 4 (effects_nest d s) =
    (refl, atoms_written d s.kinds h few 4 false s.dele _ (omega arith) sound.dele (atoms_written d s.kinds h few 4 true s.add nest.nothing (omega arith) sound.add tt)) in
    let effect : Written 2 (effect_nest d s) = (refl, (omega arith, (refl, (refl, (omega arith, effects, tt))), tt)) in
    let condition : Written 2 (condition_nest d s) = (refl, (omega arith, (refl, (refl, (omega arith, conditions, tt))), effect)) in
    let timing : Written 2 (timing_nest d s) = (refl, (omega arith, duration_written d s.kinds h few 3 s.dur (omega arith) sound.dur, condition)) in
    (name_word s.name own, (refl, (omega arith, variables_written 3 d.types.names s.kinds h.types.names sound.kinds, timing)))

actions_written : (d : Declared) (schemas : List Schema) → HasSpelling d → All (IsSoundOver d) schemas → AreNames (names_of schemas) → Written 1 (actions_nest d schemas)
actions_written d [] h sound own = tt
actions_written d (s ∷ schemas) h sound own = (
  omega arith,
  (refl, action_written d s h (All-head (IsSoundOver d) s schemas sound) (All-head (λ n. is_name n ≡ true) s.name (names_of schemas) own)),
  actions_written d schemas h (All-tail (IsSoundOver d) s schemas sound) (All-tail (λ n. is_name n ≡ true) s.name (names_of schemas) own),
)

names_written : (depth : ℕ) (types : List (List ℕ)) (kinds : List ℕ) (rest : Nest) → AreNames types → All (λ k. k < length types) kinds → Written depth rest → Written depth (names_then types kinds rest)
names_written depth types [] rest t below r = r
names_written depth types (kind ∷ kinds) rest t below r =
    (named_word types kind t (All-head (λ k. k < length types) kind kinds below), names_written depth types kinds rest t (All-tail (λ k. k < length types) kind kinds below) r)

siblings_written : (depth : ℕ) (types : List (List ℕ)) (parents : List ℕ) (groups : List Siblings) → AreNames types → AreBelow (length types) parents → length parents ≡ length types
    → All (AreSiblings parents) groups → Written depth (siblings_nest types groups)
siblings_written depth types parents [] t below lengths h = tt
siblings_written depth types parents (s ∷ groups) t below lengths h =
    let own = All-head (AreSiblings parents) s groups h in
    names_written depth types s.kinds _ t (λ i x lt. let real = (own.real i x lt).1 in omega (arith, real, lengths))
    (refl, (named_word types s.parent t (parent_there s parents (length types) own below), siblings_written depth types parents groups t below lengths (All-tail (AreSiblings parents) s groups h)))

sections_written : (d : Declared) (groups : List Siblings) (rest : Nest) → HasSpelling d → IsArranged d.types.parents groups → Written 1 rest → Written 1 (sections_then d groups rest)
sections_written d groups rest h arranged r =
    let tree = h.sound.types in (
      omega arith,
      (refl, siblings_written 2 d.types.names d.types.parents groups h.types.names tree.below tree.lengths arranged.siblings),
      (
        omega arith,
        (refl, typed_written 2 d.types.names d.constants.names d.constants.kinds h.types.names (names_words d.constants.names h.constants.names) h.sound.constants.below),
        (
          omega arith,
          (refl, signatures_written 2 d.types.names d.predicates.names d.predicates.kinds (omega arith) h.types.names h.predicates.names h.sound.predicates.variables),
          (omega arith, (refl, signatures_written 2 d.types.names d.functions.names d.functions.kinds (omega arith) h.types.names h.functions.names h.sound.functions.variables), r),
        ),
      ),
    )

-- the spelling of a domain is of words
pub domain_written : (d : Domain) (groups : List Siblings) → IsSpellable d groups → Written 0 (domain_nest d groups)
domain_written d groups h =
    let spelled = declared_spelled d groups h in
    let parts : Written 1 (sections_then (declared_of d) groups (actions_nest (declared_of d) d.schemas)) =
    sections_written (declared_of d) groups (actions_nest (declared_of d) d.schemas) spelled h.arranged (actions_written (declared_of d) d.schemas spelled (actions_sound d groups h) h.formed.actions) in
    (omega arith, (refl, (omega arith, (refl, (name_word d.name h.formed.name, tt)), parts)), tt)
