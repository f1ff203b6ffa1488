use Rattle.std.proofs.Common.{◌≡◌, ℕ, ◌+◌, ◌<◌, ◌≤◌, ◌++◌, ◌∷◌, [], Bool, true, false, List, length, All, refl, ap, ◌∙◌, sym, arith}
use Rattle.std.specs.Prelude.{Result, Ok, codes}
use Rattle.std.proofs.lemmas.Bool.{lt-leb}
use Rattle.std.proofs.lemmas.List.{append-nil, append_assoc, length-append}
use Rattle.std.proofs.lemmas.List.Elements.{All-head, All-tail}
use Rattle.cpt_sexp.specs.Printing.{Nest}
use Rattle.cpt_sexp.specs.Printing as nest
use Rattle.cpt_pddl.specs.declared.fault.Fault.{Fault}
use Rattle.cpt_pddl.specs.declared.words.Head.{Head}
use Rattle.cpt_pddl.specs.declared.words.Head.TheVariants.{And, Not, Equal, At, Over, Untaken, Numeric, Other}
use Rattle.cpt_pddl.specs.declared.typed.Typed.{Typed}
use Rattle.cpt_pddl.specs.Items.{Items, end, word}
use Rattle.cpt_pddl.specs.Reading.{group_at, nothing}
use Rattle.cpt_pddl.specs.Words.{head_of}
use Rattle.cpt_declared.specs.Signatures.{is_reserved}
use Rattle.cpt_declared.specs.declared.declared.Declared.{Declared}
use Rattle.cpt_schema.specs.declared.conditions.Test.{Test}
use Rattle.cpt_schema.specs.declared.schemas.Schema.{Schema}
use Rattle.cpt_schema.specs.declared.terms.Lit.{Lit}
use Rattle.cpt_schema.specs.Conditions.{Conds, absent_atom, after_all, condition_by, condition_in, conditions_in, equation, is_full, negated, negated_by, negated_group, over_all, present, tagged, timed_by, timed_condition_in, two_terms}
use Rattle.cpt_schema.specs.Schemas.{no_conds}
use Rattle.cpt_domain.specs.SoundSchemas.{IsTest}
use Rattle.cpt_domain_spelling.specs.Saying.{says}
use Rattle.cpt_domain_spelling.specs.Spellable.{HasSpelling, IsFreeAtom, IsSoundOver, IsTyped, is_free}
use Rattle.cpt_domain_spelling.specs.Names.{named}
use Rattle.cpt_domain_spelling.specs.Spelling.{atom_nest, atoms_then, conditions_nest, equation_nest, parameters_of, signed_nest, term_word, tests_nest}
use Rattle.cpt_domain_spelling.proofs.ItemLemmas.{bound, end_there, group_there, word_there}
use Rattle.cpt_domain_spelling.proofs.TermLemmas.{AtomOf, atom_back, term_back}

-- the words of the language
pub head_and : head_of (codes "and") ≡ And
unfolding head_of
head_and = refl

pub head_not : head_of (codes "not") ≡ Not
unfolding head_of
head_not = refl

head_equal : head_of (codes "=") ≡ Equal
unfolding head_of
head_equal = refl

head_over : head_of (codes "over") ≡ Over
unfolding head_of
head_over = refl

abbrev conds : List Lit → List Lit → List Test → Conds
conds pre absent tests = record { pre = pre; absent = absent; tests = tests }

-- the name of a predicate begins an atom
present_by : (d : Declared) (params : Typed) (c : Conds) (atom at : ℕ) (bytes : List ℕ) (rest : Items) (all : Result Conds Fault) (h : Head) → is_free h ≡ true
    → condition_by d params c atom at bytes rest all h ≡ present d params c atom at bytes rest
present_by d params c atom at bytes rest all And e = cc
present_by d params c atom at bytes rest all Not e = cc
present_by d params c atom at bytes rest all Equal e = cc
present_by d params c atom at bytes rest all At e = refl
present_by d params c atom at bytes rest all Over e = cc
present_by d params c atom at bytes rest all (Untaken which) e = cc
present_by d params c atom at bytes rest all Numeric e = cc
present_by d params c atom at bytes rest all Other e = refl

absent_by : (d : Declared) (params : Typed) (c : Conds) (not_at atom at : ℕ) (bytes : List ℕ) (rest : Items) (h : Head) → is_reserved h ≡ false
    → negated_by d params c not_at atom at bytes rest h ≡ absent_atom d params c atom at bytes rest
absent_by d params c not_at atom at bytes rest And e = cc
absent_by d params c not_at atom at bytes rest Not e = cc
absent_by d params c not_at atom at bytes rest Equal e = cc
absent_by d params c not_at atom at bytes rest At e = refl
absent_by d params c not_at atom at bytes rest Over e = refl
absent_by d params c not_at atom at bytes rest (Untaken which) e = cc
absent_by d params c not_at atom at bytes rest Numeric e = refl
absent_by d params c not_at atom at bytes rest Other e = refl

predicate_unreserved : (d : Declared) (params : List ℕ) (lit : Lit) → HasSpelling d → AtomOf d params lit → is_reserved (head_of (named d.predicates.names lit.pred)) ≡ false
predicate_unreserved d params lit h a =
    let lt = a.sound.known in
    let lengths = h.sound.predicates.lengths in
    h.unreserved lit.pred [] (omega (arith, lt, lengths))

module _ (d : Declared) (params : List ℕ) (h : HasSpelling d) (few : length params ≤ 16) where
  -- an atom that is to be there
  present_back : (c : Conds) (at : ℕ) (lit : Lit) (items : Items) → AtomOf d params lit → IsFreeAtom d lit → length c.pre + length c.absent < 64 → says items ≡ atom_nest d lit
      → condition_in d (parameters_of params) c at items ≡ Ok (conds (c.pre ++ lit ∷ []) c.absent c.tests)
  unfolding present
  present_back c at lit items a free room said =
      let w = word_there items (named d.predicates.names lit.pred) _ said in
      ap (condition_in d (parameters_of params) c at) w.is
      ∙ present_by d (parameters_of params) c at w.at (named d.predicates.names lit.pred) w.more _ (head_of (named d.predicates.names lit.pred)) free
      ∙ bound _ (atom_back d params (is_full c) at w.at lit w.more h few (lt-leb 64 (length c.pre + length c.absent) room) a w.said) refl

  -- an atom that is to be absent
  absent_back : (c : Conds) (at : ℕ) (lit : Lit) (items : Items) → AtomOf d params lit → length c.pre + length c.absent < 64 → says items ≡ signed_nest false (atom_nest d lit)
      → condition_in d (parameters_of params) c at items ≡ Ok (conds c.pre (c.absent ++ lit ∷ []) c.tests)
  unfolding negated absent_atom
  absent_back c at lit items a room said =
      let w = word_there items (codes "not") _ said in
      let g = group_there w.more _ _ w.said in
      let p = word_there g.inside (named d.predicates.names lit.pred) _ g.within in
      let last = end_there g.more g.said in
      ap (condition_in d (parameters_of params) c at) w.is
      ∙ ap (condition_by d (parameters_of params) c at w.at (codes "not") w.more (conditions_in d (parameters_of params) c w.more)) head_not
      ∙ bound _ (ap group_at g.is)
      (bound _ (ap (negated_group d (parameters_of params) c at g.at) p.is
      ∙ absent_by d (parameters_of params) c at g.at p.at (named d.predicates.names lit.pred) p.more (head_of (named d.predicates.names lit.pred)) (predicate_unreserved d params lit h a)
      ∙ bound _ (atom_back d params (is_full c) g.at p.at lit p.more h few (lt-leb 64 (length c.pre + length c.absent) room) a p.said) refl)
      (bound _ (ap nothing last.is) refl))

  -- two terms that are to be one, or not
  equation_back : (c : Conds) (at : ℕ) (equal : Bool) (test : Test) (items : Items) → IsTest (length params) (length d.constants.names) test
      → says items ≡ nest.name (term_word d test.left) (nest.name (term_word d test.right) nest.nothing)
      → equation d (parameters_of params) c at equal items ≡ Ok (conds c.pre c.absent (c.tests ++ record { left = test.left; right = test.right; equal = equal } ∷ []))
  unfolding equation two_terms
  equation_back c at equal test items t said =
      let a = word_there items (term_word d test.left) _ said in
      let b = word_there a.more (term_word d test.right) _ a.said in
      let last = end_there b.more b.said in
      let shown : items ≡ word a.at (term_word d test.left) (word b.at (term_word d test.right) (end last.close)) =
      a.is ∙ ap (word a.at (term_word d test.left)) (b.is ∙ ap (word b.at (term_word d test.right)) last.is) in
      ap (equation d (parameters_of params) c at equal) shown
      ∙ bound _ (bound _ (term_back d params a.at test.left h few t.on_left) refl)
      (bound _ (bound _ (term_back d params b.at test.right h few t.on_right) refl) refl)

  test_back : (c : Conds) (at : ℕ) (equal : Bool) (test : Test) (items : Items) → IsTest (length params) (length d.constants.names) test → says items ≡ signed_nest equal (equation_nest d test)
      → condition_in d (parameters_of params) c at items ≡ Ok (conds c.pre c.absent (c.tests ++ record { left = test.left; right = test.right; equal = equal } ∷ []))
  unfolding negated
  test_back c at true test items t said =
      let w = word_there items (codes "=") _ said in
      ap (condition_in d (parameters_of params) c at) w.is
      ∙ ap (condition_by d (parameters_of params) c at w.at (codes "=") w.more (conditions_in d (parameters_of params) c w.more)) head_equal
      ∙ equation_back c at true test w.more t w.said
  test_back c at false test items t said =
      let w = word_there items (codes "not") _ said in
      let g = group_there w.more _ _ w.said in
      let p = word_there g.inside (codes "=") _ g.within in
      let last = end_there g.more g.said in
      ap (condition_in d (parameters_of params) c at) w.is
      ∙ ap (condition_by d (parameters_of params) c at w.at (codes "not") w.more (conditions_in d (parameters_of params) c w.more)) head_not
      ∙ bound _ (ap group_at g.is)
      (bound _ (ap (negated_group d (parameters_of params) c at g.at) p.is
      ∙ ap (negated_by d (parameters_of params) c at g.at p.at (codes "=") p.more) head_equal
      ∙ equation_back c g.at false test p.more t p.said)
      (bound _ (ap nothing last.is) refl))

  -- atoms that are to be there, and then the rest
  presents_back : (lits all pre absent : List Lit) (tests : List Test) (items : Items) (rest : Nest) (r : Result Conds Fault) → All (AtomOf d params) lits → All (IsFreeAtom d) lits → all ≡ pre ++ lits
      → length all + length absent ≤ 64 → says items ≡ atoms_then true d lits rest
      → ((more : Items) → says more ≡ rest → conditions_in d (parameters_of params) (conds all absent tests) more ≡ r) → conditions_in d (parameters_of params) (conds pre absent tests) items ≡ r
  presents_back [] all pre absent tests items rest r a free e room said go =
      ap (λ p. conditions_in d (parameters_of params) (conds p absent tests) items) (sym (append-nil pre) ∙ sym e) ∙ go items said
  presents_back (lit ∷ lits) all pre absent tests items rest r a free e room said go =
      let g = group_there items _ _ said in
      let total = ap length e in
      let long = length-append pre (lit ∷ lits) in
      ap (conditions_in d (parameters_of params) (conds pre absent tests)) g.is
      ∙ bound _ (present_back (conds pre absent tests) g.at lit g.inside (All-head (AtomOf d params) lit lits a) (All-head (IsFreeAtom d) lit lits free) (omega (arith, total, long, room)) g.within)
      (presents_back lits all (pre ++ lit ∷ []) absent tests g.more rest r (All-tail (AtomOf d params) lit lits a) (All-tail (IsFreeAtom d) lit lits free) (e ∙ sym (append_assoc pre (lit ∷ []) lits)) room g.said go)

  -- atoms that are to be absent, and then the rest
  absents_back : (lits all pre absent : List Lit) (tests : List Test) (items : Items) (rest : Nest) (r : Result Conds Fault) → All (AtomOf d params) lits → all ≡ absent ++ lits
      → length pre + length all ≤ 64 → says items ≡ atoms_then false d lits rest
      → ((more : Items) → says more ≡ rest → conditions_in d (parameters_of params) (conds pre all tests) more ≡ r) → conditions_in d (parameters_of params) (conds pre absent tests) items ≡ r
  absents_back [] all pre absent tests items rest r a e room said go =
      ap (λ p. conditions_in d (parameters_of params) (conds pre p tests) items) (sym (append-nil absent) ∙ sym e) ∙ go items said
  absents_back (lit ∷ lits) all pre absent tests items rest r a e room said go =
      let g = group_there items _ _ said in
      let total = ap length e in
      let long = length-append absent (lit ∷ lits) in
      ap (conditions_in d (parameters_of params) (conds pre absent tests)) g.is
      ∙ bound _ (absent_back (conds pre absent tests) g.at lit g.inside (All-head (AtomOf d params) lit lits a) (omega (arith, total, long, room)) g.within)
      (absents_back lits all pre (absent ++ lit ∷ []) tests g.more rest r (All-tail (AtomOf d params) lit lits a) (e ∙ sym (append_assoc absent (lit ∷ []) lits)) room g.said go)

  -- tests, to the end
  tests_back : (more all tests : List Test) (pre absent : List Lit) (items : Items) → All (IsTest (length params) (length d.constants.names)) more → all ≡ tests ++ more
      → says items ≡ tests_nest d more → conditions_in d (parameters_of params) (conds pre absent tests) items ≡ Ok (conds pre absent all)
  tests_back [] all tests pre absent items t e said =
      let last = end_there items said in
      ap (conditions_in d (parameters_of params) (conds pre absent tests)) last.is ∙ ap (λ ts. Ok (conds pre absent ts)) (sym (append-nil tests) ∙ sym e)
  tests_back (test ∷ more) all tests pre absent items t e said =
      let g = group_there items _ _ said in
      ap (conditions_in d (parameters_of params) (conds pre absent tests)) g.is
      ∙ bound _ (test_back (conds pre absent tests) g.at test.equal test g.inside (All-head (IsTest (length params) (length d.constants.names)) test more t) g.within)
      (tests_back more all (tests ++ test ∷ []) pre absent g.more (All-tail (IsTest (length params) (length d.constants.names)) test more t) (e ∙ sym (append_assoc tests (test ∷ []) more)) g.said)

-- the conditions of an action are read as they are
pub conditions_back : (d : Declared) (s : Schema) (at : ℕ) (items : Items) → HasSpelling d → IsSoundOver d s → IsTyped d s → says items ≡ conditions_nest d s
    → condition_in d (parameters_of s.kinds) no_conds at items ≡ Ok (conds s.pre s.absent s.tests)
conditions_back d s at items h sound typed said =
    let w = word_there items (codes "and") _ said in
    let few = sound.kinds.few in
    let room = sound.few_conditions in
    ap (condition_in d (parameters_of s.kinds) no_conds at) w.is
    ∙ ap (condition_by d (parameters_of s.kinds) no_conds at w.at (codes "and") w.more (conditions_in d (parameters_of s.kinds) no_conds w.more)) head_and
    ∙ presents_back d s.kinds h few s.pre s.pre [] [] [] w.more _ _ (λ k x lt. record { sound = sound.pre k x lt; typed = typed.pre k x lt }) typed.free_pre refl (omega (arith, room)) w.said
    (λ next e. absents_back d s.kinds h few s.absent s.absent s.pre [] [] next _ _ (λ k x lt. record { sound = sound.absent k x lt; typed = typed.absent k x lt }) refl room e
    (λ last f. tests_back d s.kinds h few s.tests s.tests [] s.pre s.absent last sound.tests refl f))

-- the conditions that hold over all of an action are read as they are
pub timed_back : (d : Declared) (s : Schema) (at : ℕ) (items : Items) → HasSpelling d → IsSoundOver d s → IsTyped d s
    → says items ≡ nest.name (codes "over") (nest.name (codes "all") (nest.list (conditions_nest d s) nest.nothing))
    → timed_condition_in d (parameters_of s.kinds) no_conds at items ≡ Ok (conds s.pre s.absent s.tests)
unfolding over_all tagged
timed_back d s at items h sound typed said =
    let w = word_there items (codes "over") _ said in
    let v = word_there w.more (codes "all") _ w.said in
    let g = group_there v.more _ _ v.said in
    let last = end_there g.more g.said in
    ap (timed_condition_in d (parameters_of s.kinds) no_conds at) w.is
    ∙ ap (timed_by d (parameters_of s.kinds) no_conds at w.at w.more _) head_over
    ∙ bound _ (ap after_all v.is)
    (bound _ (ap group_at g.is) (bound _ (conditions_back d s g.at g.inside h sound typed g.within) (bound _ (ap nothing last.is) refl)))
