use Rattle.std.proofs.Common.{◌≡◌, ℕ, ◌<◌, ◌≤◌, ◌+◌, ◌++◌, ◌∷◌, [], Bool, true, false, List, length, All, arith}
use Rattle.std.specs.Prelude.{nat_le, Result, Ok, Err}
use Rattle.std.proofs.lemmas.Bool.Decides.{nat_tests}
use Rattle.cpt_pddl.specs.declared.fault.Feature.TheVariants as features
use Rattle.cpt_pddl.specs.declared.fault.Fault.{Fault}
use Rattle.cpt_pddl.specs.declared.fault.Fault.TheVariants as faults
use Rattle.cpt_pddl.specs.declared.typed.Typed.{Typed}
use Rattle.cpt_pddl.specs.declared.words.Head.{Head}
use Rattle.cpt_pddl.specs.declared.words.Head.TheVariants.{And, Not, Equal, At, Over, Untaken, Numeric, Other}
use Rattle.cpt_pddl.specs.Faults.{◌>>=◌}
use Rattle.cpt_pddl.specs.Items.{Items, end, word, group}
use Rattle.cpt_pddl.specs.Reading.{group_at, nothing}
use Rattle.cpt_pddl.specs.Words.{head_of}
use Rattle.cpt_declared.specs.declared.declared.Declared.{Declared}
use Rattle.cpt_schema.specs.declared.conditions.Test.{Test}
use Rattle.cpt_schema.specs.declared.terms.Lit.{Lit}
use Rattle.cpt_schema.specs.declared.terms.Term.{Term}
use Rattle.cpt_schema.specs.Conditions.{Conds, absent_atom, after_all, after_moment, at_moment, condition_by, condition_in, conditions_in, equation, has_group_side, is_full, negated, negated_by, negated_group, over_all, present, tagged, term_next, timed_by, timed_condition_in, timed_conditions_in, two_terms}
use Rattle.cpt_schema.specs.Terms.{atom_in, term_at}
use Rattle.cpt_domain.specs.SoundSchemas.{IsLit, IsTest}
use Rattle.cpt_domain.proofs.TermSoundness.{TermOf, atom_sound, term_sound}
use Rattle.cpt_domain.proofs.Tools.{Holds, all_end, holds_any, holds_bind, holds_if, length_end}

-- an atom of a schema with these parameters
abbrev pub LitOf : Declared → Typed → Lit → Type 0
LitOf d params lit = IsLit (length params.names) (length d.constants.names) d.predicates.kinds lit

abbrev pub TestOf : Declared → Typed → Test → Type 0
TestOf d params test = IsTest (length params.names) (length d.constants.names) test

-- the conditions so far are sound
pub record SoundConds (d : Declared) (params : Typed) (c : Conds) : Type 0 where
  pub pre : All (LitOf d params) c.pre
  pub absent : All (LitOf d params) c.absent
  pub tests : All (TestOf d params) c.tests
  pub few : length c.pre + length c.absent ≤ 64

-- each predicate has its variables
abbrev pub HasKinds : Declared → Type 0
HasKinds d = length d.predicates.kinds ≡ length d.predicates.names

le_false : (a b : ℕ) → nat_le a b ≡ false → b < a
le_false a b h = grind (arith, nat_tests)

present_sound : (d : Declared) (params : Typed) (c : Conds) (atom at : ℕ) (w : List ℕ) (rest : Items) → HasKinds d → SoundConds d params c → Holds (SoundConds d params) (present d params c atom at w rest)
unfolding present
present_sound d params c atom at w rest e h =
    holds_bind (λ lit. LitOf d params lit × (is_full c ≡ false)) (SoundConds d params) (atom_in d params (is_full c) atom at w rest) (λ lit. Ok (record c { pre = c.pre ++ lit ∷ [] }))
    (atom_sound d params (is_full c) atom at w rest e)
    (λ lit k. record {
      pre = all_end (LitOf d params) c.pre lit h.pre k.0;
      absent = h.absent;
      tests = h.tests;
      few = let n = length_end c.pre lit in let lt = le_false 64 (length c.pre + length c.absent) k.1 in omega (arith, n, lt);
    })

absent_sound : (d : Declared) (params : Typed) (c : Conds) (atom at : ℕ) (w : List ℕ) (rest : Items) → HasKinds d → SoundConds d params c → Holds (SoundConds d params) (absent_atom d params c atom at w rest)
unfolding absent_atom
absent_sound d params c atom at w rest e h =
    holds_bind (λ lit. LitOf d params lit × (is_full c ≡ false)) (SoundConds d params) (atom_in d params (is_full c) atom at w rest) (λ lit. Ok (record c { absent = c.absent ++ lit ∷ [] }))
    (atom_sound d params (is_full c) atom at w rest e)
    (λ lit k. record {
      pre = h.pre;
      absent = all_end (LitOf d params) c.absent lit h.absent k.0;
      tests = h.tests;
      few = let n = length_end c.absent lit in let lt = le_false 64 (length c.pre + length c.absent) k.1 in omega (arith, n, lt);
    })

next_sound : (d : Declared) (params : Typed) (items : Items) → Holds (λ x. TermOf d params x.0) (term_next d params items)
next_sound d params (end close) = tt
next_sound d params (word at w rest) =
    holds_bind (λ x. TermOf d params x.0) (λ (x : Term × Items). TermOf d params x.0) (term_at d params at w) (λ found. Ok (found.0, rest)) (term_sound d params at w) (λ x k. k)
next_sound d params (group at inside rest) = tt

two_sound : (d : Declared) (params : Typed) (c : Conds) (equal : Bool) (items : Items) → SoundConds d params c → Holds (SoundConds d params) (two_terms d params c equal items)
unfolding two_terms
two_sound d params c equal items h =
    holds_bind (λ (x : Term × Items). TermOf d params x.0) (SoundConds d params) (term_next d params items) _ (next_sound d params items)
    (λ x k. holds_bind (λ (y : Term × Items). TermOf d params y.0) (SoundConds d params) (term_next d params x.1) _ (next_sound d params x.1)
    (λ y l. holds_bind (λ _. Unit {0}) (SoundConds d params) (nothing y.1) (λ _. Ok (record c { tests = c.tests ++ record { left = x.0; right = y.0; equal = equal } ∷ [] })) (holds_any (nothing y.1))
    (λ _ _. record {
      pre = h.pre;
      absent = h.absent;
      tests = all_end (TestOf d params) c.tests (record { left = x.0; right = y.0; equal = equal }) h.tests (record { on_left = k; on_right = l });
      few = h.few;
    })))

equation_sound : (d : Declared) (params : Typed) (c : Conds) (at : ℕ) (equal : Bool) (items : Items) → SoundConds d params c → Holds (SoundConds d params) (equation d params c at equal items)
unfolding equation
equation_sound d params c at equal items h =
    holds_if (SoundConds d params) (has_group_side items) (Err (faults.Feature features.Numeric at)) (two_terms d params c equal items) (λ _. tt) (λ _. two_sound d params c equal items h)

negated_by_sound : (d : Declared) (params : Typed) (c : Conds) (not_at atom at : ℕ) (w : List ℕ) (rest : Items) (head : Head) → HasKinds d → SoundConds d params c
    → Holds (SoundConds d params) (negated_by d params c not_at atom at w rest head)
negated_by_sound d params c not_at atom at w rest And e h = tt
negated_by_sound d params c not_at atom at w rest Not e h = tt
negated_by_sound d params c not_at atom at w rest Equal e h = equation_sound d params c atom false rest h
negated_by_sound d params c not_at atom at w rest At e h = absent_sound d params c atom at w rest e h
negated_by_sound d params c not_at atom at w rest Over e h = absent_sound d params c atom at w rest e h
negated_by_sound d params c not_at atom at w rest (Untaken which) e h = tt
negated_by_sound d params c not_at atom at w rest Numeric e h = absent_sound d params c atom at w rest e h
negated_by_sound d params c not_at atom at w rest Other e h = absent_sound d params c atom at w rest e h

negated_group_sound : (d : Declared) (params : Typed) (c : Conds) (not_at atom : ℕ) (items : Items) → HasKinds d → SoundConds d params c
    → Holds (SoundConds d params) (negated_group d params c not_at atom items)
negated_group_sound d params c not_at atom (end close) e h = tt
negated_group_sound d params c not_at atom (word at w rest) e h = negated_by_sound d params c not_at atom at w rest (head_of w) e h
negated_group_sound d params c not_at atom (group at inside rest) e h = tt

-- what is read of a group, and nothing behind it
pub grouped : {A : Type 0} → (P : A → Type 0) (f : ℕ → Items → Result A Fault) (items : Items) → ((at : ℕ) (inside : Items) → Holds P (f at inside))
    → Holds P (group_at items >>= (λ found. f found.0 found.1 >>= (λ more. nothing found.2 >>= (λ _. Ok more))))
grouped P f items h =
    holds_bind (λ _. Unit {0}) P (group_at items) _ (holds_any (group_at items))
    (λ found _. holds_bind P P (f found.0 found.1) (λ more. nothing found.2 >>= (λ _. Ok more)) (h found.0 found.1)
    (λ more k. holds_bind (λ _. Unit {0}) P (nothing found.2) (λ _. Ok more) (holds_any (nothing found.2)) (λ _ _. k)))

negated_sound : (d : Declared) (params : Typed) (c : Conds) (not_at : ℕ) (items : Items) → HasKinds d → SoundConds d params c → Holds (SoundConds d params) (negated d params c not_at items)
unfolding negated
negated_sound d params c not_at items e h =
    grouped (SoundConds d params) (λ at inside. negated_group d params c not_at at inside) items (λ at inside. negated_group_sound d params c not_at at inside e h)

by_sound : (d : Declared) (params : Typed) (c : Conds) (atom at : ℕ) (w : List ℕ) (rest : Items) (all : Result Conds Fault) (head : Head) → HasKinds d → SoundConds d params c
    → Holds (SoundConds d params) all → Holds (SoundConds d params) (condition_by d params c atom at w rest all head)
by_sound d params c atom at w rest all And e h k = k
by_sound d params c atom at w rest all Not e h k = negated_sound d params c atom rest e h
by_sound d params c atom at w rest all Equal e h k = equation_sound d params c atom true rest h
by_sound d params c atom at w rest all At e h k = present_sound d params c atom at w rest e h
by_sound d params c atom at w rest all Over e h k = present_sound d params c atom at w rest e h
by_sound d params c atom at w rest all (Untaken which) e h k = tt
by_sound d params c atom at w rest all Numeric e h k = tt
by_sound d params c atom at w rest all Other e h k = present_sound d params c atom at w rest e h

mutual
  conditions_sound : (d : Declared) (params : Typed) (c : Conds) (items : Items) → HasKinds d → SoundConds d params c → Holds (SoundConds d params) (conditions_in d params c items)
  conditions_sound d params c (end close) e h = h
  conditions_sound d params c (word at w rest) e h = tt
  conditions_sound d params c (group atom inside rest) e h =
      holds_bind (SoundConds d params) (SoundConds d params) (condition_in d params c atom inside) (λ more. conditions_in d params more rest)
      (condition_sound d params c atom inside e h) (λ more k. conditions_sound d params more rest e k)

  -- a condition keeps the conditions sound
  pub condition_sound : (d : Declared) (params : Typed) (c : Conds) (atom : ℕ) (items : Items) → HasKinds d → SoundConds d params c → Holds (SoundConds d params) (condition_in d params c atom items)
  condition_sound d params c atom (end close) e h = h
  condition_sound d params c atom (word at w within) e h =
      by_sound d params c atom at w within (conditions_in d params c within) (head_of w) e h (conditions_sound d params c within e h)
  condition_sound d params c atom (group at inside within) e h = tt

tagged_sound : (d : Declared) (params : Typed) (c : Conds) (items : Items) → HasKinds d → SoundConds d params c → Holds (SoundConds d params) (tagged d params c items)
unfolding tagged
tagged_sound d params c items e h = grouped (SoundConds d params) (λ at inside. condition_in d params c at inside) items (λ at inside. condition_sound d params c at inside e h)

moment_sound : (d : Declared) (params : Typed) (c : Conds) (items : Items) → HasKinds d → SoundConds d params c → Holds (SoundConds d params) (at_moment d params c items)
unfolding at_moment
moment_sound d params c items e h =
    holds_bind (λ _. Unit {0}) (SoundConds d params) (after_moment items) (λ next. tagged d params c next) (holds_any (after_moment items)) (λ next _. tagged_sound d params c next e h)

over_sound : (d : Declared) (params : Typed) (c : Conds) (items : Items) → HasKinds d → SoundConds d params c → Holds (SoundConds d params) (over_all d params c items)
unfolding over_all
over_sound d params c items e h =
    holds_bind (λ _. Unit {0}) (SoundConds d params) (after_all items) (λ next. tagged d params c next) (holds_any (after_all items)) (λ next _. tagged_sound d params c next e h)

timed_by_sound : (d : Declared) (params : Typed) (c : Conds) (atom at : ℕ) (rest : Items) (all : Result Conds Fault) (head : Head) → HasKinds d → SoundConds d params c
    → Holds (SoundConds d params) all → Holds (SoundConds d params) (timed_by d params c atom at rest all head)
timed_by_sound d params c atom at rest all And e h k = k
timed_by_sound d params c atom at rest all Not e h k = tt
timed_by_sound d params c atom at rest all Equal e h k = tt
timed_by_sound d params c atom at rest all At e h k = moment_sound d params c rest e h
timed_by_sound d params c atom at rest all Over e h k = over_sound d params c rest e h
timed_by_sound d params c atom at rest all (Untaken which) e h k = tt
timed_by_sound d params c atom at rest all Numeric e h k = tt
timed_by_sound d params c atom at rest all Other e h k = tt

mutual
  timed_conditions_sound : (d : Declared) (params : Typed) (c : Conds) (items : Items) → HasKinds d → SoundConds d params c → Holds (SoundConds d params) (timed_conditions_in d params c items)
  timed_conditions_sound d params c (end close) e h = h
  timed_conditions_sound d params c (word at w rest) e h = tt
  timed_conditions_sound d params c (group atom inside rest) e h =
      holds_bind (SoundConds d params) (SoundConds d params) (timed_condition_in d params c atom inside) (λ more. timed_conditions_in d params more rest)
      (timed_condition_sound d params c atom inside e h) (λ more k. timed_conditions_sound d params more rest e k)

  -- a tagged condition keeps the conditions sound
  pub timed_condition_sound : (d : Declared) (params : Typed) (c : Conds) (atom : ℕ) (items : Items) → HasKinds d → SoundConds d params c → Holds (SoundConds d params) (timed_condition_in d params c atom items)
  timed_condition_sound d params c atom (end close) e h = h
  timed_condition_sound d params c atom (word at w within) e h =
      timed_by_sound d params c atom at within (timed_conditions_in d params c within) (head_of w) e h (timed_conditions_sound d params c within e h)
  timed_condition_sound d params c atom (group at inside within) e h = tt
