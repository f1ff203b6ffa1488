use Rattle.std.proofs.Common.{◌≡◌, ℕ, ◌++◌, ◌∷◌, [], Bool, true, false, List, All, refl, ap, ◌∙◌}
use Rattle.std.specs.Prelude.{Result, Ok, Err}
use Rattle.std.proofs.lemmas.List.Elements.{All-push}
use Rattle.cpt_pddl.specs.declared.fault.Feature.TheVariants as features
use Rattle.cpt_pddl.specs.declared.fault.Fault.{Fault}
use Rattle.cpt_pddl.specs.declared.fault.Fault.TheVariants as faults
use Rattle.cpt_pddl.specs.declared.typed.Typed.{Typed}
use Rattle.cpt_pddl.specs.declared.words.Head.{Head}
use Rattle.cpt_pddl.specs.declared.words.Head.TheVariants.{And, Not, Equal, At, Over, Untaken, Numeric, Other}
use Rattle.cpt_pddl.specs.Items.{Items, end, word, group}
use Rattle.cpt_pddl.specs.Reading.{nothing}
use Rattle.cpt_pddl.specs.Words.{head_of}
use Rattle.cpt_declared.specs.declared.declared.Declared.{Declared}
use Rattle.cpt_declared.specs.Signatures.{is_reserved}
use Rattle.cpt_schema.specs.declared.terms.Lit.{Lit}
use Rattle.cpt_schema.specs.Conditions.{Conds, absent_atom, after_all, after_moment, at_moment, condition_by, condition_in, conditions_in, equation, has_group_side, is_full, negated, negated_by, negated_group, over_all, present, tagged, term_next, timed_by, timed_condition_in, timed_conditions_in, two_terms}
use Rattle.cpt_schema.specs.Terms.{atom_in}
use Rattle.cpt_domain_spelling.specs.Spellable.{AreUnreserved, IsFreeAtom, IsTypedAtom, is_free}
use Rattle.cpt_domain_spelling.proofs.HoldsLemmas.{Holds, grouped, holds_after, holds_bind, holds_if}
use Rattle.cpt_domain_spelling.proofs.TermTyping.{AtomRead, atom_typed}

-- a word for numbers
abbrev pub counts : Head → Bool
counts And = false
counts Not = false
counts Equal = false
counts At = false
counts Over = false
counts (Untaken which) = false
counts Numeric = true
counts Other = false

pub free_else : (h : Head) → is_reserved h ≡ false → counts h ≡ false → is_free h ≡ true
free_else And r c = cc
free_else Not r c = cc
free_else Equal r c = cc
free_else At r c = refl
free_else Over r c = cc
free_else (Untaken which) r c = cc
free_else Numeric r c = cc
free_else Other r c = refl

pub free_atom : (d : Declared) (params : List ℕ) (w : List ℕ) (lit : Lit) → AtomRead d params w lit → counts (head_of w) ≡ false → IsFreeAtom d lit
free_atom d params w lit a c = ap (λ v. is_free (head_of v)) a.name ∙ free_else (head_of w) a.unreserved c

-- the conditions so far have terms of the types that are wanted
pub record TypedConds (d : Declared) (params : List ℕ) (c : Conds) : Type 0 where
  pub pre : All (IsTypedAtom d params) c.pre
  pub free : All (IsFreeAtom d) c.pre
  pub absent : All (IsTypedAtom d params) c.absent

module _ (d : Declared) (params : Typed) (u : AreUnreserved d.predicates.names) where
  present_typed : (c : Conds) (atom at : ℕ) (w : List ℕ) (rest : Items) → counts (head_of w) ≡ false → TypedConds d params.kinds c → Holds (TypedConds d params.kinds) (present d params c atom at w rest)
  unfolding present
  present_typed c atom at w rest n h =
      holds_bind (AtomRead d params.kinds w) (TypedConds d params.kinds) (atom_in d params (is_full c) atom at w rest) (λ lit. Ok (record c { pre = c.pre ++ lit ∷ [] }))
      (atom_typed d params (is_full c) atom at w rest u)
      (λ lit a. record {
        pre = All-push (IsTypedAtom d params.kinds) c.pre lit h.pre a.typed;
        free = All-push (IsFreeAtom d) c.pre lit h.free (free_atom d params.kinds w lit a n);
        absent = h.absent;
      })

  absent_typed : (c : Conds) (atom at : ℕ) (w : List ℕ) (rest : Items) → TypedConds d params.kinds c → Holds (TypedConds d params.kinds) (absent_atom d params c atom at w rest)
  unfolding absent_atom
  absent_typed c atom at w rest h =
      holds_bind (AtomRead d params.kinds w) (TypedConds d params.kinds) (atom_in d params (is_full c) atom at w rest) (λ lit. Ok (record c { absent = c.absent ++ lit ∷ [] }))
      (atom_typed d params (is_full c) atom at w rest u)
      (λ lit a. record { pre = h.pre; free = h.free; absent = All-push (IsTypedAtom d params.kinds) c.absent lit h.absent a.typed })

  equation_typed : (c : Conds) (at : ℕ) (equal : Bool) (items : Items) → TypedConds d params.kinds c → Holds (TypedConds d params.kinds) (equation d params c at equal items)
  unfolding equation two_terms
  equation_typed c at equal items h =
      let P : Conds → Type 0 = TypedConds d params.kinds in
      holds_if P (has_group_side items) (Err (faults.Feature features.Numeric at)) (two_terms d params c equal items) (λ _. tt)
      (λ _. holds_after P (term_next d params items) _ (λ left. holds_after P (term_next d params left.1) _ (λ right. holds_after P (nothing right.1) _
      (λ _. record { pre = h.pre; free = h.free; absent = h.absent }))))

  negated_by_typed : (c : Conds) (not_at atom at : ℕ) (w : List ℕ) (rest : Items) (head : Head) → TypedConds d params.kinds c → Holds (TypedConds d params.kinds) (negated_by d params c not_at atom at w rest head)
  negated_by_typed c not_at atom at w rest And h = tt
  negated_by_typed c not_at atom at w rest Not h = tt
  negated_by_typed c not_at atom at w rest Equal h = equation_typed c atom false rest h
  negated_by_typed c not_at atom at w rest At h = absent_typed c atom at w rest h
  negated_by_typed c not_at atom at w rest Over h = absent_typed c atom at w rest h
  negated_by_typed c not_at atom at w rest (Untaken which) h = tt
  negated_by_typed c not_at atom at w rest Numeric h = absent_typed c atom at w rest h
  negated_by_typed c not_at atom at w rest Other h = absent_typed c atom at w rest h

  negated_group_typed : (c : Conds) (not_at atom : ℕ) (items : Items) → TypedConds d params.kinds c → Holds (TypedConds d params.kinds) (negated_group d params c not_at atom items)
  negated_group_typed c not_at atom (end close) h = tt
  negated_group_typed c not_at atom (word at w rest) h = negated_by_typed c not_at atom at w rest (head_of w) h
  negated_group_typed c not_at atom (group at inside rest) h = tt

  negated_typed : (c : Conds) (not_at : ℕ) (items : Items) → TypedConds d params.kinds c → Holds (TypedConds d params.kinds) (negated d params c not_at items)
  unfolding negated
  negated_typed c not_at items h = grouped (TypedConds d params.kinds) (λ at inside. negated_group d params c not_at at inside) items (λ at inside. negated_group_typed c not_at at inside h)

  by_typed : (c : Conds) (atom at : ℕ) (w : List ℕ) (rest : Items) (all : Result Conds Fault) (head : Head) → head_of w ≡ head → TypedConds d params.kinds c → Holds (TypedConds d params.kinds) all
      → Holds (TypedConds d params.kinds) (condition_by d params c atom at w rest all head)
  by_typed c atom at w rest all And e h k = k
  by_typed c atom at w rest all Not e h k = negated_typed c atom rest h
  by_typed c atom at w rest all Equal e h k = equation_typed c atom true rest h
  by_typed c atom at w rest all At e h k = present_typed c atom at w rest (ap counts e) h
  by_typed c atom at w rest all Over e h k = present_typed c atom at w rest (ap counts e) h
  by_typed c atom at w rest all (Untaken which) e h k = tt
  by_typed c atom at w rest all Numeric e h k = tt
  by_typed c atom at w rest all Other e h k = present_typed c atom at w rest (ap counts e) h

  mutual
    conditions_typed : (c : Conds) (items : Items) → TypedConds d params.kinds c → Holds (TypedConds d params.kinds) (conditions_in d params c items)
    conditions_typed c (end close) h = h
    conditions_typed c (word at w rest) h = tt
    conditions_typed c (group atom inside rest) h =
        holds_bind (TypedConds d params.kinds) (TypedConds d params.kinds) (condition_in d params c atom inside) (λ more. conditions_in d params more rest)
        (condition_typed c atom inside h) (λ more k. conditions_typed more rest k)

    -- a condition that is read has terms of the types that are wanted
    pub condition_typed : (c : Conds) (atom : ℕ) (items : Items) → TypedConds d params.kinds c → Holds (TypedConds d params.kinds) (condition_in d params c atom items)
    condition_typed c atom (end close) h = h
    condition_typed c atom (word at w within) h = by_typed c atom at w within (conditions_in d params c within) (head_of w) refl h (conditions_typed c within h)
    condition_typed c atom (group at inside within) h = tt

  tagged_typed : (c : Conds) (items : Items) → TypedConds d params.kinds c → Holds (TypedConds d params.kinds) (tagged d params c items)
  unfolding tagged
  tagged_typed c items h = grouped (TypedConds d params.kinds) (λ at inside. condition_in d params c at inside) items (λ at inside. condition_typed c at inside h)

  moment_typed : (c : Conds) (items : Items) → TypedConds d params.kinds c → Holds (TypedConds d params.kinds) (at_moment d params c items)
  unfolding at_moment
  moment_typed c items h = holds_after (TypedConds d params.kinds) (after_moment items) (λ next. tagged d params c next) (λ next. tagged_typed c next h)

  over_typed : (c : Conds) (items : Items) → TypedConds d params.kinds c → Holds (TypedConds d params.kinds) (over_all d params c items)
  unfolding over_all
  over_typed c items h = holds_after (TypedConds d params.kinds) (after_all items) (λ next. tagged d params c next) (λ next. tagged_typed c next h)

  timed_by_typed : (c : Conds) (atom at : ℕ) (rest : Items) (all : Result Conds Fault) (head : Head) → TypedConds d params.kinds c → Holds (TypedConds d params.kinds) all
      → Holds (TypedConds d params.kinds) (timed_by d params c atom at rest all head)
  timed_by_typed c atom at rest all And h k = k
  timed_by_typed c atom at rest all Not h k = tt
  timed_by_typed c atom at rest all Equal h k = tt
  timed_by_typed c atom at rest all At h k = moment_typed c rest h
  timed_by_typed c atom at rest all Over h k = over_typed c rest h
  timed_by_typed c atom at rest all (Untaken which) h k = tt
  timed_by_typed c atom at rest all Numeric h k = tt
  timed_by_typed c atom at rest all Other h k = tt

  mutual
    timed_conditions_typed : (c : Conds) (items : Items) → TypedConds d params.kinds c → Holds (TypedConds d params.kinds) (timed_conditions_in d params c items)
    timed_conditions_typed c (end close) h = h
    timed_conditions_typed c (word at w rest) h = tt
    timed_conditions_typed c (group atom inside rest) h =
        holds_bind (TypedConds d params.kinds) (TypedConds d params.kinds) (timed_condition_in d params c atom inside) (λ more. timed_conditions_in d params more rest)
        (timed_condition_typed c atom inside h) (λ more k. timed_conditions_typed more rest k)

    -- a tagged condition that is read has terms of the types that are wanted
    pub timed_condition_typed : (c : Conds) (atom : ℕ) (items : Items) → TypedConds d params.kinds c → Holds (TypedConds d params.kinds) (timed_condition_in d params c atom items)
    timed_condition_typed c atom (end close) h = h
    timed_condition_typed c atom (word at w within) h = timed_by_typed c atom at within (timed_conditions_in d params c within) (head_of w) h (timed_conditions_typed c within h)
    timed_condition_typed c atom (group at inside within) h = tt
