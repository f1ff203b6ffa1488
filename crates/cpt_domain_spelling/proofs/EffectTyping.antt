use Rattle.std.proofs.Common.{◌≡◌, ℕ, Bool, true, false, List, length, All, refl, ap}
use Rattle.std.specs.Prelude.{nat_le, Result, Ok, Err}
use Rattle.std.proofs.lemmas.List.Elements.{All-push}
use Rattle.cpt_pddl.specs.declared.fault.Fault.{Fault}
use Rattle.cpt_pddl.specs.declared.fault.Fault.TheVariants as faults
use Rattle.cpt_pddl.specs.declared.typed.Typed.{Typed}
use Rattle.cpt_pddl.specs.declared.words.Head.{Head}
use Rattle.cpt_pddl.specs.declared.words.Head.TheVariants.{And, Not, Equal, At, Over, Untaken, Numeric, Other}
use Rattle.cpt_pddl.specs.Items.{Items, end, word, group}
use Rattle.cpt_pddl.specs.Words.{head_of}
use Rattle.cpt_declared.specs.declared.declared.Declared.{Declared}
use Rattle.cpt_schema.specs.declared.effects.Effect.{Effect}
use Rattle.cpt_schema.specs.declared.effects.Tag.{Tag}
use Rattle.cpt_schema.specs.declared.effects.Tag.TheVariants.{Plain, Start, End}
use Rattle.cpt_schema.specs.declared.terms.Lit.{Lit}
use Rattle.cpt_schema.specs.Effects.{Effs, add_atom, added, delete_atom, delete_group, deleted, deletion, effect_by, effect_in, effects_in, has_marked, tag_next, tagged_effect, timed_effect_by, timed_effect_in, timed_effects_in, with_effect}
use Rattle.cpt_schema.specs.Terms.{atom_in}
use Rattle.cpt_domain_spelling.specs.Spellable.{AreUnreserved, IsFreeAtom, IsTypedAtom}
use Rattle.cpt_domain_spelling.proofs.ConditionTyping.{counts, free_atom}
use Rattle.cpt_domain_spelling.proofs.HoldsLemmas.{Holds, grouped, holds_after, holds_bind, holds_if}
use Rattle.cpt_domain_spelling.proofs.TermTyping.{AtomRead, atom_typed}

-- the atoms of effects
abbrev pub EachLit : (Lit → Type 0) → List Effect → Type 0
EachLit P es = All (λ (e : Effect). P e.lit) es

-- the effects so far have terms of the types that are wanted
pub record TypedEffs (d : Declared) (params : List ℕ) (e : Effs) : Type 0 where
  pub adds : EachLit (IsTypedAtom d params) e.adds
  pub free : EachLit (IsFreeAtom d) e.adds
  pub dels : EachLit (IsTypedAtom d params) e.dels

one_more : (P : Lit → Type 0) (es : List Effect) (lit : Lit) (marked : Bool) → EachLit P es → P lit → EachLit P (with_effect es lit marked)
one_more P es lit marked h k = All-push (λ (e : Effect). P e.lit) es (record { lit = lit; marked = marked }) h k

module _ (d : Declared) (params : Typed) (u : AreUnreserved d.predicates.names) where
  with_added : (marked : Bool) (e : Effs) (lit : Lit) → IsTypedAtom d params.kinds lit → IsFreeAtom d lit → TypedEffs d params.kinds e → TypedEffs d params.kinds (record e { adds = with_effect e.adds lit marked })
  with_added marked e lit t f h = record {
    adds = one_more (IsTypedAtom d params.kinds) e.adds lit marked h.adds t;
    free = one_more (IsFreeAtom d) e.adds lit marked h.free f;
    dels = h.dels;
  }

  with_deleted : (marked : Bool) (e : Effs) (lit : Lit) → IsTypedAtom d params.kinds lit → TypedEffs d params.kinds e → TypedEffs d params.kinds (record e { dels = with_effect e.dels lit marked })
  with_deleted marked e lit t h = record { adds = h.adds; free = h.free; dels = one_more (IsTypedAtom d params.kinds) e.dels lit marked h.dels t }

  added_typed : (tag : Tag) (e : Effs) (lit : Lit) → IsTypedAtom d params.kinds lit → IsFreeAtom d lit → TypedEffs d params.kinds e → Holds (TypedEffs d params.kinds) (added tag e lit)
  added_typed Plain e lit t f h = with_added false e lit t f h
  added_typed (Start at) e lit t f h =
      holds_if (TypedEffs d params.kinds) (has_marked e.dels lit) (Err (faults.Window at)) (Ok (record e { adds = with_effect e.adds lit true })) (λ _. tt) (λ _. with_added true e lit t f h)
  added_typed (End at) e lit t f h = with_added false e lit t f h

  deleted_typed : (tag : Tag) (e : Effs) (lit : Lit) → IsTypedAtom d params.kinds lit → TypedEffs d params.kinds e → Holds (TypedEffs d params.kinds) (deleted tag e lit)
  deleted_typed Plain e lit t h = with_deleted false e lit t h
  deleted_typed (Start at) e lit t h = with_deleted false e lit t h
  deleted_typed (End at) e lit t h =
      holds_if (TypedEffs d params.kinds) (has_marked e.adds lit) (Err (faults.Window at)) (Ok (record e { dels = with_effect e.dels lit true })) (λ _. tt) (λ _. with_deleted true e lit t h)

  add_typed : (tag : Tag) (e : Effs) (atom at : ℕ) (w : List ℕ) (rest : Items) → counts (head_of w) ≡ false → TypedEffs d params.kinds e → Holds (TypedEffs d params.kinds) (add_atom d params tag e atom at w rest)
  unfolding add_atom
  add_typed tag e atom at w rest n h =
      holds_bind (AtomRead d params.kinds w) (TypedEffs d params.kinds) (atom_in d params (nat_le 64 (length e.adds)) atom at w rest) (λ lit. added tag e lit)
      (atom_typed d params (nat_le 64 (length e.adds)) atom at w rest u) (λ lit a. added_typed tag e lit a.typed (free_atom d params.kinds w lit a n) h)

  delete_typed : (tag : Tag) (e : Effs) (atom at : ℕ) (w : List ℕ) (rest : Items) → TypedEffs d params.kinds e → Holds (TypedEffs d params.kinds) (delete_atom d params tag e atom at w rest)
  unfolding delete_atom
  delete_typed tag e atom at w rest h =
      holds_bind (AtomRead d params.kinds w) (TypedEffs d params.kinds) (atom_in d params (nat_le 64 (length e.dels)) atom at w rest) (λ lit. deleted tag e lit)
      (atom_typed d params (nat_le 64 (length e.dels)) atom at w rest u) (λ lit a. deleted_typed tag e lit a.typed h)

  delete_group_typed : (tag : Tag) (e : Effs) (atom : ℕ) (items : Items) → TypedEffs d params.kinds e → Holds (TypedEffs d params.kinds) (delete_group d params tag e atom items)
  delete_group_typed tag e atom (end close) h = tt
  delete_group_typed tag e atom (word at w rest) h = delete_typed tag e atom at w rest h
  delete_group_typed tag e atom (group at inside rest) h = tt

  deletion_typed : (tag : Tag) (e : Effs) (items : Items) → TypedEffs d params.kinds e → Holds (TypedEffs d params.kinds) (deletion d params tag e items)
  unfolding deletion
  deletion_typed tag e items h = grouped (TypedEffs d params.kinds) (λ at inside. delete_group d params tag e at inside) items (λ at inside. delete_group_typed tag e at inside h)

  by_typed : (tag : Tag) (e : Effs) (atom at : ℕ) (w : List ℕ) (rest : Items) (all : Result Effs Fault) (head : Head) → head_of w ≡ head → TypedEffs d params.kinds e → Holds (TypedEffs d params.kinds) all
      → Holds (TypedEffs d params.kinds) (effect_by d params tag e atom at w rest all head)
  by_typed tag e atom at w rest all And s h l = l
  by_typed tag e atom at w rest all Not s h l = deletion_typed tag e rest h
  by_typed tag e atom at w rest all Equal s h l = add_typed tag e atom at w rest (ap counts s) h
  by_typed tag e atom at w rest all At s h l = add_typed tag e atom at w rest (ap counts s) h
  by_typed tag e atom at w rest all Over s h l = add_typed tag e atom at w rest (ap counts s) h
  by_typed tag e atom at w rest all (Untaken which) s h l = tt
  by_typed tag e atom at w rest all Numeric s h l = tt
  by_typed tag e atom at w rest all Other s h l = add_typed tag e atom at w rest (ap counts s) h

  mutual
    effects_typed : (tag : Tag) (e : Effs) (items : Items) → TypedEffs d params.kinds e → Holds (TypedEffs d params.kinds) (effects_in d params tag e items)
    effects_typed tag e (end close) h = h
    effects_typed tag e (word at w rest) h = tt
    effects_typed tag e (group atom inside rest) h =
        holds_bind (TypedEffs d params.kinds) (TypedEffs d params.kinds) (effect_in d params tag e atom inside) (λ more. effects_in d params tag more rest)
        (effect_typed tag e atom inside h) (λ more l. effects_typed tag more rest l)

    -- an effect that is read has terms of the types that are wanted
    pub effect_typed : (tag : Tag) (e : Effs) (atom : ℕ) (items : Items) → TypedEffs d params.kinds e → Holds (TypedEffs d params.kinds) (effect_in d params tag e atom items)
    effect_typed tag e atom (end close) h = h
    effect_typed tag e atom (word at w within) h = by_typed tag e atom at w within (effects_in d params tag e within) (head_of w) refl h (effects_typed tag e within h)
    effect_typed tag e atom (group at inside within) h = tt

  tagged_typed : (e : Effs) (atom : ℕ) (items : Items) → TypedEffs d params.kinds e → Holds (TypedEffs d params.kinds) (tagged_effect d params e atom items)
  unfolding tagged_effect
  tagged_typed e atom items h =
      holds_after (TypedEffs d params.kinds) (tag_next atom items) _
      (λ tag. grouped (TypedEffs d params.kinds) (λ at inside. effect_in d params tag.0 e at inside) tag.1 (λ at inside. effect_typed tag.0 e at inside h))

  timed_by_typed : (e : Effs) (atom at : ℕ) (rest : Items) (all : Result Effs Fault) (head : Head) → TypedEffs d params.kinds e → Holds (TypedEffs d params.kinds) all
      → Holds (TypedEffs d params.kinds) (timed_effect_by d params e atom at rest all head)
  timed_by_typed e atom at rest all And h l = l
  timed_by_typed e atom at rest all Not h l = tt
  timed_by_typed e atom at rest all Equal h l = tt
  timed_by_typed e atom at rest all At h l = tagged_typed e atom rest h
  timed_by_typed e atom at rest all Over h l = tt
  timed_by_typed e atom at rest all (Untaken which) h l = tt
  timed_by_typed e atom at rest all Numeric h l = tt
  timed_by_typed e atom at rest all Other h l = tt

  mutual
    timed_effects_typed : (e : Effs) (items : Items) → TypedEffs d params.kinds e → Holds (TypedEffs d params.kinds) (timed_effects_in d params e items)
    timed_effects_typed e (end close) h = h
    timed_effects_typed e (word at w rest) h = tt
    timed_effects_typed e (group atom inside rest) h =
        holds_bind (TypedEffs d params.kinds) (TypedEffs d params.kinds) (timed_effect_in d params e atom inside) (λ more. timed_effects_in d params more rest)
        (timed_effect_typed e atom inside h) (λ more l. timed_effects_typed more rest l)

    -- a tagged effect that is read has terms of the types that are wanted
    pub timed_effect_typed : (e : Effs) (atom : ℕ) (items : Items) → TypedEffs d params.kinds e → Holds (TypedEffs d params.kinds) (timed_effect_in d params e atom items)
    timed_effect_typed e atom (end close) h = h
    timed_effect_typed e atom (word at w within) h = timed_by_typed e atom at within (timed_effects_in d params e within) (head_of w) h (timed_effects_typed e within h)
    timed_effect_typed e atom (group at inside within) h = tt
