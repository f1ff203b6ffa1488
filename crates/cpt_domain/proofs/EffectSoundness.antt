use Rattle.std.proofs.Common.{◌≡◌, ℕ, ◌<◌, ◌≤◌, Bool, true, false, List, length, All, arith}
use Rattle.std.specs.Prelude.{nat_le, Result, Ok, Err}
use Rattle.std.proofs.lemmas.Bool.Decides.{nat_tests}
use Rattle.cpt_pddl.specs.declared.fault.Fault.{Fault}
use Rattle.cpt_pddl.specs.declared.fault.Fault.TheVariants as faults
use Rattle.cpt_pddl.specs.declared.typed.Typed.{Typed}
use Rattle.cpt_pddl.specs.declared.words.Head.{Head}
use Rattle.cpt_pddl.specs.declared.words.Head.TheVariants.{And, Not, Equal, At, Over, Untaken, Numeric, Other}
use Rattle.cpt_pddl.specs.Items.{Items, end, word, group}
use Rattle.cpt_pddl.specs.Words.{head_of}
use Rattle.cpt_declared.specs.declared.declared.Declared.{Declared}
use Rattle.cpt_schema.specs.declared.effects.Effect.{Effect}
use Rattle.cpt_schema.specs.declared.effects.Tag.{Tag}
use Rattle.cpt_schema.specs.declared.effects.Tag.TheVariants.{Plain, Start, End}
use Rattle.cpt_schema.specs.declared.terms.Lit.{Lit}
use Rattle.cpt_schema.specs.Effects.{Effs, add_atom, added, delete_atom, delete_group, deleted, deletion, effect_by, effect_in, effects_in, has_marked, tag_next, tagged_effect, timed_effect_by, timed_effect_in, timed_effects_in, with_effect}
use Rattle.cpt_schema.specs.Terms.{atom_in}
use Rattle.cpt_domain.proofs.ConditionSoundness.{HasKinds, LitOf, grouped}
use Rattle.cpt_domain.proofs.TermSoundness.{atom_sound}
use Rattle.cpt_domain.proofs.Tools.{Holds, all_end, holds_any, holds_bind, holds_if, length_end}

-- so many sound effects at most
pub record SoundList (d : Declared) (params : Typed) (es : List Effect) : Type 0 where
  pub lits : All (λ (e : Effect). LitOf d params e.lit) es
  pub few : length es ≤ 64

-- the effects so far are sound
pub record SoundEffs (d : Declared) (params : Typed) (e : Effs) : Type 0 where
  pub adds : SoundList d params e.adds
  pub dels : SoundList d params e.dels

le_false : (a b : ℕ) → nat_le a b ≡ false → b < a
le_false a b h = grind (arith, nat_tests)

one_more : (d : Declared) (params : Typed) (es : List Effect) (lit : Lit) (marked : Bool) → LitOf d params lit → nat_le 64 (length es) ≡ false → SoundList d params es → SoundList d params (with_effect es lit marked)
one_more d params es lit marked l room h =
    let e : Effect = record { lit = lit; marked = marked } in
    record {
      lits = all_end (λ (e : Effect). LitOf d params e.lit) es e h.lits l;
      few = let n = length_end es e in let lt = le_false 64 (length es) room in omega (arith, n, lt);
    }

added_sound : (d : Declared) (params : Typed) (tag : Tag) (e : Effs) (lit : Lit) → LitOf d params lit → nat_le 64 (length e.adds) ≡ false → SoundEffs d params e → Holds (SoundEffs d params) (added tag e lit)
added_sound d params Plain e lit l room h = record { adds = one_more d params e.adds lit false l room h.adds; dels = h.dels }
added_sound d params (Start at) e lit l room h =
    holds_if (SoundEffs d params) (has_marked e.dels lit) (Err (faults.Window at)) (Ok (record e { adds = with_effect e.adds lit true })) (λ _. tt)
    (λ _. record { adds = one_more d params e.adds lit true l room h.adds; dels = h.dels })
added_sound d params (End at) e lit l room h = record { adds = one_more d params e.adds lit false l room h.adds; dels = h.dels }

deleted_sound : (d : Declared) (params : Typed) (tag : Tag) (e : Effs) (lit : Lit) → LitOf d params lit → nat_le 64 (length e.dels) ≡ false → SoundEffs d params e → Holds (SoundEffs d params) (deleted tag e lit)
deleted_sound d params Plain e lit l room h = record { adds = h.adds; dels = one_more d params e.dels lit false l room h.dels }
deleted_sound d params (Start at) e lit l room h = record { adds = h.adds; dels = one_more d params e.dels lit false l room h.dels }
deleted_sound d params (End at) e lit l room h =
    holds_if (SoundEffs d params) (has_marked e.adds lit) (Err (faults.Window at)) (Ok (record e { dels = with_effect e.dels lit true })) (λ _. tt)
    (λ _. record { adds = h.adds; dels = one_more d params e.dels lit true l room h.dels })

add_sound : (d : Declared) (params : Typed) (tag : Tag) (e : Effs) (atom at : ℕ) (w : List ℕ) (rest : Items) → HasKinds d → SoundEffs d params e → Holds (SoundEffs d params) (add_atom d params tag e atom at w rest)
unfolding add_atom
add_sound d params tag e atom at w rest k h =
    holds_bind (λ lit. LitOf d params lit × (nat_le 64 (length e.adds) ≡ false)) (SoundEffs d params) (atom_in d params (nat_le 64 (length e.adds)) atom at w rest) (λ lit. added tag e lit)
    (atom_sound d params (nat_le 64 (length e.adds)) atom at w rest k) (λ lit l. added_sound d params tag e lit l.0 l.1 h)

delete_sound : (d : Declared) (params : Typed) (tag : Tag) (e : Effs) (atom at : ℕ) (w : List ℕ) (rest : Items) → HasKinds d → SoundEffs d params e → Holds (SoundEffs d params) (delete_atom d params tag e atom at w rest)
unfolding delete_atom
delete_sound d params tag e atom at w rest k h =
    holds_bind (λ lit. LitOf d params lit × (nat_le 64 (length e.dels) ≡ false)) (SoundEffs d params) (atom_in d params (nat_le 64 (length e.dels)) atom at w rest) (λ lit. deleted tag e lit)
    (atom_sound d params (nat_le 64 (length e.dels)) atom at w rest k) (λ lit l. deleted_sound d params tag e lit l.0 l.1 h)

delete_group_sound : (d : Declared) (params : Typed) (tag : Tag) (e : Effs) (atom : ℕ) (items : Items) → HasKinds d → SoundEffs d params e → Holds (SoundEffs d params) (delete_group d params tag e atom items)
delete_group_sound d params tag e atom (end close) k h = tt
delete_group_sound d params tag e atom (word at w rest) k h = delete_sound d params tag e atom at w rest k h
delete_group_sound d params tag e atom (group at inside rest) k h = tt

deletion_sound : (d : Declared) (params : Typed) (tag : Tag) (e : Effs) (items : Items) → HasKinds d → SoundEffs d params e → Holds (SoundEffs d params) (deletion d params tag e items)
unfolding deletion
deletion_sound d params tag e items k h =
    grouped (SoundEffs d params) (λ at inside. delete_group d params tag e at inside) items (λ at inside. delete_group_sound d params tag e at inside k h)

by_sound : (d : Declared) (params : Typed) (tag : Tag) (e : Effs) (atom at : ℕ) (w : List ℕ) (rest : Items) (all : Result Effs Fault) (head : Head) → HasKinds d → SoundEffs d params e
    → Holds (SoundEffs d params) all → Holds (SoundEffs d params) (effect_by d params tag e atom at w rest all head)
by_sound d params tag e atom at w rest all And k h l = l
by_sound d params tag e atom at w rest all Not k h l = deletion_sound d params tag e rest k h
by_sound d params tag e atom at w rest all Equal k h l = add_sound d params tag e atom at w rest k h
by_sound d params tag e atom at w rest all At k h l = add_sound d params tag e atom at w rest k h
by_sound d params tag e atom at w rest all Over k h l = add_sound d params tag e atom at w rest k h
by_sound d params tag e atom at w rest all (Untaken which) k h l = tt
by_sound d params tag e atom at w rest all Numeric k h l = tt
by_sound d params tag e atom at w rest all Other k h l = add_sound d params tag e atom at w rest k h

mutual
  effects_sound : (d : Declared) (params : Typed) (tag : Tag) (e : Effs) (items : Items) → HasKinds d → SoundEffs d params e → Holds (SoundEffs d params) (effects_in d params tag e items)
  effects_sound d params tag e (end close) k h = h
  effects_sound d params tag e (word at w rest) k h = tt
  effects_sound d params tag e (group atom inside rest) k h =
      holds_bind (SoundEffs d params) (SoundEffs d params) (effect_in d params tag e atom inside) (λ more. effects_in d params tag more rest)
      (effect_sound d params tag e atom inside k h) (λ more l. effects_sound d params tag more rest k l)

  -- an effect keeps the effects sound
  pub effect_sound : (d : Declared) (params : Typed) (tag : Tag) (e : Effs) (atom : ℕ) (items : Items) → HasKinds d → SoundEffs d params e → Holds (SoundEffs d params) (effect_in d params tag e atom items)
  effect_sound d params tag e atom (end close) k h = h
  effect_sound d params tag e atom (word at w within) k h =
      by_sound d params tag e atom at w within (effects_in d params tag e within) (head_of w) k h (effects_sound d params tag e within k h)
  effect_sound d params tag e atom (group at inside within) k h = tt

tagged_sound : (d : Declared) (params : Typed) (e : Effs) (atom : ℕ) (items : Items) → HasKinds d → SoundEffs d params e → Holds (SoundEffs d params) (tagged_effect d params e atom items)
unfolding tagged_effect
tagged_sound d params e atom items k h =
    holds_bind (λ _. Unit {0}) (SoundEffs d params) (tag_next atom items) _ (holds_any (tag_next atom items))
    (λ tag _. grouped (SoundEffs d params) (λ at inside. effect_in d params tag.0 e at inside) tag.1 (λ at inside. effect_sound d params tag.0 e at inside k h))

timed_by_sound : (d : Declared) (params : Typed) (e : Effs) (atom at : ℕ) (rest : Items) (all : Result Effs Fault) (head : Head) → HasKinds d → SoundEffs d params e
    → Holds (SoundEffs d params) all → Holds (SoundEffs d params) (timed_effect_by d params e atom at rest all head)
timed_by_sound d params e atom at rest all And k h l = l
timed_by_sound d params e atom at rest all Not k h l = tt
timed_by_sound d params e atom at rest all Equal k h l = tt
timed_by_sound d params e atom at rest all At k h l = tagged_sound d params e atom rest k h
timed_by_sound d params e atom at rest all Over k h l = tt
timed_by_sound d params e atom at rest all (Untaken which) k h l = tt
timed_by_sound d params e atom at rest all Numeric k h l = tt
timed_by_sound d params e atom at rest all Other k h l = tt

mutual
  timed_effects_sound : (d : Declared) (params : Typed) (e : Effs) (items : Items) → HasKinds d → SoundEffs d params e → Holds (SoundEffs d params) (timed_effects_in d params e items)
  timed_effects_sound d params e (end close) k h = h
  timed_effects_sound d params e (word at w rest) k h = tt
  timed_effects_sound d params e (group atom inside rest) k h =
      holds_bind (SoundEffs d params) (SoundEffs d params) (timed_effect_in d params e atom inside) (λ more. timed_effects_in d params more rest)
      (timed_effect_sound d params e atom inside k h) (λ more l. timed_effects_sound d params more rest k l)

  -- a tagged effect keeps the effects sound
  pub timed_effect_sound : (d : Declared) (params : Typed) (e : Effs) (atom : ℕ) (items : Items) → HasKinds d → SoundEffs d params e → Holds (SoundEffs d params) (timed_effect_in d params e atom items)
  timed_effect_sound d params e atom (end close) k h = h
  timed_effect_sound d params e atom (word at w within) k h =
      timed_by_sound d params e atom at within (timed_effects_in d params e within) (head_of w) k h (timed_effects_sound d params e within k h)
  timed_effect_sound d params e atom (group at inside within) k h = tt
