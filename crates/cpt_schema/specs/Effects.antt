use Rattle.std.specs.Prelude.{ℕ, nat_le, Bool, true, false, ◌&&◌, if◌then◌else◌, List, [], ◌∷◌, ◌++◌, length, Result, Ok, Err, codes}
use Rattle.std.specs.Str.{bytes_eq}
use Rattle.cpt_pddl.specs.declared.fault.Feature.TheVariants as features
use Rattle.cpt_pddl.specs.declared.fault.Fault.{Fault}
use Rattle.cpt_pddl.specs.declared.fault.Fault.TheVariants.{Shape, Feature, Window}
use Rattle.cpt_pddl.specs.declared.typed.Typed.{Typed}
use Rattle.cpt_pddl.specs.declared.words.Head.{Head}
use Rattle.cpt_pddl.specs.declared.words.Head.TheVariants.{And, Not, Equal, At, Over, Untaken, Numeric, Other}
use Rattle.cpt_pddl.specs.Faults.{◌>>=◌}
use Rattle.cpt_pddl.specs.Items.{Items, end, word, group}
use Rattle.cpt_pddl.specs.Reading.{group_at, nothing}
use Rattle.cpt_pddl.specs.Words.{head_of}
use Rattle.cpt_declared.specs.declared.declared.Declared.{Declared}
use Rattle.cpt_schema.specs.declared.effects.Effect.{Effect}
use Rattle.cpt_schema.specs.declared.effects.Tag.{Tag}
use Rattle.cpt_schema.specs.declared.effects.Tag.TheVariants.{Plain, Start, End}
use Rattle.cpt_schema.specs.declared.terms.Lit.{Lit}
use Rattle.cpt_schema.specs.Terms.{atom_in, same_lit}

-- The effects of a schema so far. An added atom is marked where it is added at the start, and a deleted one where
-- it is deleted at the end.
pub record Effs : Type 0 where
  pub adds : List Effect
  pub dels : List Effect

-- a marked effect has this atom
abbrev pub has_marked : List Effect → Lit → Bool
has_marked [] lit = false
has_marked (e ∷ es) lit = if e.marked && same_lit e.lit lit then true else has_marked es lit

-- one more effect
abbrev pub with_effect : List Effect → Lit → Bool → List Effect
with_effect effects lit marked = effects ++ record { lit = lit; marked = marked } ∷ []

-- an atom is added; at the start only if it is not deleted at the end
abbrev pub added : Tag → Effs → Lit → Result Effs Fault
added Plain effs lit = Ok (record effs { adds = with_effect effs.adds lit false })
added (Start tag) effs lit = if has_marked effs.dels lit then Err (Window tag) else Ok (record effs { adds = with_effect effs.adds lit true })
added (End tag) effs lit = Ok (record effs { adds = with_effect effs.adds lit false })

-- an atom is deleted; at the end only if it is not added at the start
abbrev pub deleted : Tag → Effs → Lit → Result Effs Fault
deleted Plain effs lit = Ok (record effs { dels = with_effect effs.dels lit false })
deleted (Start tag) effs lit = Ok (record effs { dels = with_effect effs.dels lit false })
deleted (End tag) effs lit = if has_marked effs.adds lit then Err (Window tag) else Ok (record effs { dels = with_effect effs.dels lit true })

-- the atom of an effect that adds
unfoldable pub add_atom : Declared → Typed → Tag → Effs → ℕ → ℕ → List ℕ → Items → Result Effs Fault
add_atom declared params tag effs atom at bytes rest = do
  lit ← atom_in declared params (nat_le 64 (length effs.adds)) atom at bytes rest
  added tag effs lit

-- the atom of an effect that deletes
unfoldable pub delete_atom : Declared → Typed → Tag → Effs → ℕ → ℕ → List ℕ → Items → Result Effs Fault
delete_atom declared params tag effs atom at bytes rest = do
  lit ← atom_in declared params (nat_le 64 (length effs.dels)) atom at bytes rest
  deleted tag effs lit

-- what is in the group of an atom that is deleted
abbrev pub delete_group : Declared → Typed → Tag → Effs → ℕ → Items → Result Effs Fault
delete_group declared params tag effs atom (end close) = Err (Shape close)
delete_group declared params tag effs atom (word at bytes rest) = delete_atom declared params tag effs atom at bytes rest
delete_group declared params tag effs atom (group at inside rest) = Err (Shape at)

-- what follows the word of a deletion
unfoldable pub deletion : Declared → Typed → Tag → Effs → Items → Result Effs Fault
deletion declared params tag effs items = do
  found ← group_at items
  more ← delete_group declared params tag effs found.0 found.1
  _ ← nothing found.2
  Ok more

-- an effect by its first word, where what follows this word says so much as a list of effects
abbrev pub effect_by : Declared → Typed → Tag → Effs → ℕ → ℕ → List ℕ → Items → Result Effs Fault → Head → Result Effs Fault
effect_by declared params tag effs atom at bytes rest all And = all
effect_by declared params tag effs atom at bytes rest all Not = deletion declared params tag effs rest
effect_by declared params tag effs atom at bytes rest all Equal = add_atom declared params tag effs atom at bytes rest
effect_by declared params tag effs atom at bytes rest all At = add_atom declared params tag effs atom at bytes rest
effect_by declared params tag effs atom at bytes rest all Over = add_atom declared params tag effs atom at bytes rest
effect_by declared params tag effs atom at bytes rest all (Untaken which) = Err (Feature which atom)
effect_by declared params tag effs atom at bytes rest all Numeric = Err (Feature features.Numeric atom)
effect_by declared params tag effs atom at bytes rest all Other = add_atom declared params tag effs atom at bytes rest

abbrev mutual
  -- effects, each in its group
  pub effects_in : Declared → Typed → Tag → Effs → Items → Result Effs Fault
  effects_in declared params tag effs (end close) = Ok effs
  effects_in declared params tag effs (word at bytes rest) = Err (Shape at)
  effects_in declared params tag effs (group atom inside rest) =
      effect_in declared params tag effs atom inside >>= (λ more. effects_in declared params tag more rest)

  -- what is in the group of an effect that begins at a byte
  pub effect_in : Declared → Typed → Tag → Effs → ℕ → Items → Result Effs Fault
  effect_in declared params tag effs atom (end close) = Ok effs
  effect_in declared params tag effs atom (word at bytes within) =
      effect_by declared params tag effs atom at bytes within (effects_in declared params tag effs within) (head_of bytes)
  effect_in declared params tag effs atom (group at inside within) = Err (Shape at)

-- the moment that a word names, for the tag at a byte
abbrev pub tag_word : ℕ → ℕ → List ℕ → Result Tag Fault
tag_word atom at bytes =
    if bytes_eq bytes (codes "start") then Ok (Start atom)
    else if bytes_eq bytes (codes "end") then Ok (End atom)
    else Err (Shape at)

-- a moment, and then what follows it
abbrev pub tag_next : ℕ → Items → Result (Tag × Items) Fault
tag_next atom (end close) = Err (Shape close)
tag_next atom (word at bytes rest) = tag_word atom at bytes >>= (λ tag. Ok (tag, rest))
tag_next atom (group at inside rest) = Err (Shape at)

-- what follows the word at: a moment, and one effect
unfoldable pub tagged_effect : Declared → Typed → Effs → ℕ → Items → Result Effs Fault
tagged_effect declared params effs atom items = do
  tag ← tag_next atom items
  found ← group_at tag.1
  more ← effect_in declared params tag.0 effs found.0 found.1
  _ ← nothing found.2
  Ok more

-- a tagged effect by its first word
abbrev pub timed_effect_by : Declared → Typed → Effs → ℕ → ℕ → Items → Result Effs Fault → Head → Result Effs Fault
timed_effect_by declared params effs atom at rest all And = all
timed_effect_by declared params effs atom at rest all Not = Err (Shape at)
timed_effect_by declared params effs atom at rest all Equal = Err (Shape at)
timed_effect_by declared params effs atom at rest all At = tagged_effect declared params effs atom rest
timed_effect_by declared params effs atom at rest all Over = Err (Shape at)
timed_effect_by declared params effs atom at rest all (Untaken which) = Err (Feature which atom)
timed_effect_by declared params effs atom at rest all Numeric = Err (Feature features.Numeric atom)
timed_effect_by declared params effs atom at rest all Other = Err (Shape at)

abbrev mutual
  -- tagged effects, each in its group
  pub timed_effects_in : Declared → Typed → Effs → Items → Result Effs Fault
  timed_effects_in declared params effs (end close) = Ok effs
  timed_effects_in declared params effs (word at bytes rest) = Err (Shape at)
  timed_effects_in declared params effs (group atom inside rest) =
      timed_effect_in declared params effs atom inside >>= (λ more. timed_effects_in declared params more rest)

  -- what is in the group of a tagged effect that begins at a byte
  pub timed_effect_in : Declared → Typed → Effs → ℕ → Items → Result Effs Fault
  timed_effect_in declared params effs atom (end close) = Ok effs
  timed_effect_in declared params effs atom (word at bytes within) =
      timed_effect_by declared params effs atom at within (timed_effects_in declared params effs within) (head_of bytes)
  timed_effect_in declared params effs atom (group at inside within) = Err (Shape at)
