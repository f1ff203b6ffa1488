use Rattle.std.specs.Prelude.{◌≡◌, ◌≢◌, ℕ, ◌<◌, true, map, List, [], length, slice_index_or, All, codes}
use Rattle.cpt_pddl.specs.Words.{is_word}
use Rattle.cpt_schema.specs.declared.schemas.Schema.{Schema}
use Rattle.cpt_domain.specs.declared.domain.Domain.{Domain}
use Rattle.cpt_domain.specs.declared.domain.Function.{Function}
use Rattle.cpt_domain.specs.declared.domain.ObjectDecl.{ObjectDecl}
use Rattle.cpt_domain.specs.declared.domain.Predicate.{Predicate}
use Rattle.cpt_domain.specs.declared.domain.TypeDecl.{TypeDecl}

-- no two of these names are one
abbrev pub AreDifferent : List (List ℕ) → Type 0
AreDifferent names = (i j : ℕ) → i < j → j < length names → slice_index_or names i [] ≢ slice_index_or names j []

-- the names of each kind are different words
pub record HasDifferentNames (d : Domain) : Type 0 where
  pub types : AreDifferent (map (λ (t : TypeDecl). t.name) d.types)
  pub constants : AreDifferent (map (λ (o : ObjectDecl). o.name) d.constants)
  pub predicates : AreDifferent (map (λ (p : Predicate). p.name) d.predicates)
  pub functions : AreDifferent (map (λ (f : Function). f.name) d.functions)
  pub actions : AreDifferent (map (λ (s : Schema). s.name) d.schemas)

-- each of these names is a word
abbrev pub AreWords : List (List ℕ) → Type 0
AreWords names = All (λ name. is_word name ≡ true) names

-- the names of each kind are words, and no predicate is called not
pub record HasWordNames (d : Domain) : Type 0 where
  pub types : AreWords (map (λ (t : TypeDecl). t.name) d.types)
  pub constants : AreWords (map (λ (o : ObjectDecl). o.name) d.constants)
  pub predicates : AreWords (map (λ (p : Predicate). p.name) d.predicates)
  pub functions : AreWords (map (λ (f : Function). f.name) d.functions)
  pub actions : AreWords (map (λ (s : Schema). s.name) d.schemas)
  pub no_not : All (λ name. name ≢ codes "not") (map (λ (p : Predicate). p.name) d.predicates)
