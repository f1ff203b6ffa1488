use Rattle.std.specs.Prelude.{◌≡◌, ℕ, false, [], ◌∷◌, List, codes}
use Rattle.cpt_schema.specs.declared.durations.Lasting.TheVariants.{Value}
use Rattle.cpt_schema.specs.declared.schemas.Schema.{Schema}
use Rattle.cpt_schema.specs.declared.terms.Term.TheVariants.{Param, Object}
use Rattle.cpt_domain.specs.declared.domain.Domain.{Domain}
use Rattle.cpt_domain_spelling.specs.Siblings.{Siblings}
use Rattle.cpt_domain_spelling.specs.Texts.{text_of}

-- an action that switches on a lamp, which is plugged in, not lit and not the one on the left
abbrev pub switching : Schema
switching = record {
  name = codes "switch-on";
  kinds = 1 ∷ [];
  dur = Value 0 (Param 0 ∷ []);
  pre = record { pred = 1; terms = Param 0 ∷ [] } ∷ [];
  add = record { pred = 0; terms = Param 0 ∷ [] } ∷ [];
  dele = record { pred = 2; terms = [] } ∷ [];
  tests = record { left = Param 0; right = Object 0; equal = false } ∷ [];
  absent = record { pred = 0; terms = Param 0 ∷ [] } ∷ [];
}

-- a domain of lamps, among them desk lamps, with this action
abbrev pub lamps : Domain
lamps = record {
  name = codes "lamps";
  types = record { name = codes "object"; parent = 0 } ∷ record { name = codes "lamp"; parent = 0 } ∷ record { name = codes "desk-lamp"; parent = 1 } ∷ [];
  constants = record { name = codes "left"; kind = 2 } ∷ [];
  predicates =
      record { name = codes "lit"; kinds = 1 ∷ [] } ∷ record { name = codes "plugged"; kinds = 1 ∷ [] } ∷ record { name = codes "dark"; kinds = [] } ∷ [];
  schemas = switching ∷ [];
  functions = record { name = codes "warm"; kinds = 1 ∷ [] } ∷ [];
}

-- the types of the sample, in groups by their parents
abbrev pub lamp_groups : List Siblings
lamp_groups = record { kinds = 1 ∷ []; parent = 0 } ∷ record { kinds = 2 ∷ []; parent = 1 } ∷ []

-- its text
abbrev pub lamp_text : List ℕ
lamp_text = codes "(define (domain lamps ) (:types lamp - object desk-lamp - lamp ) (:constants left - desk-lamp ) (:predicates (lit ?0 - lamp ) (plugged ?0 - lamp ) (dark ) ) (:functions (warm ?0 - lamp ) ) (:durative-action switch-on :parameters (?0 - lamp ) :duration (= ?duration (warm ?0 ) ) :condition (over all (and (plugged ?0 ) (not (lit ?0 ) ) (not (= ?0 left ) ) ) ) :effect (at end (and (not (dark ) ) (lit ?0 ) ) ) ) ) "

-- a domain of lamps is spelled so
abbrev pub LampsAreSpelled : Type 0
LampsAreSpelled = text_of lamps lamp_groups ≡ lamp_text
