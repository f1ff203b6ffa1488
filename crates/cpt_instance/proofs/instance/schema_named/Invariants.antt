use Rattle.std.proofs.Common.{◌≡◌, drop, map}
use Rattle.cpt_pddl.specs.Names.{place_from}
use Rattle.cpt_schema.specs.declared.schemas.Schema.{Schema}
use Rattle.cpt_instance.proofs.instance.schema_named.Given as goal

abbrev pub invariant-loop-k : goal.invariant-loop-k
invariant-loop-k l = place_from (map (λ (s : Schema). s.name) (drop l.k l.schemas)) l.k l.word ≡ place_from (map (λ (s : Schema). s.name) l.schemas) 0 l.word
