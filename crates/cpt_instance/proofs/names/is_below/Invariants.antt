use Rattle.std.proofs.Common.{◌≡◌, ◌-◌, length, map}
use Rattle.cpt_pddl.specs.Kinds.{climbs}
use Rattle.cpt_domain.specs.declared.domain.TypeDecl.{TypeDecl}
use Rattle.cpt_instance.proofs.names.is_below.Given as goal

abbrev pub invariant-loop-step : goal.invariant-loop-step
invariant-loop-step l = climbs (length l.types - l.step) (map (λ (t : TypeDecl). t.parent) l.types) l.here l.wanted ≡ climbs (length l.types) (map (λ (t : TypeDecl). t.parent) l.types) l.kind l.wanted
