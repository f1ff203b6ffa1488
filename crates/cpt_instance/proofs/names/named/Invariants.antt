use Rattle.std.proofs.Common.{◌≡◌, ◌+◌, drop, map}
use Rattle.cpt_pddl.specs.Names.{place_from}
use Rattle.cpt_domain.specs.declared.domain.ObjectDecl.{ObjectDecl}
use Rattle.cpt_instance.proofs.names.named.Given as goal

abbrev pub invariant-loop-k : goal.invariant-loop-k
invariant-loop-k l = place_from (map (λ (o : ObjectDecl). o.name) (drop l.k l.objects)) (l.from + l.k) l.word ≡ place_from (map (λ (o : ObjectDecl). o.name) l.objects) l.from l.word
