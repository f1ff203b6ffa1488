use Rattle.std.proofs.Common.{◌≡◌, ℕ, List, None, Some, drop, map, subst, take}
use Rattle.std.specs.Prelude.{MatchOption}
use Rattle.cpt_pddl.specs.Names.{place_from}
use Rattle.cpt_schema.specs.declared.schemas.Schema.{Schema}
use Rattle.cpt_instance.specs.Named.{IsBehind}
use Rattle.cpt_instance.proofs.Answering.{no_schema_named, known_schema, inside_schema, tail_whole}
use Rattle.cpt_instance.proofs.WordNames.{words_of}
use Rattle.cpt_instance.proofs.instance.instance_inside.Goals as goal

pub behind_schema-requires-clause-known : goal.behind_schema-requires-clause-known
behind_schema-requires-clause-known c =
    known_schema c.args.domain.now (take c.blank_at-end.result c.args.text.now) c.in-Some.k
    (subst (λ (ss : List Schema). Some c.in-Some.k ≡ place_from (map (λ (s : Schema). s.name) ss) 0 (take c.blank_at-end.result c.args.text.now)) c.as_slice.ensures c.in-Some.ensures)

pub returns-in-None : goal.returns-in-None
returns-in-None c =
    no_schema_named c.args.domain.now c.args.problem.now c.args.text.now (words_of c.args.domain.now c.args.problem.now c.requires.sound c.requires.fits)
    (subst (λ (n : ℕ). None ≡ place_from (map (λ (s : Schema). s.name) c.args.domain.now.schemas) 0 (take n c.args.text.now)) c.blank_at-end.ensures.value
    (subst (λ (ss : List Schema). None ≡ place_from (map (λ (s : Schema). s.name) ss) 0 (take c.blank_at-end.result c.args.text.now)) c.as_slice.ensures c.in-None.ensures))

pub returns-in-Some : goal.returns-in-Some
returns-in-Some c =
    inside_schema c.args.domain.now c.args.problem.now c.args.text.now c.in-Some.k c.behind_schema.result (words_of c.args.domain.now c.args.problem.now c.requires.sound c.requires.fits)
    (subst (λ (n : ℕ). Some c.in-Some.k ≡ place_from (map (λ (s : Schema). s.name) c.args.domain.now.schemas) 0 (take n c.args.text.now)) c.blank_at-end.ensures.value
    (subst (λ (ss : List Schema). Some c.in-Some.k ≡ place_from (map (λ (s : Schema). s.name) ss) 0 (take c.blank_at-end.result c.args.text.now)) c.as_slice.ensures c.in-Some.ensures))
    (subst (λ (n : ℕ). MatchOption c.behind_schema.result ((dur : ℕ) (args : List ℕ) → IsBehind c.args.domain.now c.args.problem.now c.in-Some.k (drop n c.args.text.now) dur args → ⊥) (λ dur. (args : List ℕ) × IsBehind c.args.domain.now c.args.problem.now c.in-Some.k (drop n c.args.text.now) dur args)) c.blank_at-end.ensures.value
    (subst (λ (w : List ℕ). MatchOption c.behind_schema.result ((dur : ℕ) (args : List ℕ) → IsBehind c.args.domain.now c.args.problem.now c.in-Some.k w dur args → ⊥) (λ dur. (args : List ℕ) × IsBehind c.args.domain.now c.args.problem.now c.in-Some.k w dur args)) (tail_whole c.args.text.now c.blank_at-end.result)
    c.behind_schema.ensures))
