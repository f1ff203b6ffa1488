use Rattle.std.proofs.Common.{List, map, ◌++◌, ap, ◌∙◌}
use Rattle.std.specs.Prelude.{codes}
use Rattle.cpt_ground.specs.declared.atoms.Atom.{Atom}
use Rattle.cpt_ground.specs.Atoms.{facts_of}
use Rattle.cpt_ground.specs.Literals.{name_with}
use Rattle.cpt_ground.proofs.CompileLemmas.{joined-names}
use Rattle.cpt_ground.proofs.literal_names.literal_names.Goals as goal

pub returns : goal.returns
returns c =
    let d = c.args.domain.now in
    let p = c.args.problem.now in
    let l = c.args.literals.now in
    let A = facts_of l.plain.items in
    let B = facts_of l.complements.items in
    let first = c.in_ok-names.ensures ∙ ap (λ (xs : List Atom). map (name_with d p (codes "(")) (facts_of xs)) c.deref.ensures.value in
    let second = c.in_ok-more.ensures ∙ ap (λ (xs : List Atom). map (name_with d p (codes "(not ")) (facts_of xs)) c.deref-2.ensures.value in
    c.in_ok-append.ensures.items ∙ (λ i. first i ++ second i) ∙ joined-names d p A B
