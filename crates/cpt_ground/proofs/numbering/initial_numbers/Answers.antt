use Rattle.std.proofs.Common.{◌≡◌, ◌++◌, List, ℕ, ap, ◌∙◌, subst}
use Rattle.cpt_facts.specs.declared.problem.Fact.{Fact}
use Rattle.cpt_ground.specs.declared.atoms.Atom.{Atom}
use Rattle.cpt_ground.specs.Atoms.{AreInOrder, facts_of}
use Rattle.cpt_ground.specs.Literals.{AreSame, plain_numbers, unheld_numbers}
use Rattle.cpt_ground.proofs.LiteralLemmas.{initially}
use Rattle.cpt_ground.proofs.numbering.initial_numbers.Goals as goal

pub returns : goal.returns
returns c =
    let l = c.args.literals.now in
    let init = c.args.init.now in
    let holding = facts_of c.in_order-ordered.result.items in
    let first = c.in_ok-numbers.numbers.items in
    let U = unheld_numbers l holding in
    let pushed : facts_of c.push_atoms.new.atoms.items ≡ init = c.in_ok-push_atoms.ensures ∙ ap (λ (xs : List Atom). facts_of xs ++ init) c.new-atoms.ensures.items in
    let order : AreInOrder init holding = subst (λ (xs : List Fact). AreInOrder xs holding) pushed c.in_order-ordered.ensures.sorted in
    let e : c.extend_from_slice.new.self.items ≡ plain_numbers l init ++ U =
    c.in_ok-extend_from_slice.ensures.items
    ∙ ap (λ (xs : List ℕ). first ++ xs) (c.deref-2.ensures.value ∙ c.in_ok-unheld_numbers.ensures ∙ ap (λ (xs : List Atom). unheld_numbers l (facts_of xs)) c.deref.ensures.value)
    ∙ ap (λ (xs : List ℕ). xs ++ U) c.in_ok-numbers.ensures in
    initially l init holding c.as_ids.result c.requires.sorted order c.as_ids.ensures.increasing (subst (AreSame c.as_ids.result) e c.as_ids.ensures.same)
