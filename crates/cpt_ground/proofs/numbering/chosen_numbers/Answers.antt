use Rattle.std.proofs.Common.{◌≡◌, ◌++◌, List, ℕ, ap, ◌∙◌, subst}
use Rattle.cpt_ground.specs.Literals.{AreSame, complement_numbers, plain_numbers}
use Rattle.cpt_ground.proofs.LiteralLemmas.{chosen}
use Rattle.cpt_ground.proofs.numbering.chosen_numbers.Goals as goal

pub returns : goal.returns
returns c =
    let l = c.args.literals.now in
    let first = c.in_ok-numbers.numbers.items in
    let C = complement_numbers l c.args.absent.now c.args.but.now in
    let e : c.extend_from_slice.new.self.items ≡ plain_numbers l c.args.present.now ++ C =
    c.in_ok-extend_from_slice.ensures.items
    ∙ ap (λ (xs : List ℕ). first ++ xs) (c.deref.ensures.value ∙ c.in_ok-complement_numbers.ensures)
    ∙ ap (λ (xs : List ℕ). xs ++ C) c.in_ok-numbers.ensures in
    chosen l c.args.present.now c.args.absent.now c.args.but.now c.as_ids.result c.requires c.as_ids.ensures.increasing
    (subst (AreSame c.as_ids.result) e c.as_ids.ensures.same)
