use Rattle.std.proofs.Common.{◌≡◌, List, ◌∙◌, sym, ap, subst, length, All}
use Rattle.cpt_sexp.specs.declared.item.Item.{Item}
use Rattle.cpt_sexp.specs.Flat.{flat, IsItemOf, Stands}
use Rattle.cpt_sexp.specs.Grammar.{ForestShape, IsForest}
use Rattle.cpt_sexp.proofs.FlatLemmas.{stands-flat}
use Rattle.cpt_sexp.proofs.Words.{items_of-flat}
use Rattle.cpt_sexp.proofs.forest.Forest.items.Goals as goal

flat_stands : (forest : ForestShape) (items : List Item) → items ≡ flat 0 forest.trees → Stands items 0 (length items) forest.trees
flat_stands forest items e = subst (λ xs. Stands xs 0 (length xs) forest.trees) (sym e) (stands-flat forest.trees)

flat_items : (forest : ForestShape) (items : List Item) → IsForest forest → items ≡ flat 0 forest.trees → All (IsItemOf forest.text (length items)) items
flat_items forest items is e =
    subst (λ xs. All (IsItemOf forest.text (length xs)) xs) (sym e) (items_of-flat forest.text forest.trees is.lower is.spelled)

pub returns-clause-stand : goal.returns-clause-stand
returns-clause-stand c =
    flat_stands c.args.self.now c.as_slice.result.now (c.as_slice.ensures.value ∙ c.self.invariant.1 ∙ ap (λ (f : ForestShape). flat 0 f.trees) c.self.view_is)

pub returns-clause-of_text : goal.returns-clause-of_text
returns-clause-of_text c =
    flat_items c.args.self.now c.as_slice.result.now (subst IsForest c.self.view_is c.self.invariant.0)
    (c.as_slice.ensures.value ∙ c.self.invariant.1 ∙ ap (λ (f : ForestShape). flat 0 f.trees) c.self.view_is)
