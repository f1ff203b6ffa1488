use Rattle.std.proofs.Common.{◌≡◌, ℕ, List, ◌∙◌, sym, ap, subst, length}
use Rattle.cpt_sexp.specs.declared.item.Item.{Item}
use Rattle.cpt_sexp.specs.Bytes.{plain}
use Rattle.cpt_sexp.specs.Flat.{flat, nested}
use Rattle.cpt_sexp.specs.Grammar.{IsForest, ForestShape}
use Rattle.cpt_sexp.specs.Trees.{Trees}
use Rattle.cpt_sexp.proofs.FlatLemmas.{nested-flat, spells_placed}
use Rattle.cpt_sexp.proofs.forest.forest_of.Goals as goal

nested_again : (items : List Item) (text : List ℕ) (trees : Trees) → items ≡ flat 0 trees → IsForest (record { trees = trees; text = text }) → nested items ≡ trees
nested_again items text trees e forest =
    ap nested e ∙ nested-flat 0 0 (length text) trees (spells_placed (plain text) 0 0 (length text) trees forest.spelled)

pub invariant_of-result : goal.invariant_of-result
invariant_of-result c =
    let found = c.requires.forest in
    let again = nested_again c.args.items.items c.args.text.items found.0 found.1 found.2 in
    (subst (λ (t : Trees). IsForest (record { trees = t; text = c.args.text.items })) (sym again) found.2, found.1 ∙ ap (flat 0) (sym again))

pub returns : goal.returns
returns c = record {
  exact = λ trees e forest. ap (λ (t : Trees). let f : ForestShape = record { trees = t; text = c.args.text.items } in f) (nested_again c.args.items.items c.args.text.items trees e forest);
}
