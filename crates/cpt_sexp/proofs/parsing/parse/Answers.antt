use Rattle.std.proofs.Common.{◌≡◌, ◌≤◌, ◌^◌, ℕ, List, ◌∙◌, sym, ap, subst, arith, length, map}
use Rattle.std.proofs.lemmas.List.{length-map}
use Rattle.std.specs.Char.{to_ascii_lowercase}
use Rattle.cpt_sexp.specs.Grammar.{IsForest, ForestShape, SpellsText}
use Rattle.cpt_sexp.specs.Trees.{Trees}
use Rattle.cpt_sexp.proofs.Lower.{spells_lower, lower-lower}
use Rattle.cpt_sexp.proofs.parsing.parse.Goals as goal

lower_forest : (text lower : List ℕ) (trees : Trees) → lower ≡ map to_ascii_lowercase text → length text ≤ 2 ^ 24 → SpellsText text trees → IsForest (record { trees = trees; text = lower })
lower_forest text lower trees e small s = record {
  spelled = subst (λ t. SpellsText t trees) (sym e) (spells_lower text trees s);
  lower = ap (map to_ascii_lowercase) e ∙ lower-lower text ∙ sym e;
  small = omega (arith, small, ap length e ∙ length-map text to_ascii_lowercase);
}

pub forest_of-requires : goal.forest_of-requires
forest_of-requires c =
    let found = c.in_ok-items.ensures.ok in
    record { forest = (found.0, found.2, lower_forest c.args.text.now c.in_ok-lower.lower.items found.0 c.in_ok-lower.ensures c.requires found.1) }

pub returns : goal.returns
returns c =
    let found = c.in_ok-items.ensures.ok in
    let forest = lower_forest c.args.text.now c.in_ok-lower.lower.items found.0 c.in_ok-lower.ensures c.requires found.1 in
    let same = c.forest_of.ensures.exact found.0 found.2 forest in (
      subst (SpellsText c.args.text.now) (sym (ap (λ (f : ForestShape). f.trees) same)) found.1,
      ap (λ (f : ForestShape). f.text) same ∙ c.in_ok-lower.ensures,
    )
