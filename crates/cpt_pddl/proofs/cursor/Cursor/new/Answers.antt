use Rattle.std.proofs.Common.{◌∙◌, ap, length}
use Rattle.cpt_pddl.specs.Items.{items_of, left}
use Rattle.cpt_pddl.proofs.CursorLemmas.{stands_read}
use Rattle.cpt_pddl.proofs.cursor.Cursor.new.Goals as goal

pub returns : goal.returns
unfolding left
returns c =
    stands_read c.items-items.result.now c.text-text.result.now (length c.text-text.result.now) 0 (length c.items-items.result.now) c.args.forest.now.trees c.items-items.ensures.stand
    ∙ ap (λ text. items_of text (length text) c.args.forest.now.trees) c.text-text.ensures.value
