use Rattle.std.proofs.Common.{ap, length, ◌∙◌}
use Rattle.cpt_index.proofs.IndexLemmas.{index_bare}
use Rattle.cpt_index.proofs.index.bare.Goals as goal

pub returns : goal.returns
returns c =
    index_bare c.args.task.now _ c.atoms-atoms.ensures.bounds c.new.ensures.items c.in_ok-offers.ensures (c.in_ok-deleters.ensures.count ∙ ap length c.atoms-atoms.ensures.value) c.in_ok-deleters.ensures.each
    (c.in_ok-consumers.ensures.count ∙ ap length c.atoms-atoms.ensures.value) c.in_ok-consumers.ensures.each (c.in_ok-rivals.ensures.count ∙ ap length c.actions-actions.ensures.value) c.in_ok-rivals.ensures.each
