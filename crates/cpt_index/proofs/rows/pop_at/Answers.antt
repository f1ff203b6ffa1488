use Rattle.std.proofs.Common.{◌-◌, ◌∙◌, ap, take}
use Rattle.cpt_index.specs.Rows.{without_last}
use Rattle.cpt_index.proofs.RowLemmas.{contents_put}
use Rattle.cpt_index.proofs.rows.pop_at.Goals as goal

pub returns : goal.returns
returns g c =
    contents_put c.args.rows.now c.args.p c.pop.new.self c.get_mut-row.result.now without_last c.requires c.get_mut-row.ensures.item
    (c.pop.ensures.rest ∙ ap (λ n. take (n - 1) c.get_mut-row.result.now.items) c.get_mut-row.result.now.ok.0)
