use Rattle.cpt_index.specs.Rows.{with_last}
use Rattle.cpt_index.proofs.RowLemmas.{contents_put, spare_other, spare_within, spare_here}
use Rattle.cpt_index.proofs.rows.push_at.Goals as goal

pub get_mut-row-requires : goal.get_mut-row-requires
get_mut-row-requires g c = spare_within c.args.rows.now c.args.p c.requires

pub push_reserved-requires : goal.push_reserved-requires
push_reserved-requires g c = spare_here c.args.rows.now c.args.p c.get_mut-row.result.now c.requires c.get_mut-row.ensures.item

pub returns-clause-rows : goal.returns-clause-rows
returns-clause-rows g c =
    contents_put c.args.rows.now c.args.p c.push_reserved.new.self c.get_mut-row.result.now (with_last c.args.item) (spare_within c.args.rows.now c.args.p c.requires) c.get_mut-row.ensures.item c.push_reserved.ensures.items

pub returns-clause-others : goal.returns-clause-others
returns-clause-others g c = spare_other c.args.rows.now c.args.p c.push_reserved.new.self
