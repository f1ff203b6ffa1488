use Rattle.std.proofs.Common.{arith}
use Rattle.cpt_index.proofs.RowLemmas.{contents_same, spare_kept, spare_made}
use Rattle.cpt_index.proofs.rows.reserve_at.Goals as goal

pub returns-in_err-reserve-clause-rows : goal.returns-in_err-reserve-clause-rows
returns-in_err-reserve-clause-rows g c = contents_same c.args.rows.now c.args.p c.reserve.new.self c.get_mut-row.result.now c.requires c.get_mut-row.ensures.item c.reserve.ensures.items

pub returns-in_err-reserve-clause-others : goal.returns-in_err-reserve-clause-others
returns-in_err-reserve-clause-others g c = spare_kept c.args.rows.now c.args.p c.reserve.new.self c.get_mut-row.result.now c.requires c.get_mut-row.ensures.item c.reserve.ensures.len c.reserve.ensures.capacity

pub returns-clause-rows : goal.returns-clause-rows
returns-clause-rows g c = contents_same c.args.rows.now c.args.p c.reserve.new.self c.get_mut-row.result.now c.requires c.get_mut-row.ensures.item c.reserve.ensures.items

pub returns-clause-others : goal.returns-clause-others
returns-clause-others g c = spare_kept c.args.rows.now c.args.p c.reserve.new.self c.get_mut-row.result.now c.requires c.get_mut-row.ensures.item c.reserve.ensures.len c.reserve.ensures.capacity

pub returns-clause-room : goal.returns-clause-room
returns-clause-room g c = spare_made c.args.rows.now c.args.p c.reserve.new.self c.requires (let h = c.in_ok-reserve.ensures.ok in omega arith)
