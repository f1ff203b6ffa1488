use Rattle.std.proofs.Common.{refl}
use Rattle.cpt_index.proofs.IndexLemmas.{adds_within, deletes_within, rows_same, spares_from}
use Rattle.cpt_sheet.proofs.GapLemmas.{needs_within}
use Rattle.cpt_index.proofs.index.Index.reserve_rows.Goals as goal

pub reserve_each-requires : goal.reserve_each-requires
reserve_each-requires c = rows_same c.args.self.now.offers _ c.adds_of.result.now _ c.requires.offers c.adds_of.ensures.value (adds_within c.args.task.now c.args.kind c.requires.bounds)

pub reserve_each-requires-2 : goal.reserve_each-requires-2
reserve_each-requires-2 c = rows_same c.args.self.now.deleters _ c.deletes_of.result.now _ c.requires.deleters c.deletes_of.ensures.value (deletes_within c.args.task.now c.args.kind c.requires.bounds)

pub reserve_each-requires-3 : goal.reserve_each-requires-3
reserve_each-requires-3 c = rows_same c.args.self.now.consumers _ c.needs_of.result.now _ c.requires.consumers c.needs_of.ensures.value (needs_within c.args.task.now c.args.kind c.requires.bounds)

pub returns-in_err-reserve_each-clause-same : goal.returns-in_err-reserve_each-clause-same
returns-in_err-reserve_each-clause-same c = record { seats = refl; offers = c.reserve_each.ensures.rows; deleters = refl; consumers = refl; rivals = refl }

pub returns-in_err-reserve_each-2-clause-same : goal.returns-in_err-reserve_each-2-clause-same
returns-in_err-reserve_each-2-clause-same c = record { seats = refl; offers = c.reserve_each.ensures.rows; deleters = c.reserve_each-2.ensures.rows; consumers = refl; rivals = refl }

pub returns-in_err-reserve_each-3-clause-same : goal.returns-in_err-reserve_each-3-clause-same
returns-in_err-reserve_each-3-clause-same c = record { seats = refl; offers = c.reserve_each.ensures.rows; deleters = c.reserve_each-2.ensures.rows; consumers = c.reserve_each-3.ensures.rows; rivals = refl }

pub returns-in_err-reserve_each-4-clause-same : goal.returns-in_err-reserve_each-4-clause-same
returns-in_err-reserve_each-4-clause-same c = record { seats = refl; offers = c.reserve_each.ensures.rows; deleters = c.reserve_each-2.ensures.rows; consumers = c.reserve_each-3.ensures.rows; rivals = c.reserve_each-4.ensures.rows }

pub returns-clause-same : goal.returns-clause-same
returns-clause-same c = record { seats = refl; offers = c.reserve_each.ensures.rows; deleters = c.reserve_each-2.ensures.rows; consumers = c.reserve_each-3.ensures.rows; rivals = c.reserve_each-4.ensures.rows }

pub returns-clause-offers : goal.returns-clause-offers
returns-clause-offers c = spares_from c.reserve_each.new.rows c.adds_of.result.now _ c.adds_of.ensures.value c.in_ok-reserve_each.ensures.room

pub returns-clause-deleters : goal.returns-clause-deleters
returns-clause-deleters c = spares_from c.reserve_each-2.new.rows c.deletes_of.result.now _ c.deletes_of.ensures.value c.in_ok-reserve_each-2.ensures.room

pub returns-clause-consumers : goal.returns-clause-consumers
returns-clause-consumers c = spares_from c.reserve_each-3.new.rows c.needs_of.result.now _ c.needs_of.ensures.value c.in_ok-reserve_each-3.ensures.room

pub returns-clause-rivals : goal.returns-clause-rivals
returns-clause-rivals c = c.in_ok-reserve_each-4.ensures.room
