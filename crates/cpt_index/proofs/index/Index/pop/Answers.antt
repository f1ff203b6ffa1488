use Rattle.std.proofs.Common.{refl, sym, ◌∙◌}
use Rattle.cpt_index.specs.Index.{kinds_in}
use Rattle.cpt_index.specs.Rows.{contents, without_last}
use Rattle.cpt_index.proofs.IndexLemmas.{adds_within, deletes_within, edited_for, foes_within, increasing_as, index_empty, index_less, rows_within, seat_last}
use Rattle.cpt_sheet.proofs.GapLemmas.{needs_within}
use Rattle.cpt_index.proofs.index.Index.pop.Goals as goal

pub pop_each-requires-clause-once : goal.pop_each-requires-clause-once
pop_each-requires-clause-once c = increasing_as c.adds_of.result.now _ c.adds_of.ensures.value c.adds_of.ensures.increasing

pub pop_each-requires-clause-within : goal.pop_each-requires-clause-within
pop_each-requires-clause-within c = rows_within c.args.self.now.offers _ c.adds_of.result.now _ c.requires.offers.count c.adds_of.ensures.value (adds_within c.args.task.now c.in-Some.seat.kind c.requires.bounds)

pub pop_each-requires-in-Some-clause-once : goal.pop_each-requires-in-Some-clause-once
pop_each-requires-in-Some-clause-once c = increasing_as c.deletes_of.result.now _ c.deletes_of.ensures.value c.deletes_of.ensures.increasing

pub pop_each-requires-in-Some-clause-within : goal.pop_each-requires-in-Some-clause-within
pop_each-requires-in-Some-clause-within c =
    rows_within c.args.self.now.deleters _ c.deletes_of.result.now _ c.requires.deleters.count c.deletes_of.ensures.value (deletes_within c.args.task.now c.in-Some.seat.kind c.requires.bounds)

pub pop_each-requires-in-Some-2-clause-once : goal.pop_each-requires-in-Some-2-clause-once
pop_each-requires-in-Some-2-clause-once c = increasing_as c.needs_of.result.now _ c.needs_of.ensures.value c.needs_of.ensures.increasing

pub pop_each-requires-in-Some-2-clause-within : goal.pop_each-requires-in-Some-2-clause-within
pop_each-requires-in-Some-2-clause-within c =
    rows_within c.args.self.now.consumers _ c.needs_of.result.now _ c.requires.consumers.count c.needs_of.ensures.value (needs_within c.args.task.now c.in-Some.seat.kind c.requires.bounds)

pub pop_each-requires-in-Some-3-clause-once : goal.pop_each-requires-in-Some-3-clause-once
pop_each-requires-in-Some-3-clause-once c =
    increasing_as c.as_slice.result.now c.in-Some.seat.foes c.as_slice.ensures (seat_last c.args.task.now c.args.self.now.seats.items c.pop.new.self.items c.in-Some.seat c.in-Some.ensures.items c.requires.seats).increasing

pub pop_each-requires-in-Some-3-clause-within : goal.pop_each-requires-in-Some-3-clause-within
pop_each-requires-in-Some-3-clause-within c =
    rows_within c.args.self.now.rivals _ c.as_slice.result.now c.in-Some.seat.foes c.requires.rivals.count c.as_slice.ensures
    (foes_within c.args.task.now c.in-Some.seat.kind c.in-Some.seat.foes (seat_last c.args.task.now c.args.self.now.seats.items c.pop.new.self.items c.in-Some.seat c.in-Some.ensures.items c.requires.seats))

pub returns-in-Some : goal.returns-in-Some
returns-in-Some c =
    index_less c.args.task.now (kinds_in c.args.self.now) c.args.self.now
    (record { offers = c.pop_each.new.rows; deleters = c.pop_each-in-Some.new.rows; consumers = c.pop_each-in-Some-2.new.rows; rivals = c.pop_each-in-Some-3.new.rows; seats = c.pop.new.self })
    c.in-Some.seat c.requires c.in-Some.ensures.items
    (edited_for without_last c.adds_of.result.now _ (contents c.args.self.now.offers) (contents c.pop_each.new.rows) c.adds_of.ensures.value c.pop_each.ensures)
    (edited_for without_last c.deletes_of.result.now _ (contents c.args.self.now.deleters) (contents c.pop_each-in-Some.new.rows) c.deletes_of.ensures.value c.pop_each-in-Some.ensures)
    (edited_for without_last c.needs_of.result.now _ (contents c.args.self.now.consumers) (contents c.pop_each-in-Some-2.new.rows) c.needs_of.ensures.value c.pop_each-in-Some-2.ensures)
    (edited_for without_last c.as_slice.result.now _ (contents c.args.self.now.rivals) (contents c.pop_each-in-Some-3.new.rows) c.as_slice.ensures c.pop_each-in-Some-3.ensures)

pub returns-in-None : goal.returns-in-None
returns-in-None c =
    index_empty c.args.task.now (kinds_in c.args.self.now) c.args.self.now
    (record { offers = c.args.self.now.offers; deleters = c.args.self.now.deleters; consumers = c.args.self.now.consumers; rivals = c.args.self.now.rivals; seats = c.pop.new.self })
    (sym c.args.self.now.seats.ok.0 ∙ c.in-None.ensures.cases.0) (sym c.pop.new.self.ok.0 ∙ c.in-None.ensures.cases.1) refl refl refl refl c.requires
