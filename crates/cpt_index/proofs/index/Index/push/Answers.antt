use Rattle.std.proofs.Common.{ap, arith, ◌∙◌}
use Rattle.cpt_sheet.specs.declared.data.Cand.TheVariants.{Tok}
use Rattle.cpt_index.specs.Index.{kinds_in}
use Rattle.cpt_index.specs.Rows.{contents}
use Rattle.cpt_index.proofs.IndexLemmas.{count_in, edited_as, increasing_as, index_more, spares_as}
use Rattle.cpt_index.proofs.index.Index.push.Goals as goal

pub overflow_cast-number : goal.overflow_cast-number
overflow_cast-number c = omega (arith, c.requires.few, c.len-number.ensures, count_in c.args.self.now)

pub push_each-requires-clause-once : goal.push_each-requires-clause-once
push_each-requires-clause-once c = increasing_as c.adds_of.result.now _ c.adds_of.ensures.value c.adds_of.ensures.increasing

pub push_each-requires-clause-room : goal.push_each-requires-clause-room
push_each-requires-clause-room c = spares_as c.args.self.now.offers c.adds_of.result.now _ c.adds_of.ensures.value c.requires.room.offers

pub push_each-requires-2-clause-once : goal.push_each-requires-2-clause-once
push_each-requires-2-clause-once c = increasing_as c.deletes_of.result.now _ c.deletes_of.ensures.value c.deletes_of.ensures.increasing

pub push_each-requires-2-clause-room : goal.push_each-requires-2-clause-room
push_each-requires-2-clause-room c = spares_as c.args.self.now.deleters c.deletes_of.result.now _ c.deletes_of.ensures.value c.requires.room.deleters

pub push_each-requires-3-clause-once : goal.push_each-requires-3-clause-once
push_each-requires-3-clause-once c = increasing_as c.needs_of.result.now _ c.needs_of.ensures.value c.needs_of.ensures.increasing

pub push_each-requires-3-clause-room : goal.push_each-requires-3-clause-room
push_each-requires-3-clause-room c = spares_as c.args.self.now.consumers c.needs_of.result.now _ c.needs_of.ensures.value c.requires.room.consumers

pub push_each-requires-4-clause-once : goal.push_each-requires-4-clause-once
push_each-requires-4-clause-once c = increasing_as c.as_slice.result.now c.args.seat.foes c.as_slice.ensures c.requires.seat.increasing

pub push_each-requires-4-clause-room : goal.push_each-requires-4-clause-room
push_each-requires-4-clause-room c = spares_as c.args.self.now.rivals c.as_slice.result.now c.args.seat.foes c.as_slice.ensures c.requires.room.rivals

pub push_reserved-requires : goal.push_reserved-requires
push_reserved-requires c = c.requires.room.seats

pub returns : goal.returns
returns c =
    let n = c.len-number.ensures ∙ c.args.self.now.seats.ok.0 in
    index_more c.args.task.now (kinds_in c.args.self.now) c.args.self.now
    (record { offers = c.push_each.new.rows; deleters = c.push_each-2.new.rows; consumers = c.push_each-3.new.rows; rivals = c.push_each-4.new.rows; seats = c.push_reserved.new.self })
    c.args.seat c.requires.index c.requires.seat c.push_reserved.ensures.items
    (edited_as _ _ c.adds_of.result.now _ (contents c.args.self.now.offers) (contents c.push_each.new.rows) (ap Tok n) c.adds_of.ensures.value c.push_each.ensures)
    (edited_as _ _ c.deletes_of.result.now _ (contents c.args.self.now.deleters) (contents c.push_each-2.new.rows) n c.deletes_of.ensures.value c.push_each-2.ensures)
    (edited_as _ _ c.needs_of.result.now _ (contents c.args.self.now.consumers) (contents c.push_each-3.new.rows) n c.needs_of.ensures.value c.push_each-3.ensures)
    (edited_as _ _ c.as_slice.result.now _ (contents c.args.self.now.rivals) (contents c.push_each-4.new.rows) n c.as_slice.ensures c.push_each-4.ensures)
