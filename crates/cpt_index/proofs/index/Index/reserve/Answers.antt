use Rattle.std.proofs.Common.{ap, arith, refl, ◌∙◌}
use Rattle.cpt_index.specs.Index.{kinds_in}
use Rattle.cpt_index.proofs.IndexLemmas.{count_same, foes_within, rows_within, same_index, seats_room, spares_from}
use Rattle.cpt_index.proofs.index.Index.reserve.Goals as goal

pub returns-in_err-reserve-clause-same : goal.returns-in_err-reserve-clause-same
returns-in_err-reserve-clause-same c = same_index c.args.task.now (kinds_in c.args.self.now) c.args.self.now _ c.reserve.ensures.items refl refl refl refl c.requires

pub reserve_rows-requires : goal.reserve_rows-requires
reserve_rows-requires c = record {
  bounds = c.requires.bounds;
  offers = count_same c.args.self.now.offers _ c.requires.offers.count;
  deleters = count_same c.args.self.now.deleters _ c.requires.deleters.count;
  consumers = count_same c.args.self.now.consumers _ c.requires.consumers.count;
  rivals = rows_within c.args.self.now.rivals _ c.as_slice.result.now c.in_ok-foes.foes c.requires.rivals.count c.as_slice.ensures (foes_within c.args.task.now c.args.kind c.in_ok-foes.foes c.in_ok-foes.ensures);
}

pub returns-in_err-reserve_rows-clause-same : goal.returns-in_err-reserve_rows-clause-same
returns-in_err-reserve_rows-clause-same c =
    let s = c.reserve_rows.ensures.same in
    same_index c.args.task.now (kinds_in c.args.self.now) c.args.self.now c.reserve_rows.new.self (ap (λ v. v.items) s.seats ∙ c.reserve.ensures.items) s.offers s.deleters s.consumers s.rivals c.requires

pub returns-clause-same : goal.returns-clause-same
returns-clause-same c =
    let s = c.reserve_rows.ensures.same in
    same_index c.args.task.now (kinds_in c.args.self.now) c.args.self.now c.reserve_rows.new.self (ap (λ v. v.items) s.seats ∙ c.reserve.ensures.items) s.offers s.deleters s.consumers s.rivals c.requires

pub returns-clause-room : goal.returns-clause-room
returns-clause-room c = record {
  seats = seats_room c.reserve.new.self c.reserve_rows.new.self.seats c.reserve_rows.ensures.same.seats (let h = c.in_ok-reserve.ensures.ok in omega arith);
  offers = c.in_ok-reserve_rows.ensures.offers;
  deleters = c.in_ok-reserve_rows.ensures.deleters;
  consumers = c.in_ok-reserve_rows.ensures.consumers;
  rivals = spares_from c.reserve_rows.new.self.rivals c.as_slice.result.now _ c.as_slice.ensures c.in_ok-reserve_rows.ensures.rivals;
}
