use Rattle.std.proofs.Common.{◌∙◌, arith}
use Rattle.cpt_index.proofs.RowLemmas.{spares_all, spares_more}
use Rattle.cpt_index.proofs.rows.reserve_each.Goals as goal

pub loop-p-preserved : goal.loop-p-preserved
loop-p-preserved g c = record {
  rows = c.reserve_at.ensures.rows ∙ c.loop-p.invariant.rows;
  room = spares_more c.loop-p.rows c.reserve_at.new.rows c.args.at.now c.loop-p.p-index c.loop-p-test.true c.loop-p.invariant.room c.reserve_at.ensures.others c.in_ok-reserve_at.ensures.room;
}

pub returns-clause-room : goal.returns-clause-room
returns-clause-room g c = spares_all c.loop-p.rows c.args.at.now c.loop-p.p-index (omega arith) c.loop-p.invariant.room
