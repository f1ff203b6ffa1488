use Rattle.std.proofs.Common.{arith, get_or}
use Rattle.cpt_index.specs.Rows.{contents, with_last}
use Rattle.cpt_index.proofs.RowLemmas.{count_of, edited_more, place_apart, spare_within}
use Rattle.cpt_index.proofs.rows.push_each.Goals as goal

pub loop-p-preserved : goal.loop-p-preserved
loop-p-preserved g c = record {
  edited = edited_more (with_last c.args.item) c.args.at.now c.loop-p.p-index (contents c.args.rows.now) (contents c.loop-p.rows) (contents c.push_at.new.rows) c.requires.once c.loop-p-test.true
      (let n = count_of c.args.rows.now in let lt = spare_within c.args.rows.now (get_or c.args.at.now c.loop-p.p-index 0) (c.requires.room c.loop-p.p-index 0 c.loop-p-test.true) in omega arith)
      c.loop-p.invariant.edited c.push_at.ensures.rows;
  room = λ j le lt. c.push_at.ensures.others (get_or c.args.at.now j 0) (place_apart c.args.at.now c.requires.once c.loop-p.p-index j (omega arith) lt) (c.loop-p.invariant.room j (omega arith) lt);
}
