use Rattle.std.proofs.Common.{arith}
use Rattle.cpt_index.specs.Rows.{contents, without_last}
use Rattle.cpt_index.proofs.RowLemmas.{count_of, edited_more}
use Rattle.cpt_index.proofs.rows.pop_each.Goals as goal

pub loop-p-preserved : goal.loop-p-preserved
loop-p-preserved g c =
    edited_more without_last c.args.at.now c.loop-p.p-index (contents c.args.rows.now) (contents c.loop-p.rows) (contents c.pop_at.new.rows) c.requires.once c.loop-p-test.true
    (let n = count_of c.args.rows.now in let lt = c.requires.within c.loop-p.p-index 0 c.loop-p-test.true in omega arith) c.loop-p.invariant c.pop_at.ensures
