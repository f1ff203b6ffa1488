use Rattle.std.proofs.Common.{rules}
use Rattle.cpt_reach.proofs.UserLemmas.{uses_more}
use Rattle.cpt_reach.proofs.users.add_uses.Goals as goal

pub loop-x-preserved : goal.loop-x-preserved
loop-x-preserved c = uses_more c.args.a c.args.xs.now c.loop-x.x-index c.args.rows.now c.loop-x.rows c.add_use.new.rows c.loop-x-test.true (search rules) c.loop-x.invariant c.in_ok-add_use.ensures
