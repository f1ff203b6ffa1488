use Rattle.std.proofs.Common.{length}
use Rattle.cpt_pddl.proofs.ladder.+lifted.Given as goal

abbrev pub decreases-lifted : goal.decreases-lifted
decreases-lifted l = length l.rows.now
