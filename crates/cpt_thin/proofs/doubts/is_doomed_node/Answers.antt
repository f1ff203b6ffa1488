use Rattle.cpt_thin.proofs.Doomed.{doomed_ok}
use Rattle.cpt_thin.proofs.doubts.is_doomed_node.Goals as goal

pub is_doomed-requires-clause-going : goal.is_doomed-requires-clause-going
is_doomed-requires-clause-going c = (rw c.in-Some.is at c.in_ok-walk.ensures).going c.args.task.now c.args.place c.requires.walk c.requires.few

pub returns-in-Some : goal.returns-in-Some
returns-in-Some c = doomed_ok c.args.task.now c.args.tables.now c.args.walk.now c.in-Some.walk _ c.is_doomed.result (rw c.in-Some.is at c.in_ok-walk.ensures) c.is_doomed.ensures
