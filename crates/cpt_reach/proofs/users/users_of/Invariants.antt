use Rattle.cpt_reach.specs.Marking.{IsUsersUpTo}
use Rattle.cpt_reach.proofs.users.users_of.Given as goal

abbrev pub invariant-loop-a : goal.invariant-loop-a
invariant-loop-a l = IsUsersUpTo l.task l.a l.rows.items
