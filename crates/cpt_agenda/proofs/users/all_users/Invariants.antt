use Rattle.std.proofs.Common.{◌≡◌, ℕ, ◌<◌, length}
use Rattle.cpt_agenda.specs.Users.{IsUsersOf, nth_users}
use Rattle.cpt_agenda.proofs.users.all_users.Given as goal

abbrev pub invariant-loop-p : goal.invariant-loop-p
invariant-loop-p l = record {
  count : length l.lists.items ≡ l.p;
  each : (q : ℕ) → q < l.p → IsUsersOf l.task q (nth_users l.lists.items q);
}
