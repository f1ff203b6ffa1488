use Rattle.std.proofs.Common.{List, sym, subst}
use Rattle.cpt_agenda.specs.declared.users.AtomUsers.{AtomUsers}
use Rattle.cpt_agenda.specs.Users.{IsUsersOf, nth_users}
use Rattle.cpt_agenda.proofs.users.users_of_task.Goals as goal

pub returns : goal.returns
returns c = record { atoms = λ p. subst (λ (l : List AtomUsers). IsUsersOf c.args.task.now p (nth_users l p)) (sym c.from_vec.ensures) (c.in_ok-atoms.ensures p) }
