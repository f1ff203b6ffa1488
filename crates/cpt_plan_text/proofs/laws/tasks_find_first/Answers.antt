use Rattle.cpt_plan_text.proofs.Finding.{known_first, first_known, unknown_none, none_unknown}
use Rattle.cpt_plan_text.proofs.laws.tasks_find_first.Goals as goal

pub returns-clause-known : goal.returns-clause-known
returns-clause-known c = λ t name act. (known_first t name act, first_known t name act)

pub returns-clause-unknown : goal.returns-clause-unknown
returns-clause-unknown c = λ t name. (unknown_none t name, none_unknown t name)
