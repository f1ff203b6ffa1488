use Rattle.cpt_calculus.proofs.Members.{orders_by_members}
use Rattle.cpt_calculus.proofs.laws.orders_by_members.Goals as goal

pub returns : goal.returns
returns c = orders_by_members
