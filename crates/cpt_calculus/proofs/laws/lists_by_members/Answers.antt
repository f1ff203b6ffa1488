use Rattle.cpt_calculus.proofs.Members.{lists_by_members}
use Rattle.cpt_calculus.proofs.laws.lists_by_members.Goals as goal

pub returns : goal.returns
returns c = lists_by_members
