use Rattle.cpt_calculus.proofs.Confluence.{one_end}
use Rattle.cpt_calculus.proofs.laws.one_closure.Goals as goal

pub returns : goal.returns
returns c = λ rules t b s u v h k. one_end rules t b s u v h k
