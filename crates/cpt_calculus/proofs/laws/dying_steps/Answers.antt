use Rattle.cpt_calculus.proofs.Confluence.{closes_dead}
use Rattle.cpt_calculus.proofs.laws.dying_steps.Goals as goal

pub returns : goal.returns
returns c = λ rules t b s u steps h dead. closes_dead rules t b steps s u h dead
