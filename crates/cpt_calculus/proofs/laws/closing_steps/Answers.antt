use Rattle.cpt_calculus.proofs.Confluence.{closes_live}
use Rattle.cpt_calculus.proofs.laws.closing_steps.Goals as goal

pub returns : goal.returns
returns c = λ rules t b s u steps f h live closed. closes_live rules t b steps s u f h live closed
