use Rattle.cpt_calculus.proofs.Monotone.{step_mono}
use Rattle.cpt_calculus.proofs.laws.monotone_rules.Goals as goal

pub returns : goal.returns
returns c = λ rules t b above below step o h live legal. step_mono t b above below h live step legal
