use Rattle.std.proofs.Common.{[], subst, sym}
use Rattle.cpt_thin.specs.Fronts.{IsFrontOf}
use Rattle.cpt_thin.proofs.FrontLines.{no_front}
use Rattle.cpt_thin.proofs.fronts.begin_front.Goals as goal

pub returns : goal.returns
returns c = λ t. subst (λ z. IsFrontOf t [] (record { stage = z; count = 0 })) (sym c.begin.ensures) (no_front t)
