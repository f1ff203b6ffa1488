use Rattle.std.proofs.Common.{[], subst, sym}
use Rattle.cpt_check.specs.Progress.{IsPast}
use Rattle.cpt_check.proofs.Lines.{nothing_past}
use Rattle.cpt_check.proofs.past.start.Goals as goal

pub returns : goal.returns
returns c = λ t. subst (λ z. IsPast t [] (record { stage = z; count = 0 })) (sym c.begin.ensures) (nothing_past t)
