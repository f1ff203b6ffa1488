use Rattle.std.proofs.Common.{sym, subst}
use Rattle.cpt_thin.specs.Thinner.{AreBegun}
use Rattle.cpt_thin.proofs.Thins.{begun_push}
use Rattle.cpt_thin.proofs.thinning.note_node.Goals as goal

pub returns-in_ok-push : goal.returns-in_ok-push
returns-in_ok-push c = λ t walk few begun. subst (AreBegun t) (sym c.in_ok-push.ensures.items) (begun_push t c.args.walk.now c.args.place _ _ c.in_ok-sheet.sheet _ c.in-Node.is c.in_ok-sheet.ensures walk few begun)
