use Rattle.std.proofs.Common.{sym}
use Rattle.cpt_branch.proofs.FirstLemmas.{threat-found}
use Rattle.cpt_branch.proofs.choosing.threat_by.Goals as goal

pub returns-then-not-before-2 : goal.returns-then-not-before-2
returns-then-not-before-2 c =
    threat-found c.args.store.now.task c.args.store.now.sheet c.args.x c.args.p c.args.y c.args.d c.requires.supplied c.requires.deletes c.if-d-x.true c.if-d-y.true (sym c.if-not-before.ensures) (sym c.if-not-before-2.ensures)
