use Rattle.std.proofs.Common.{get_or, length}
use Rattle.cpt_branch.specs.Choosing.{IsThreatBy}
use Rattle.cpt_branch.proofs.ChoosingLemmas.{first-all, first-below, first-next}
use Rattle.cpt_branch.proofs.ListLemmas.{deleter-deletes, threats-of-list}
use Rattle.cpt_branch.proofs.choosing.first_threat.Goals as goal

pub loop-foe-init : goal.loop-foe-init
loop-foe-init c = first-below c.args.store.now.sheet (λ i. IsThreatBy c.args.store.now.task c.args.store.now.sheet c.args.x c.args.p (get_or c.deleters-foes.result.now i 0))

pub threat_by-found-requires-clause-deletes : goal.threat_by-found-requires-clause-deletes
threat_by-found-requires-clause-deletes c = deleter-deletes c.args.store.now.task c.args.store.now.sheet c.args.p _ (c.deleters-foes.ensures.sound c.loop-foe.foe-index 0 c.loop-foe-test.true)

pub loop-foe-preserved : goal.loop-foe-preserved
loop-foe-preserved c =
    first-next c.args.store.now.sheet (λ i. IsThreatBy c.args.store.now.task c.args.store.now.sheet c.args.x c.args.p (get_or c.deleters-foes.result.now i 0)) c.loop-foe.foe-index c.loop-foe.first c.threat_by-found.result c.earlier-first.result
    c.loop-foe.invariant c.threat_by-found.ensures c.earlier-first.ensures

pub returns : goal.returns
returns c =
    threats-of-list c.args.store.now.task c.args.store.now.sheet c.args.x c.args.p c.args.y c.deleters-foes.result.now c.loop-foe.first c.requires.supplied c.deleters-foes.ensures
    (first-all c.args.store.now.sheet (λ i. IsThreatBy c.args.store.now.task c.args.store.now.sheet c.args.x c.args.p (get_or c.deleters-foes.result.now i 0)) c.loop-foe.foe-index (length c.deleters-foes.result.now) c.loop-foe.first
    c.loop-foe.auto.foe-index-end c.loop-foe-test.false c.loop-foe.invariant)
