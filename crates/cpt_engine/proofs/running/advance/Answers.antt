use Rattle.std.proofs.Common.{◌∙◌}
use Rattle.cpt_store.proofs.DeathLemmas.{dead_by}
use Rattle.cpt_engine.proofs.RunLemmas.{can_ask, can_narrow, led_step, live_step, on_step}
use Rattle.cpt_engine.proofs.running.advance.Goals as goal

pub returns-then-dead_at-clause-led : goal.returns-then-dead_at-clause-led
returns-then-dead_at-clause-led g c = led_step _ _ _ _ _ c.args.subject c.args.step _ _ c.requires.running.formed c.requires.proposal c.narrow.ensures.sheet c.in_ok-push.ensures.items

pub wake-requires-clause-can : goal.wake-requires-clause-can
wake-requires-clause-can g c =
    can_ask _ _ c.args.store.now _ c.args.step _ (c.narrow.ensures.task ∙ c.requires.task) c.requires.running.fits c.requires.running.formed c.requires.proposal.legal c.narrow.ensures.sheet (live_step _ _ _ _ _ c.args.step c.args.subject c.narrow.ensures.sheet c.requires.live c.requires.proposal c.if-dead_at.ensures)
    c.requires.running.tokens c.requires.running.acts

pub narrow-requires : goal.narrow-requires
narrow-requires g c = can_narrow c.args.store.now _ _ c.args.step c.requires.task c.requires.running.fits c.requires.running.formed c.requires.proposal.legal

pub returns-clause-advanced : goal.returns-clause-advanced
returns-clause-advanced g c =
    on_step _ _ _ _ _ c.args.step _ _ _ c.narrow.ensures.sheet c.requires.running c.requires.live c.requires.proposal (live_step _ _ _ _ _ c.args.step c.args.subject c.narrow.ensures.sheet c.requires.live c.requires.proposal c.if-dead_at.ensures) c.wake.ensures

pub returns-clause-led : goal.returns-clause-led
returns-clause-led g c = led_step _ _ _ _ _ c.args.subject c.args.step _ _ c.requires.running.formed c.requires.proposal c.narrow.ensures.sheet c.in_ok-push.ensures.items

pub returns-then-dead_at-clause-advanced : goal.returns-then-dead_at-clause-advanced
returns-then-dead_at-clause-advanced g c = dead_by c.narrow.new.self.sheet c.args.subject c.if-dead_at.ensures
