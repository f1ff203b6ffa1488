use Rattle.cpt_engine.proofs.RunLemmas.{led_none, filled_running}
use Rattle.cpt_engine.proofs.running.close.Goals as goal

pub returns-then-dead-clause-led : goal.returns-then-dead-clause-led
returns-then-dead-clause-led g c = led_none _ _ _ _ _ c.requires.lent.formed

pub fill-requires : goal.fill-requires
fill-requires g c = record { lent = c.requires.lent; live = c.if-dead.ensures; tokens = c.requires.tokens; acts = c.requires.acts }

pub run-requires-clause-running : goal.run-requires-clause-running
run-requires-clause-running g c =
    filled_running _ _ _ _ _ _ c.requires.lent.fits c.requires.lent.formed c.requires.few c.requires.tokens c.requires.acts c.requires.idle.idle c.fill.ensures
