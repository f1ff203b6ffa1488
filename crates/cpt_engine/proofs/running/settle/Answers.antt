use Rattle.cpt_engine.proofs.RunLemmas.{led_none, grown_none, names_after, stirred_running}
use Rattle.cpt_engine.proofs.running.settle.Goals as goal

pub returns-then-dead-clause-led : goal.returns-then-dead-clause-led
returns-then-dead-clause-led g c = led_none _ _ _ _ _ c.requires.lent.formed

pub returns-then-dead-clause-grown : goal.returns-then-dead-clause-grown
returns-then-dead-clause-grown g c = grown_none _

pub stir-requires-clause-can : goal.stir-requires-clause-can
stir-requires-clause-can g c = record { lent = c.requires.lent; live = c.if-dead.ensures; tokens = c.requires.tokens; acts = c.requires.acts }

pub stir-requires-clause-named : goal.stir-requires-clause-named
stir-requires-clause-named g c = names_after _ c.requires.after.before _ c.args.decision.now c.requires.after.after c.requires.after.fits c.requires.after.formed

pub run-requires-clause-running : goal.run-requires-clause-running
run-requires-clause-running g c =
    stirred_running _ _ _ _ _ _ _ c.requires.after c.requires.lent.fits c.requires.lent.formed c.requires.few c.requires.tokens c.requires.acts c.requires.idle.idle c.stir.ensures
