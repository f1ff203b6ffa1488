use Rattle.cpt_engine.proofs.running.start.Goals as goal

pub close-requires-clause-lent : goal.close-requires-clause-lent
close-requires-clause-lent g c = record { task = c.in_ok-store.ensures.task; fits = c.requires.tables; formed = c.in_ok-store.ensures.formed }
