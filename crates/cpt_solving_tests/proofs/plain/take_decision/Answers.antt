use Rattle.cpt_solving_tests.proofs.plain.take_decision.Goals as goal

pub returns-in-Ok : goal.returns-in-Ok
returns-in-Ok c = c.in-Ok.ensures.formed c.requires.formed
