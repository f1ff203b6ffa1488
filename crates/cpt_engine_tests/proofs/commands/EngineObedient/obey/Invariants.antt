use Rattle.cpt_engine_tests.proofs.commands.EngineObedient.obey.Given as goal

abbrev pub ghosts-take_back : goal.ghosts-take_back
ghosts-take_back g a = record { name = a.blank.name; parts = a.blank.parts }
