use Rattle.cpt_rules_tests.proofs.walks.StoreTurns.take_turn.Given as goal

abbrev pub ghosts-turn : goal.ghosts-turn
ghosts-turn a = record { name = a.blank.name; parts = a.blank.parts }
