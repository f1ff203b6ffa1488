use Rattle.cpt_rules_tests.proofs.chains.StoreTwoChains.is_apart.Given as goal

abbrev pub ghosts-decided_apart : goal.ghosts-decided_apart
ghosts-decided_apart a = record { name = a.blank.name; parts = a.blank.parts }
