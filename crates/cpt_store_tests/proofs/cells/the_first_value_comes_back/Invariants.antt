use Rattle.cpt_store_tests.proofs.cells.the_first_value_comes_back.Given as goal

abbrev pub ghosts-write_twice : goal.ghosts-write_twice
ghosts-write_twice g a = record { name = a.blank.name; parts = a.blank.parts }
