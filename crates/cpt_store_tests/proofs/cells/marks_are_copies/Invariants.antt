use Rattle.cpt_store_tests.proofs.cells.marks_are_copies.Given as goal

abbrev pub ghosts-walk : goal.ghosts-walk
ghosts-walk g a = record { name = a.blank.name; parts = a.blank.parts }
