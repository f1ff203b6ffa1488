use Rattle.cpt_cells.proofs.cells.Cells.root.Given as goal

abbrev pub ghosts-rooted : goal.ghosts-rooted
ghosts-rooted a = record { name = a.blank.name; parts = a.blank.parts }
