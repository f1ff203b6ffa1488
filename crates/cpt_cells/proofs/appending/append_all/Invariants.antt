use Rattle.std.proofs.Common.{◌≡◌, ◌+◌, ◌++◌, take}
use Rattle.cpt_cells.proofs.appending.append_all.Given as goal

abbrev pub invariant-loop-number : goal.invariant-loop-number
invariant-loop-number l = record {
  cells : l.trail.cells ≡ l.fn.trail.cells ++ take l.number-index l.numbers;
  marks : l.trail.marks ≡ l.fn.trail.marks;
  entry_room : l.trail.entry_room ≡ l.fn.trail.entry_room;
  cell_room : l.trail.cell_room + l.number-index ≡ l.fn.trail.cell_room;
}
