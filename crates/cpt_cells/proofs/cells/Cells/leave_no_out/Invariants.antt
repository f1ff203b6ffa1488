use Rattle.std.proofs.Common.{◌≡◌, ℕ, ◌<◌, false, get_or}
use Rattle.cpt_sheet.specs.declared.data.Cand.TheVariants.{Tok, Out}
use Rattle.cpt_sheet.specs.View.{cands, has}
use Rattle.cpt_layout.specs.Places.{adders_at}
use Rattle.cpt_cells.specs.Lists.{IsSameBut}
use Rattle.cpt_cells.specs.Shapes.{KeepsMarks}
use Rattle.cpt_cells.proofs.cells.Cells.leave_no_out.Given as goal

abbrev pub invariant-loop-place : goal.invariant-loop-place
invariant-loop-place g l = record {
  frame : l.self.frame ≡ l.fn.self.frame;
  sheet : IsSameBut l.fn.self.sheet l.self.sheet l.x l.p;
  gone : (k : ℕ) → k < l.place → has (Out (get_or (adders_at l.fn.self.frame l.p) k 0)) (cands l.self.sheet l.x l.p) ≡ false;
  stays : (z : ℕ) → has (Tok z) (cands l.self.sheet l.x l.p) ≡ has (Tok z) (cands l.fn.self.sheet l.x l.p);
  marks : KeepsMarks l.fn.self.marks l.self.marks;
}
