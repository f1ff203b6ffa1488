use Rattle.std.proofs.Common.{◌≡◌, ◌≢◌, ℕ, ◌<◌, false}
use Rattle.cpt_sheet.specs.declared.data.Cand.TheVariants.{Tok}
use Rattle.cpt_sheet.specs.View.{cands, has}
use Rattle.cpt_cells.specs.Lists.{IsSameBut}
use Rattle.cpt_cells.specs.Shapes.{KeepsMarks}
use Rattle.cpt_cells.proofs.cells.Cells.leave_token.Given as goal

abbrev pub invariant-loop-z : goal.invariant-loop-z
invariant-loop-z g l = record {
  frame : l.self.frame ≡ l.fn.self.frame;
  sheet : IsSameBut l.fn.self.sheet l.self.sheet l.x l.p;
  gone : (z : ℕ) → z < l.z → z ≢ l.y → has (Tok z) (cands l.self.sheet l.x l.p) ≡ false;
  stays : has (Tok l.y) (cands l.self.sheet l.x l.p) ≡ has (Tok l.y) (cands l.fn.self.sheet l.x l.p);
  marks : KeepsMarks l.fn.self.marks l.self.marks;
}
