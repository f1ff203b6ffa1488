use Rattle.std.proofs.Common.{ℕ, List, refl}
use Rattle.cpt_sheet.specs.declared.data.Cand.{Cand}
use Rattle.cpt_layout.specs.Places.{Frame, atom_at}
use Rattle.cpt_block.specs.Blocks.{list_in}
use Rattle.cpt_cells.proofs.Nths.{empty_is}
use Rattle.cpt_cells.proofs.cells.Cells.is_empty.Goals as goal

pub returns : goal.returns
returns c =
    let f : Frame = c.args.self.now.frame in
    let cs : List Cand = list_in c.args.self.now.sheet c.args.x c.args.j in
    let p : ℕ = atom_at f c.args.x c.args.j in
    empty_is f p p cs cs c.keeps_order_at.ensures refl refl c.has_token.result (c.has_out.ensures.none c.if-has_out.false) c.has_token.ensures.full c.has_token.ensures.none
