use Rattle.std.proofs.Common.{◌≡◌, ◌<◌, length, ap, subst}
use Rattle.cpt_sheet.specs.View.{cands, has}
use Rattle.cpt_layout.specs.Places.{Frame, NoTwice, all_cands, kept}
use Rattle.cpt_layout.specs.Sheets.{number_at}
use Rattle.cpt_layout.proofs.Cands.{no_twice}
use Rattle.cpt_cells.specs.Shapes.{CellsShape}
use Rattle.cpt_cells.proofs.Listed.{token_in}
use Rattle.cpt_cells.proofs.Ordered.{in_order}
use Rattle.cpt_cells.proofs.cells.Cells.keeps_order.Goals as goal

pub returns-clause-order : goal.returns-clause-order
returns-clause-order c =
    let s : Frame = c.self.inside.layout.frame in
    let k : c.args.x < length s.kinds = token_in s c.self.inside.trail.cells c.args.self.now c.args.x (ap (λ (t : CellsShape). t.sheet) c.self.view_is) c.requires in
    subst (λ (t : CellsShape). cands t.sheet c.args.x c.args.p ≡ kept (λ d. has d (cands t.sheet c.args.x c.args.p)) (all_cands t.frame c.args.p)) c.self.view_is
    (in_order s (number_at s c.self.inside.trail.cells) c.args.x c.args.p k c.self.invariant.adders)

pub returns-clause-once : goal.returns-clause-once
returns-clause-once c = subst (λ (t : CellsShape). NoTwice (all_cands t.frame c.args.p)) c.self.view_is (no_twice c.self.inside.layout.frame c.args.p (c.self.invariant.adders c.args.p))
