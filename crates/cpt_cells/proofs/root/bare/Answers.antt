use Rattle.std.proofs.Common.{◌≡◌, ◌+◌, ◌*◌, ◌∙◌, ℕ, List, length, ap, sym, subst}
use Rattle.cpt_task.specs.declared.task.Action.{Action}
use Rattle.cpt_layout.specs.Places.{Frame}
use Rattle.cpt_layout.specs.Sheets.{seen}
use Rattle.cpt_block.specs.Blocks.{IsFrameOf}
use Rattle.cpt_cells.specs.Roots.{frame_for}
use Rattle.cpt_cells.specs.Shapes.{CellsShape}
use Rattle.cpt_cells.proofs.Rooting.{bare_held, bare_seen, out_small}
use Rattle.cpt_cells.proofs.TaskLists.{frame_ok}
use Rattle.cpt_cells.proofs.root.bare.Goals as goal

pub of_parts-requires : goal.of_parts-requires
of_parts-requires c =
    bare_held c.args.task.now c.args.tables.now c.args.bound (2 * length c.actions.result.now + 1) c.in_ok-trail.trail c.in_ok-layout.layout.frame c.actions.ensures.bounds
    c.in_ok-layout.ensures c.in_ok-trail.ensures.cells c.in_ok-trail.ensures.marks (ap (λ (xs : List Action). 2 * length xs + 1) c.actions.ensures.value)

pub returns-clause-frame : goal.returns-clause-frame
returns-clause-frame c =
    let e : c.of_parts.result.frame ≡ frame_for c.args.task.now c.args.bound = ap (λ (z : CellsShape). z.frame) c.of_parts.ensures ∙ c.in_ok-layout.ensures in
    subst (λ (f : Frame). IsFrameOf c.args.task.now f) (sym e) (frame_ok c.args.task.now c.args.bound c.actions.ensures.bounds)

pub returns-clause-sheet : goal.returns-clause-sheet
returns-clause-sheet c =
    let t = c.args.task.now in
    let w = c.args.tables.now in
    ap (λ (z : CellsShape). z.sheet) c.of_parts.ensures
    ∙ (ap (λ (f : Frame). seen f c.in_ok-trail.trail.cells) c.in_ok-layout.ensures
    ∙ (ap (λ (xs : List ℕ). seen (frame_for t c.args.bound) xs) c.in_ok-trail.ensures.cells
    ∙ bare_seen t w c.args.bound (λ a l. out_small t w c.args.bound c.actions.ensures.bounds c.requires a)))
