use Rattle.std.proofs.Common.{◌≡◌, ◌∷◌, [], ◌∙◌, ℕ, ap, sym, subst}
use Rattle.cpt_task.specs.declared.span.Span.{Span}
use Rattle.cpt_tables.specs.Shapes.{set_span_of}
use Rattle.cpt_tables.specs.Spans.{IsBelow}
use Rattle.cpt_sheet.specs.declared.data.Kind.TheVariants.{Start, End}
use Rattle.cpt_sheet.specs.declared.data.Sheet.{Sheet}
use Rattle.cpt_layout.specs.Places.{Frame}
use Rattle.cpt_layout.specs.Sheets.{IsSmall, number_of}
use Rattle.cpt_block.specs.Blocks.{IsFrameOf, grown}
use Rattle.cpt_cells.proofs.Rooting.{first, keeps_none, root_grown, small_below}
use Rattle.cpt_cells.proofs.TaskLists.{frame_more}
use Rattle.cpt_cells.proofs.root.two_tokens.Goals as goal

pub add-requires-2-clause-frame : goal.add-requires-2-clause-frame
add-requires-2-clause-frame g c = subst (λ (f : Frame). IsFrameOf c.args.task.now f) (sym c.in_ok-add.ensures.frame) (frame_more c.args.task.now c.in_ok-cells.cells.frame (Start ∷ []) c.in_ok-cells.ensures.frame)

pub returns-clause-frame : goal.returns-clause-frame
returns-clause-frame g c =
    let one : IsFrameOf c.args.task.now c.add.new.cells.frame = subst (λ (f : Frame). IsFrameOf c.args.task.now f) (sym c.in_ok-add.ensures.frame) (frame_more c.args.task.now c.in_ok-cells.cells.frame (Start ∷ []) c.in_ok-cells.ensures.frame) in
    subst (λ (f : Frame). IsFrameOf c.args.task.now f) (sym c.in_ok-add-2.ensures.frame) (frame_more c.args.task.now c.add.new.cells.frame (End ∷ []) one)

pub returns-clause-sheet : goal.returns-clause-sheet
returns-clause-sheet g c =
    let t = c.args.task.now in
    let w = c.args.tables.now in
    let b : ℕ = c.args.bound in
    let goal_span : Span = set_span_of w.pairs t.goal in
    let small : IsSmall goal_span = small_below goal_span (subst (λ (z : Span). IsBelow 2000000000000000 z) c.gap-first.ensures.value c.gap-first.ensures.small) in
    let one : c.add.new.cells.sheet ≡ first t w b = c.in_ok-add.ensures.sheet ∙ ap (λ (s : Sheet). grown t s Start 0 0) c.in_ok-cells.ensures.sheet in
    let lo : c.number_of_span.result ≡ number_of goal_span = c.number_of_span.ensures ∙ ap number_of c.gap-first.ensures.value in
    c.in_ok-add-2.ensures.sheet
    ∙ (ap (λ (s : Sheet). grown t s End c.number_of_span.result b) one
    ∙ (ap (λ (n : ℕ). grown t (first t w b) End n b) lo ∙ root_grown t w b small))

pub returns-clause-marks : goal.returns-clause-marks
returns-clause-marks g c = keeps_none c.add.new.cells.marks c.add-2.new.cells.marks c.in_ok-add-2.ensures.marks (keeps_none c.in_ok-cells.cells.marks c.add.new.cells.marks c.in_ok-add.ensures.marks c.in_ok-cells.ensures.marks)
