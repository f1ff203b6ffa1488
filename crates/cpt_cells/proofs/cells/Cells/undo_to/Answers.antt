use Rattle.std.proofs.Common.{arith, ◌≡◌, ◌∙◌, ℕ, length, get_or, ap, sym, subst}
use Rattle.std.specs.Prelude.{map}
use Rattle.std.proofs.lemmas.List.{length-map}
use Rattle.cpt_task.specs.Shape.{TaskShape}
use Rattle.cpt_layout.specs.Places.{Frame, cut}
use Rattle.cpt_block.specs.Blocks.{IsFrameOf}
use Rattle.cpt_layout.specs.Numbers.{base}
use Rattle.cpt_cells.specs.Shapes.{CellsShape, IsBackAt, written_of}
use Rattle.cpt_cells.specs.Marks.{count_at, mark_of, seen_by, IsHeldBy}
use Rattle.cpt_cells.proofs.Backing.{is_before, back_held, back_seen}
use Rattle.cpt_cells.proofs.Chains.{written_is}
use Rattle.cpt_cells.proofs.Counts.{count_below}
use Rattle.cpt_cells.proofs.cells.Cells.undo_to.Goals as goal

pub undo_to-requires : goal.undo_to-requires
undo_to-requires g c =
    let i = c.self.inside in
    let e : length c.args.self.now.marks ≡ length i.trail.marks = ap (λ (t : CellsShape). length t.marks) (sym c.self.view_is) ∙ length-map i.trail.marks (mark_of i.layout.frame) in
    omega (arith, c.requires)

pub get-number-requires : goal.get-number-requires
get-number-requires g c =
    let i = c.self.inside in
    let s : Frame = i.layout.frame in
    let w = is_before i.trail c.undo_to.new.self s c.args.mark i.end c.self.invariant c.undo_to.ensures.back in
    let k : ℕ = count_at s c.undo_to.new.self.cells in
    let b = count_below (cut s k) (length (cut s k).kinds) in
    omega (arith, c.out_cells-count.ensures, w.cells)

pub end_at-end-requires-clause-tokens : goal.end_at-end-requires-clause-tokens
end_at-end-requires-clause-tokens g c =
    let i = c.self.inside in
    let w = is_before i.trail c.undo_to.new.self i.layout.frame c.args.mark i.end c.self.invariant c.undo_to.ensures.back in
    let n : c.get-number.result ≡ count_at i.layout.frame c.undo_to.new.self.cells = c.get-number.ensures ∙ ap (λ (j : ℕ). get_or c.undo_to.new.self.cells j 0) c.out_cells-count.ensures in
    omega (arith, w.most)

pub truncate-requires : goal.truncate-requires
truncate-requires g c =
    let i = c.self.inside in
    let w = is_before i.trail c.undo_to.new.self i.layout.frame c.args.mark i.end c.self.invariant c.undo_to.ensures.back in
    let n : c.get-number.result ≡ count_at i.layout.frame c.undo_to.new.self.cells = c.get-number.ensures ∙ ap (λ (j : ℕ). get_or c.undo_to.new.self.cells j 0) c.out_cells-count.ensures in
    omega (arith, w.most)

pub invariant_of-self : goal.invariant_of-self
invariant_of-self g c =
    let i = c.self.inside in
    let s : Frame = i.layout.frame in
    let u = c.undo_to.new.self in
    let n : c.get-number.result ≡ count_at s u.cells = c.get-number.ensures ∙ ap (λ (j : ℕ). get_or u.cells j 0) c.out_cells-count.ensures in
    let f : c.truncate.new.self.frame ≡ cut s (count_at s u.cells) = c.truncate.ensures.frame ∙ ap (λ (j : ℕ). cut s j) n in
    let e : c.end_at-end.result ≡ base s (count_at s u.cells) = c.end_at-end.ensures ∙ ap (λ (j : ℕ). base s j) n in
    subst (λ (r : Frame). IsHeldBy u r c.end_at-end.result) (sym f) (subst (λ (j : ℕ). IsHeldBy u (cut s (count_at s u.cells)) j) (sym e) (back_held i.trail u s c.args.mark i.end c.self.invariant c.undo_to.ensures.back))

pub returns-clause-back : goal.returns-clause-back
returns-clause-back g c =
    let i = c.self.inside in
    let s : Frame = i.layout.frame in
    let u = c.undo_to.new.self in
    let n : c.get-number.result ≡ count_at s u.cells = c.get-number.ensures ∙ ap (λ (j : ℕ). get_or u.cells j 0) c.out_cells-count.ensures in
    let f : c.truncate.new.self.frame ≡ cut s (count_at s u.cells) = c.truncate.ensures.frame ∙ ap (λ (j : ℕ). cut s j) n in
    subst (λ (t : CellsShape). IsBackAt c.args.mark t (seen_by u c.truncate.new.self)) c.self.view_is
    (back_seen i.trail u i.layout c.truncate.new.self c.args.mark i.end c.self.invariant c.undo_to.ensures.back f)

pub returns-clause-ticks : goal.returns-clause-ticks
returns-clause-ticks g c =
    let i = c.self.inside in
    let a = written_is c.truncate.new.self.frame c.undo_to.new.self.marks in
    let b = written_is i.layout.frame i.trail.marks in
    let d : written_of (map (mark_of i.layout.frame) i.trail.marks) ≡ written_of c.args.self.now.marks = ap (λ (t : CellsShape). written_of t.marks) c.self.view_is in
    omega (arith, c.undo_to.ensures.ticks)

frame_cut : (t : TaskShape) (f : Frame) (n : ℕ) → IsFrameOf t f → IsFrameOf t (cut f n)
frame_cut t f n h = record { count = h.count; needs = h.needs; adders = h.adders }

pub returns-clause-frame : goal.returns-clause-frame
returns-clause-frame g c t h =
    let f : IsFrameOf t c.self.inside.layout.frame = subst (λ (z : CellsShape). IsFrameOf t z.frame) (sym c.self.view_is) h in
    subst (λ (z : Frame). IsFrameOf t z) (sym c.truncate.ensures.frame) (frame_cut t c.self.inside.layout.frame c.get-number.result f)
