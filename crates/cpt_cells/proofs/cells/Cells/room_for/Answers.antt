use Rattle.std.proofs.Common.{arith, ◌≡◌, ◌<◌, ◌≤◌, ◌+◌, ◌^◌, ◌∷◌, [], ◌∙◌, ℕ, List, Result, Ok, Err, length, ap, sym, subst}
use Rattle.std.specs.Prelude.{OnOk}
use Rattle.cpt_task.specs.declared.memory.Memory.{Memory}
use Rattle.cpt_sheet.specs.declared.data.Kind.{Kind}
use Rattle.cpt_layout.specs.Places.{Frame, extended, needs_by}
use Rattle.cpt_layout.specs.Numbers.{cells_in}
use Rattle.cpt_layout.specs.Sheets.{seen}
use Rattle.cpt_block.specs.Blocks.{block}
use Rattle.cpt_block.proofs.Lookups.{block_length}
use Rattle.cpt_cells.specs.Shapes.{CellsShape, HasRoomFor}
use Rattle.cpt_cells.proofs.cells.Cells.room_for.Goals as goal

room_ok : (r : Result (Unit {0}) Memory) (c : CellsShape) (k : Kind) (count needs : ℕ) → count + cells_in c.frame ≡ cells_in (extended c.frame (k ∷ [])) → cells_in (extended c.frame (k ∷ [])) < 2 ^ 64 →
    needs ≡ length (needs_by c.frame k) → OnOk r (count ≤ c.cell_room) → OnOk r (1 ≤ c.token_room) → OnOk r (needs ≤ c.need_room) → OnOk r (HasRoomFor c k count)
room_ok (Ok x) c k count needs s f e a b d = record { size = s; fits = f; cell_room = a; token_room = omega arith; need_room = omega arith }
room_ok (Err x) c k count needs s f e a b d = tt

pub returns-clause-token : goal.returns-clause-token
returns-clause-token c =
    let k : Kind = c.args.kind in
    let s : Frame = c.self.inside.layout.frame in
    let cells : List ℕ = c.self.inside.trail.cells in
    let w = c.reserve.ensures in
    let q : length (block c.args.task.now s (seen s cells) k 0 0) + cells_in s ≡ cells_in (extended s (k ∷ [])) = block_length c.args.task.now s cells k 0 0 c.self.invariant.cells in
    let b : c.args.count ≡ length (block c.args.task.now s (seen s cells) k 0 0) = c.requires.count ∙ ap (λ (z : CellsShape). length (block c.args.task.now z.frame z.sheet k 0 0)) (sym c.self.view_is) in
    let size : c.args.count + cells_in s ≡ cells_in (extended s (k ∷ [])) = omega arith in
    let fits : cells_in (extended s (k ∷ [])) < 2 ^ 64 = omega (arith, c.if-count-self.false, c.self.invariant.end, c.self.invariant.cells) in
    let frame : c.reserve.new.self.frame ≡ s = w.frame ∙ ap (λ (z : CellsShape). z.frame) (sym c.self.view_is) in
    let needs : length c.needs_of.result.now ≡ length (needs_by c.reserve.new.self.frame k) =
    ap (λ (ns : List ℕ). length ns) c.needs_of.ensures.value ∙ (ap (λ (ns : List ℕ). length ns) (sym (c.requires.frame.needs k)) ∙ ap (λ (f : Frame). length (needs_by f k)) (sym w.frame)) in
    room_ok c.reserve.result c.reserve.new.self k c.args.count (length c.needs_of.result.now)
    (subst (λ (f : Frame). c.args.count + cells_in f ≡ cells_in (extended f (k ∷ []))) (sym frame) size)
    (subst (λ (f : Frame). cells_in (extended f (k ∷ [])) < 2 ^ 64) (sym frame) fits)
    needs w.cell_room w.token_room w.need_room
