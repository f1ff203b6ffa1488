use Rattle.std.proofs.Common.{◌*◌, ◌≢◌, length, get_or, arith, ◌≡◌, ◌∙◌, ℕ, List, set, ap, sym, subst}
use Rattle.std.specs.Prelude.{map}
use Rattle.std.proofs.lemmas.List.{length-set, get_or-set_other}
use Rattle.cpt_trail.specs.Trails.{Mark, keeps}
use Rattle.cpt_layout.specs.Places.{Frame, IsThere}
use Rattle.cpt_layout.specs.Numbers.{cell_of}
use Rattle.cpt_layout.specs.Puts.{Puts}
use Rattle.cpt_layout.specs.Sheets.{seen}
use Rattle.cpt_layout.proofs.Putting.{puts}
use Rattle.cpt_cells.specs.Marks.{count_at, mark_of, IsChain, AreOnce, HasRoom}
use Rattle.cpt_cells.specs.Shapes.{CellsShape, KeepsMarks, IsCellOf}
use Rattle.cpt_cells.proofs.Chains.{chain_if, keeps_if}
use Rattle.cpt_cells.proofs.Counts.{count_apart}
use Rattle.cpt_layout.proofs.Numbering.{cell_below}
use Rattle.cpt_cells.proofs.Rooms.{room_there, once_if, room_if}
use Rattle.cpt_cells.proofs.cells.Cells.put.Goals as goal

pub returns-clause-sheet : goal.returns-clause-sheet
returns-clause-sheet g c q h e =
    let s : Frame = c.self.inside.layout.frame in
    let cells : List ℕ = c.self.inside.trail.cells in
    let f : s ≡ c.args.self.now.frame = ap (λ (t : CellsShape). t.frame) c.self.view_is in
    let k : IsThere s q = subst (λ (r : Frame). IsThere r q) (sym f) h in
    let n : cell_of s q ≡ c.args.cell = ap (λ (r : Frame). cell_of r q) f ∙ sym e in
    let w : set cells (cell_of s q) c.args.value ≡ c.write.new.self.cells = ap (λ (i : ℕ). set cells i c.args.value) n ∙ sym c.write.ensures.cells in
    subst (λ (t : CellsShape). Puts t.frame t.sheet (seen s c.write.new.self.cells) q c.args.value) c.self.view_is
    (subst (λ (cs : List ℕ). Puts s (seen s cells) (seen s cs) q c.args.value) w (puts s cells q c.args.value k c.self.invariant.cells))

pub returns-clause-marks : goal.returns-clause-marks
returns-clause-marks g c =
    let i = c.self.inside in
    let s : Frame = i.layout.frame in
    subst (λ (t : CellsShape). KeepsMarks t.marks (map (mark_of s) c.write.new.self.marks)) c.self.view_is
    (subst (λ (ms : List Mark). KeepsMarks (map (mark_of s) i.trail.marks) (map (mark_of s) ms)) (sym c.write.ensures.marks) (keeps_if s c.args.cell (keeps c.args.cell i.trail.marks) i.trail.marks))

pub write-requires-clause-there : goal.write-requires-clause-there
write-requires-clause-there g c =
    let s : Frame = c.self.inside.layout.frame in
    let r : IsCellOf s c.args.cell = subst (λ (t : CellsShape). IsCellOf t.frame c.args.cell) (sym c.self.view_is) c.requires in
    let b = cell_below s r.place r.there in
    omega (arith, r.cell, c.self.invariant.cells)

pub write-requires-clause-room : goal.write-requires-clause-room
write-requires-clause-room g c k = room_there c.self.inside.trail.entry_room c.args.cell c.self.inside.trail.marks c.self.invariant.once c.self.invariant.room k

pub invariant_of-self : goal.invariant_of-self
invariant_of-self g c =
    let i = c.self.inside in
    let s : Frame = i.layout.frame in
    let w = c.write.ensures in
    let h = c.self.invariant in
    let e : length c.write.new.self.cells ≡ length i.trail.cells = ap (λ (xs : List ℕ). length xs) w.cells ∙ length-set i.trail.cells c.args.cell c.args.value in
    let r : IsCellOf s c.args.cell = subst (λ (t : CellsShape). IsCellOf t.frame c.args.cell) (sym c.self.view_is) c.requires in
    let a : c.args.cell ≢ 2 * length s.pre = λ z. count_apart s r.place r.there (sym r.cell ∙ z) in
    let o : get_or (set i.trail.cells c.args.cell c.args.value) (2 * length s.pre) 0 ≡ get_or i.trail.cells (2 * length s.pre) 0 = get_or-set_other i.trail.cells c.args.cell (2 * length s.pre) c.args.value 0 (λ z. a (sym z)) in
    record {
      cells = e ∙ h.cells;
      end = h.end ∙ sym e;
      fits = omega (arith, h.fits);
      tokens = ap (λ (xs : List ℕ). count_at s xs) w.cells ∙ (o ∙ h.tokens);
      adders = h.adders;
      chain = subst (λ (ms : List Mark). IsChain s 0 ms (length s.kinds)) (sym w.marks) (chain_if s 0 c.args.cell (keeps c.args.cell i.trail.marks) i.trail.marks (length s.kinds) h.chain);
      once = subst (λ (ms : List Mark). AreOnce ms) (sym w.marks) (once_if c.args.cell i.trail.marks h.once);
      room = subst (λ (ms : List Mark). HasRoom c.write.new.self.entry_room ms) (sym w.marks) (room_if i.trail.entry_room c.write.new.self.entry_room c.args.cell i.trail.marks w.entry_room h.room);
    }
