use Rattle.std.proofs.Common.{arith, ◌≡◌, ◌≤◌, ◌∙◌, ◌++◌, ◌∷◌, [], ℕ, List, length, ap, sym, subst}
use Rattle.std.specs.Prelude.{map}
use Rattle.std.proofs.lemmas.List.{map-append}
use Rattle.cpt_trail.specs.Trails.{Mark}
use Rattle.cpt_layout.specs.Places.{Frame, cut}
use Rattle.cpt_layout.specs.Numbers.{cells_in}
use Rattle.cpt_layout.specs.Sheets.{seen}
use Rattle.cpt_cells.specs.Shapes.{CellsShape, SheetMark}
use Rattle.cpt_cells.specs.Marks.{count_at, mark_of, IsChain, AreOnce, HasRoom}
use Rattle.cpt_cells.proofs.Chains.{chain_mark, cut_now}
use Rattle.cpt_cells.proofs.Rooms.{once_mark, room_mark}
use Rattle.cpt_cells.proofs.cells.Cells.mark.Goals as goal

pub invariant_of-self : goal.invariant_of-self
invariant_of-self c =
    let i = c.self.inside in
    let s : Frame = i.layout.frame in
    let w = c.mark.ensures in
    let h = c.self.invariant in
    let e : length c.mark.new.self.cells ≡ length i.trail.cells = ap (λ (xs : List ℕ). length xs) w.cells in
    let m : Mark = record { cells = i.trail.cells; kept = [] } in
    let k : cut s (count_at s i.trail.cells) ≡ s = cut_now s i.trail.cells h.tokens in
    let l : length m.cells ≡ cells_in (cut s (count_at s m.cells)) = h.cells ∙ ap (λ (t : Frame). cells_in t) (sym k) in
    let n : c.args.self.now.cells ≡ length i.trail.cells = ap (λ (t : CellsShape). t.cells) (sym c.self.view_is) in
    let r : c.args.self.now.entry_room ≡ i.trail.entry_room = ap (λ (t : CellsShape). t.entry_room) (sym c.self.view_is) in
    let o : c.mark.new.self.entry_room ≡ i.trail.entry_room = w.entry_room in
    let room : length i.trail.cells ≤ i.trail.entry_room = omega (arith, c.requires.entries) in
    record {
      cells = e ∙ h.cells;
      end = h.end ∙ sym e;
      fits = omega (arith, h.fits);
      tokens = ap (λ (xs : List ℕ). count_at s xs) w.cells ∙ h.tokens;
      adders = h.adders;
      chain = subst (λ (ms : List Mark). IsChain s 0 ms (length s.kinds)) (sym w.marks) (chain_mark s 0 i.trail.marks m (length s.kinds) h.chain h.tokens l);
      once = subst (λ (ms : List Mark). AreOnce ms) (sym w.marks) (once_mark i.trail.cells i.trail.marks h.once);
      room = subst (λ (j : ℕ). HasRoom j c.mark.new.self.marks) (sym o) (subst (λ (ms : List Mark). HasRoom i.trail.entry_room ms) (sym w.marks) (room_mark i.trail.entry_room i.trail.cells i.trail.marks room h.room));
    }

pub returns-clause-marks : goal.returns-clause-marks
returns-clause-marks c =
    let i = c.self.inside in
    let s : Frame = i.layout.frame in
    let m : Mark = record { cells = i.trail.cells; kept = [] } in
    let k : cut s (count_at s i.trail.cells) ≡ s = cut_now s i.trail.cells c.self.invariant.tokens in
    let seen_as : Frame → List SheetMark = λ t. map (mark_of s) i.trail.marks ++ record { sheet = seen t i.trail.cells; written = 0 } ∷ [] in
    ap (λ (ms : List Mark). map (mark_of s) ms) c.mark.ensures.marks
    ∙ (map-append (mark_of s) i.trail.marks (m ∷ []) ∙ (ap seen_as k
    ∙ ap (λ (t : CellsShape). t.marks ++ record { sheet = t.sheet; written = 0 } ∷ []) c.self.view_is))
