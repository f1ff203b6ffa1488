-- going back mark by mark
use Rattle.std.proofs.Common.{ℕ, List, ◌∷◌, ◌++◌, ◌∙◌, ap, arith, append_assoc}
use Rattle.cpt_trail.specs.Trails.{Mark, TrailShape, IsBackTo}

-- back to a mark, and from there to an older one
pub back_further : (t u w : TrailShape) (n m : ℕ) → IsBackTo n t u → IsBackTo m u w → IsBackTo m t w
back_further t u w n m h k =
    record {
      mark = k.mark;
      newer = k.newer ++ h.mark ∷ h.newer;
      marks = h.marks ∙ (ap (λ (ms : List Mark). ms ++ h.mark ∷ h.newer) k.marks ∙ append_assoc w.marks (k.mark ∷ k.newer) (h.mark ∷ h.newer));
      older = k.older;
      cells = k.cells;
      cell_room = k.cell_room ∙ h.cell_room;
      entry_room = omega (arith, k.entry_room, h.entry_room);
      mark_room = omega (arith, k.mark_room, h.mark_room);
    }
