-- going back, over tokens that were brought since
use Rattle.std.proofs.Common.{◌≡◌, ℕ, ◌+◌, ◌≤◌, List, ◌∷◌, ◌++◌, length, take, sym, ◌∙◌, ap, subst, arith}
use Rattle.std.specs.Prelude.{map}
use Rattle.std.proofs.lemmas.List.{map-append, length-map}
use Rattle.cpt_trail.specs.Trails.{Mark, TrailShape, IsBackTo, entries_of}
use Rattle.cpt_layout.specs.Places.{Frame, cut}
use Rattle.cpt_layout.specs.Numbers.{base, cells_in}
use Rattle.cpt_layout.specs.Shapes.{LayoutShape}
use Rattle.cpt_layout.specs.Sheets.{seen}
use Rattle.cpt_layout.proofs.Laying.{base_cut, length_cut}
use Rattle.cpt_cells.specs.Shapes.{SheetMark, IsBackAt}
use Rattle.cpt_cells.specs.Marks.{count_at, mark_of, IsChain, AreOnce, HasRoom, seen_by, IsHeldBy}
use Rattle.cpt_cells.proofs.Chains.{chain_back, chain_cut, marks_cut}
use Rattle.cpt_cells.proofs.Counts.{base_most}
use Rattle.cpt_cells.proofs.Rooms.{once_rest, room_rest}

-- what is known of the cells that came back
pub record IsBefore (u : TrailShape) (s : Frame) : Type 0 where
  pub chain : IsChain s 0 u.marks (count_at s u.cells)
  pub cells : length u.cells ≡ cells_in (cut s (count_at s u.cells))
  pub most : count_at s u.cells ≤ length s.kinds

pub is_before : (t u : TrailShape) (s : Frame) (n m : ℕ) → IsHeldBy t s m → IsBackTo n t u → IsBefore u s
is_before t u s n m h b =
    let c = chain_back s 0 u.marks b.mark b.newer (length s.kinds) (subst (λ (ms : List Mark). IsChain s 0 ms (length s.kinds)) b.marks h.chain) in
    record {
      chain = subst (λ (cs : List ℕ). IsChain s 0 u.marks (count_at s cs)) (sym b.cells) c.0;
      cells = subst (λ (cs : List ℕ). length cs ≡ cells_in (cut s (count_at s cs))) (sym b.cells) c.1;
      most = subst (λ (cs : List ℕ). count_at s cs ≤ length s.kinds) (sym b.cells) c.2;
    }

pub end_before : (u : TrailShape) (s : Frame) → IsBefore u s → base s (count_at s u.cells) ≡ length u.cells
end_before u s b =
    let k : ℕ = count_at s u.cells in
    base_cut s k k b.most (omega arith) ∙ (ap (λ (i : ℕ). base (cut s k) i) (sym (length_cut s k b.most)) ∙ sym b.cells)

pub back_held : (t u : TrailShape) (s : Frame) (n m : ℕ) → IsHeldBy t s m → IsBackTo n t u → IsHeldBy u (cut s (count_at s u.cells)) (base s (count_at s u.cells))
back_held t u s n m h b =
    let k : ℕ = count_at s u.cells in
    let w = is_before t u s n m h b in
    let e : length (take k s.kinds) ≡ k = length_cut s k w.most in
    record {
      cells = w.cells;
      end = end_before u s w;
      fits = (let p = base_most s k (length s.kinds) w.most in let q = end_before u s w in omega (arith, h.cells, h.fits));
      tokens = sym e;
      adders = h.adders;
      chain = subst (λ (i : ℕ). IsChain (cut s k) 0 u.marks i) (sym e) (chain_cut s 0 u.marks k w.chain);
      once = once_rest u.marks (b.mark ∷ b.newer) (subst (λ (ms : List Mark). AreOnce ms) b.marks h.once);
      room = room_rest t.entry_room u.entry_room u.marks (b.mark ∷ b.newer) (b.entry_room ∙ ap (λ (ms : List Mark). t.entry_room + entries_of ms) b.marks) (subst (λ (ms : List Mark). HasRoom t.entry_room ms) b.marks h.room);
    }

pub back_seen : (t u : TrailShape) (l r : LayoutShape) (n m : ℕ) → IsHeldBy t l.frame m → IsBackTo n t u → r.frame ≡ cut l.frame (count_at l.frame u.cells) → IsBackAt n (seen_by t l) (seen_by u r)
back_seen t u l r n m h b f =
    let s : Frame = l.frame in
    let k : ℕ = count_at s u.cells in
    let w = is_before t u s n m h b in
    record {
      mark = mark_of s b.mark;
      newer = map (mark_of s) b.newer;
      marks =
          ap (λ (ms : List Mark). map (mark_of s) ms) b.marks ∙ (map-append (mark_of s) u.marks (b.mark ∷ b.newer)
          ∙ ap (λ (ms : List SheetMark). ms ++ mark_of s b.mark ∷ map (mark_of s) b.newer) (sym (ap (λ (q : Frame). map (mark_of q) u.marks) f ∙ marks_cut s 0 u.marks k w.chain)));
      older = length-map u.marks (mark_of r.frame) ∙ b.older;
      sheet = ap (λ (q : Frame). seen q u.cells) f ∙ ap (λ (cs : List ℕ). seen (cut s (count_at s cs)) cs) b.cells;
    }
