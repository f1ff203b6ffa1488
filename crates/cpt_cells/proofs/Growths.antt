-- a token more
use Rattle.std.proofs.Common.{◌≡◌, ℕ, zero, suc, ◌+◌, ◌*◌, ◌≤◌, ◌<◌, ◌^◌, List, [], ◌∷◌, ◌++◌, Bool, if◌then◌else◌, length, get_or, set, refl, sym, ◌∙◌, ap, subst, arith}
use Rattle.std.specs.Prelude.{map}
use Rattle.std.proofs.lemmas.List.{length-append, length-set, take-append-le, get_or-set_same, get_or-set_other}
use Rattle.std.proofs.Math.ListN.{get_or-append}
use Rattle.cpt_task.specs.Shape.{TaskShape}
use Rattle.cpt_sheet.specs.declared.data.Interval.{Interval}
use Rattle.cpt_sheet.specs.declared.data.Kind.{Kind}
use Rattle.cpt_sheet.specs.declared.data.Sheet.{Sheet}
use Rattle.cpt_sheet.specs.declared.data.Token.{Token}
use Rattle.cpt_trail.specs.Trails.{Mark, TrailShape, keeps, with_kept}
use Rattle.cpt_layout.specs.Places.{Frame, Place, IsThere, cut, extended, member, order, out_hi, out_lo, tok_hi, tok_lo}
use Rattle.cpt_layout.specs.Numbers.{base, cell_of, cells_in}
use Rattle.cpt_layout.specs.Sheets.{number_at, seen, sheet_from}
use Rattle.cpt_layout.proofs.Changes.{tokens_same}
use Rattle.cpt_layout.proofs.Views.{orders_same, outs_same, sheet_of_parts, token_same}
use Rattle.cpt_block.specs.Blocks.{IsFrameOf, block, grown}
use Rattle.cpt_block.proofs.Sheets.{grows}
use Rattle.cpt_cells.specs.Shapes.{SheetMark, KeepsMarks}
use Rattle.cpt_cells.specs.Marks.{count_at, mark_of, AreOnce, HasRoom, IsChain, IsHeldBy}
use Rattle.cpt_cells.proofs.Chains.{chain_if, chain_most, keeps_if}
use Rattle.cpt_cells.proofs.Counts.{count_apart, count_below}
use Rattle.cpt_cells.proofs.Rooms.{more_room, once_if, room_if}

cut_more : (s : Frame) (ks : List Kind) (c : ℕ) → c ≤ length s.kinds → cut (extended s ks) c ≡ cut s c
cut_more s ks c l = ap (λ (js : List Kind). record s { kinds = js }) (take-append-le c s.kinds ks l)

-- the marks are as they were before the token
pub chain_more : (s : Frame) (ks : List Kind) (low : ℕ) (ms : List Mark) (n m : ℕ) → n ≤ length s.kinds → n ≤ m → IsChain s low ms n → IsChain (extended s ks) low ms m
chain_more s ks low [] n m b l h = omega arith
chain_more s ks low (u ∷ us) n m b l h =
    let c : count_at s u.cells ≤ n = chain_most s (count_at s u.cells) us n h.2 in (
      h.0,
      h.1 ∙ ap (λ (t : Frame). cells_in t) (sym (cut_more s ks (count_at s u.cells) (omega arith))),
      chain_more s ks (count_at s u.cells) us n m b l h.2,
    )

pub marks_more : (s : Frame) (ks : List Kind) (low : ℕ) (ms : List Mark) (n : ℕ) → n ≤ length s.kinds → IsChain s low ms n → map (mark_of (extended s ks)) ms ≡ map (mark_of s) ms
marks_more s ks low [] n b h = refl
marks_more s ks low (u ∷ us) n b h =
    let c : count_at s u.cells ≤ n = chain_most s (count_at s u.cells) us n h.2 in
    let made : Frame → List SheetMark → List SheetMark = λ t ms. record { sheet = seen t u.cells; written = length u.kept } ∷ ms in
    ap (λ (t : Frame). made t (map (mark_of (extended s ks)) us)) (cut_more s ks (count_at s u.cells) (omega arith))
    ∙ ap (λ (ms : List SheetMark). made (cut s (count_at s u.cells)) ms) (marks_more s ks (count_at s u.cells) us n b h.2)

pub keeps_grown : (s : Frame) (ks : List Kind) (c : ℕ) (b : Bool) (ms : List Mark) → IsChain s 0 ms (length s.kinds) → KeepsMarks (map (mark_of s) ms) (map (mark_of (extended s ks)) (if b then with_kept c ms else ms))
keeps_grown s ks c b ms h =
    let us : List Mark = if b then with_kept c ms else ms in
    subst (λ (zs : List SheetMark). KeepsMarks (map (mark_of s) ms) zs) (sym (marks_more s ks 0 us (length s.kinds) (omega arith) (chain_if s 0 c b ms (length s.kinds) h))) (keeps_if s c b ms)

-- the number of tokens is no part of the sheet
sheet_same : (s : Frame) (v w : Place → ℕ) → ((q : Place) → IsThere s q → w q ≡ v q) → sheet_from s w ≡ sheet_from s v
sheet_same s v w h =
    let made : List Token → List Interval → List (ℕ × ℕ) → Sheet = sheet_of_parts s in
    ap (λ (ts : List Token). made ts (sheet_from s w).outs (sheet_from s w).orders) (tokens_same s v w (λ x l. token_same s v w x l (h (tok_lo x) l) (h (tok_hi x) l) (record { same = λ j c r. h (member x j c) r })))
    ∙ (ap (λ (is : List Interval). made (sheet_from s v).tokens is (sheet_from s w).orders) (outs_same s v w (λ a l. h (out_lo a) l) (λ a l. h (out_hi a) l))
    ∙ ap (λ (os : List (ℕ × ℕ)). made (sheet_from s v).tokens (sheet_from s v).outs os) (orders_same s v w (λ x y r. h (order x y) r)))

pub count_unseen : (s : Frame) (cells : List ℕ) (n : ℕ) → seen s (set cells (2 * length s.pre) n) ≡ seen s cells
count_unseen s cells n = sheet_same s (number_at s cells) (number_at s (set cells (2 * length s.pre) n))
    (λ q h. get_or-set_other cells (2 * length s.pre) (cell_of s q) n 0 (count_apart s q h))

pub grown_seen : (t : TaskShape) (s : Frame) (cells numbers : List ℕ) (k : Kind) (n lo hi : ℕ) → IsFrameOf t s → length cells ≡ cells_in s → numbers ≡ block t s (seen s cells) k lo hi →
    seen (extended s (k ∷ [])) (set cells (2 * length s.pre) n ++ numbers) ≡ grown t (seen s cells) k lo hi
grown_seen t s cells numbers k n lo hi f e b =
    let u : Frame = extended s (k ∷ []) in
    let put : List ℕ = set cells (2 * length s.pre) n in
    let same : seen s put ≡ seen s cells = count_unseen s cells n in
    ap (λ (xs : List ℕ). seen u (put ++ xs)) (b ∙ ap (λ (sh : Sheet). block t s sh k lo hi) (sym same))
    ∙ (grows t s put k lo hi f (length-set cells (2 * length s.pre) n ∙ e)
    ∙ ap (λ (sh : Sheet). grown t sh k lo hi) same)

-- cells with a token more
pub held_more : (t u : TrailShape) (s : Frame) (k : Kind) (end tokens : ℕ) (numbers : List ℕ) → IsHeldBy t s end → length numbers + cells_in s ≡ cells_in (extended s (k ∷ [])) → cells_in (extended s (k ∷ [])) < 2 ^ 64 →
    tokens ≡ length s.kinds + 1 → u.cells ≡ set t.cells (2 * length s.pre) tokens ++ numbers → u.marks ≡ (if keeps (2 * length s.pre) t.marks then with_kept (2 * length s.pre) t.marks else t.marks) →
    u.entry_room + (if keeps (2 * length s.pre) t.marks then 1 else 0) ≡ t.entry_room → IsHeldBy u (extended s (k ∷ [])) (end + length numbers)
held_more t u s k end tokens numbers h size fits e c m r =
    let x : Frame = extended s (k ∷ []) in
    let q : ℕ = 2 * length s.pre in
    let b : Bool = keeps q t.marks in
    let put : List ℕ = set t.cells q tokens in
    let ls : length put ≡ length t.cells = length-set t.cells q tokens in
    let l : length u.cells ≡ length put + length numbers = ap (λ (xs : List ℕ). length xs) c ∙ length-append put numbers in
    let below = count_below s (length s.kinds) in
    let more : length x.kinds ≡ length s.kinds + 1 = length-append s.kinds (k ∷ []) in
    record {
      cells = omega (arith, h.cells);
      end = omega (arith, h.end);
      fits = omega (arith, h.cells);
      tokens =
          ap (λ (xs : List ℕ). get_or xs q 0) c
          ∙ (get_or-append put numbers 0 q (omega (arith, h.cells)) ∙ (get_or-set_same t.cells q tokens 0 (omega (arith, h.cells)) ∙ (e ∙ sym more)));
      adders = h.adders;
      chain = subst (λ (ms : List Mark). IsChain x 0 ms (length x.kinds)) (sym m) (chain_more s (k ∷ []) 0 (if b then with_kept q t.marks else t.marks) (length s.kinds) (length x.kinds) (omega arith) (omega arith) (chain_if s 0 q b t.marks (length s.kinds) h.chain));
      once = subst (λ (ms : List Mark). AreOnce ms) (sym m) (once_if q t.marks h.once);
      room = subst (λ (ms : List Mark). HasRoom u.entry_room ms) (sym m) (room_if t.entry_room u.entry_room q t.marks r h.room);
    }

-- there are more cells than tokens
pub tokens_below : (s : Frame) (n : ℕ) → n + 1 ≤ base s n
tokens_below s zero = omega arith
tokens_below s (suc n) = (let h = tokens_below s n in omega arith)

-- more room
pub held_reserved : (t u : TrailShape) (s : Frame) (n : ℕ) → IsHeldBy t s n → u.cells ≡ t.cells → u.marks ≡ t.marks → t.entry_room ≤ u.entry_room → IsHeldBy u s n
held_reserved t u s n h c m r =
    let e : length u.cells ≡ length t.cells = ap (λ (xs : List ℕ). length xs) c in
    record {
      cells = e ∙ h.cells;
      end = h.end ∙ sym e;
      fits = omega (arith, h.fits);
      tokens = ap (λ (xs : List ℕ). count_at s xs) c ∙ h.tokens;
      adders = h.adders;
      chain = subst (λ (ms : List Mark). IsChain s 0 ms (length s.kinds)) (sym m) h.chain;
      once = subst (λ (ms : List Mark). AreOnce ms) (sym m) h.once;
      room = subst (λ (ms : List Mark). HasRoom u.entry_room ms) (sym m) (more_room t.entry_room u.entry_room t.marks r h.room);
    }
