-- marks of sheets
use Rattle.std.proofs.Common.{◌≡◌, ℕ, ◌+◌, ◌≤◌, List, [], ◌∷◌, ◌++◌, Bool, true, false, if◌then◌else◌, length, take, refl, sym, ◌∙◌, ap, subst, arith}
use Rattle.std.specs.Prelude.{map}
use Rattle.std.proofs.lemmas.List.{same_from_push, take-take}
use Rattle.std.proofs.Math.Seq.{take-length}
use Rattle.cpt_sheet.specs.declared.data.Kind.{Kind}
use Rattle.cpt_sheet.specs.declared.data.Sheet.{Sheet}
use Rattle.cpt_trail.specs.Trails.{Mark, with_kept, entries_of}
use Rattle.cpt_layout.specs.Places.{Frame, cut}
use Rattle.cpt_layout.specs.Numbers.{cells_in}
use Rattle.cpt_layout.specs.Sheets.{seen}
use Rattle.cpt_cells.specs.Shapes.{SheetMark, KeepsMarks, same, newest, written_of}
use Rattle.cpt_cells.specs.Marks.{count_at, mark_of, IsChain}

pub chain_most : (s : Frame) (low : ℕ) (ms : List Mark) (n : ℕ) → IsChain s low ms n → low ≤ n
chain_most s low [] n h = h
chain_most s low (m ∷ ms) n h = (let k = chain_most s (count_at s m.cells) ms n h.2 in let l = h.0 in omega arith)

-- a mark, and those before it
pub chain_back : (s : Frame) (low : ℕ) (us : List Mark) (m : Mark) (newer : List Mark) (n : ℕ) → IsChain s low (us ++ m ∷ newer) n →
    IsChain s low us (count_at s m.cells) × (length m.cells ≡ cells_in (cut s (count_at s m.cells))) × (count_at s m.cells ≤ n)
chain_back s low [] m newer n h = (h.0, h.1, chain_most s (count_at s m.cells) newer n h.2)
chain_back s low (u ∷ us) m newer n h = (let t = chain_back s (count_at s u.cells) us m newer n h.2 in ((h.0, h.1, t.0), t.1, t.2))

pub chain_mark : (s : Frame) (low : ℕ) (ms : List Mark) (m : Mark) (n : ℕ) → IsChain s low ms n → count_at s m.cells ≡ n → length m.cells ≡ cells_in (cut s (count_at s m.cells)) → IsChain s low (ms ++ m ∷ []) n
chain_mark s low [] m n h e l = (omega arith, l, omega arith)
chain_mark s low (u ∷ us) m n h e l = (h.0, h.1, chain_mark s (count_at s u.cells) us m n h.2 e l)

cut_cut : (s : Frame) (c k : ℕ) → c ≤ k → cut (cut s k) c ≡ cut s c
cut_cut s c k l = ap (λ (ks : List Kind). record s { kinds = ks }) (take-take c k s.kinds l)

-- the marks before the cut are as they were
pub chain_cut : (s : Frame) (low : ℕ) (us : List Mark) (k : ℕ) → IsChain s low us k → IsChain (cut s k) low us k
chain_cut s low [] k h = h
chain_cut s low (u ∷ us) k h =
    let c : count_at s u.cells ≤ k = chain_most s (count_at s u.cells) us k h.2 in (
      h.0,
      h.1 ∙ ap (λ (t : Frame). cells_in t) (sym (cut_cut s (count_at s u.cells) k c)),
      chain_cut s (count_at s u.cells) us k h.2,
    )

pub marks_cut : (s : Frame) (low : ℕ) (us : List Mark) (k : ℕ) → IsChain s low us k → map (mark_of (cut s k)) us ≡ map (mark_of s) us
marks_cut s low [] k h = refl
marks_cut s low (u ∷ us) k h =
    let c : count_at s u.cells ≤ k = chain_most s (count_at s u.cells) us k h.2 in
    let made : Frame → List SheetMark → List SheetMark = λ t ms. record { sheet = seen t u.cells; written = length u.kept } ∷ ms in
    ap (λ (t : Frame). made t (map (mark_of (cut s k)) us)) (cut_cut s (count_at s u.cells) k c)
    ∙ ap (λ (ms : List SheetMark). made (cut s (count_at s u.cells)) ms) (marks_cut s (count_at s u.cells) us k h.2)

-- a write
pub chain_with : (s : Frame) (low c : ℕ) (ms : List Mark) (n : ℕ) → IsChain s low ms n → IsChain s low (with_kept c ms) n
chain_with s low c [] n h = h
chain_with s low c (m ∷ []) n h = h
chain_with s low c (m ∷ (u ∷ ms)) n h = (h.0, h.1, chain_with s (count_at s m.cells) c (u ∷ ms) n h.2)

pub chain_if : (s : Frame) (low c : ℕ) (b : Bool) (ms : List Mark) (n : ℕ) → IsChain s low ms n → IsChain s low (if b then with_kept c ms else ms) n
chain_if s low c true ms n h = chain_with s low c ms n h
chain_if s low c false ms n h = h

keeps_more : (x : SheetMark) (old new : List SheetMark) → KeepsMarks old new → KeepsMarks (x ∷ old) (x ∷ new)
keeps_more x old new (same e) = same (ap (λ (ms : List SheetMark). x ∷ ms) e)
keeps_more x old new (newest ms s m n e f) = newest (x ∷ ms) s m n (ap (λ (us : List SheetMark). x ∷ us) e) (ap (λ (us : List SheetMark). x ∷ us) f)

pub keeps_with : (s : Frame) (c : ℕ) (ms : List Mark) → KeepsMarks (map (mark_of s) ms) (map (mark_of s) (with_kept c ms))
keeps_with s c [] = same refl
keeps_with s c (m ∷ []) = newest [] (mark_of s m).sheet (length m.kept) (length (m.kept ++ c ∷ [])) refl refl
keeps_with s c (m ∷ (u ∷ ms)) = keeps_more (mark_of s m) (map (mark_of s) (u ∷ ms)) (map (mark_of s) (with_kept c (u ∷ ms))) (keeps_with s c (u ∷ ms))

pub keeps_if : (s : Frame) (c : ℕ) (b : Bool) (ms : List Mark) → KeepsMarks (map (mark_of s) ms) (map (mark_of s) (if b then with_kept c ms else ms))
keeps_if s c true ms = keeps_with s c ms
keeps_if s c false ms = same refl

-- the entries of a trail are the cells that are counted as written
pub written_is : (s : Frame) (ms : List Mark) → entries_of ms ≡ written_of (map (mark_of s) ms)
written_is s [] = refl
written_is s (m ∷ ms) = ap (λ (n : ℕ). length m.kept + n) (written_is s ms)

-- a frame with all its tokens
pub cut_all : (s : Frame) (n : ℕ) → take n s.kinds ≡ s.kinds → cut s n ≡ s
cut_all s n e = ap (λ (ks : List Kind). record s { kinds = ks }) e

pub cut_now : (s : Frame) (cells : List ℕ) → count_at s cells ≡ length s.kinds → cut s (count_at s cells) ≡ s
cut_now s cells e = cut_all s (count_at s cells) (ap (λ (n : ℕ). take n s.kinds) e ∙ take-length s.kinds)

-- marks that are kept twice
pub keeps_then : (ls ms ns : List SheetMark) → KeepsMarks ls ms → KeepsMarks ms ns → KeepsMarks ls ns
keeps_then ls ms ns (same e) k = subst (λ (us : List SheetMark). KeepsMarks us ns) e k
keeps_then ls ms ns (newest xs s m n e f) (same g) = newest xs s m n e (g ∙ f)
keeps_then ls ms ns (newest xs s m n e f) (newest ys u k l g h) =
    let p = same_from_push xs ys (record { sheet = s; written = n }) (record { sheet = u; written = k }) (sym f ∙ g) in
    let a : s ≡ u = ap (λ (z : SheetMark). z.sheet) p.1 in
    newest xs s m l e (h ∙ ap (λ (z : List SheetMark). z ++ record { sheet = u; written = l } ∷ []) (sym p.0) ∙ ap (λ (z : Sheet). xs ++ record { sheet = z; written = l } ∷ []) (sym a))
