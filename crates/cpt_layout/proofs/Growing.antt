-- further tokens move no cell
use Rattle.std.proofs.Common.{◌≡◌, ℕ, suc, zero, ◌+◌, ◌*◌, ◌≤◌, ◌<◌, List, if◌then◌else◌, length, get_or, refl, ◌∙◌, ap, arith}
use Rattle.std.specs.Prelude.{nat_lt}
use Rattle.std.proofs.Math.ListN.{get_or-append}
use Rattle.cpt_sheet.specs.declared.data.Cand.TheVariants.{Tok, Out}
use Rattle.cpt_sheet.specs.declared.data.Kind.{Kind}
use Rattle.cpt_sheet.specs.declared.data.Kind.TheVariants.{Start}
use Rattle.cpt_layout.specs.Places.{Place, out_lo, out_hi, tok_lo, tok_hi, order, member, Frame, extended, IsThere, needs_by, needs_at, atom_at, adders_at, kind_at, place_in}
use Rattle.cpt_layout.specs.Numbers.{needs_before, own_cells, cells_before, size_of, base, head, cell_of}
use Rattle.cpt_layout.proofs.Numbering.{in_tokens}

pub needs_by_same : (s : Frame) (ks : List Kind) (l : Kind) → needs_by (extended s ks) l ≡ needs_by s l
needs_by_same s ks l = refl

pub needs_same : (s : Frame) (ks : List Kind) (x : ℕ) → x < length s.kinds → needs_at (extended s ks) x ≡ needs_at s x
needs_same s ks x l = needs_by_same s ks (kind_at (extended s ks) x) ∙ ap (λ (j : Kind). needs_by s j) (get_or-append s.kinds ks Start x l)

atom_same : (s : Frame) (ks : List Kind) (x j : ℕ) → x < length s.kinds → atom_at (extended s ks) x j ≡ atom_at s x j
atom_same s ks x j l = ap (λ (ns : List ℕ). get_or ns j 0) (needs_same s ks x l)

pub before_same : (s : Frame) (ks : List Kind) (n : ℕ) → n ≤ length s.kinds → needs_before (extended s ks) n ≡ needs_before s n
before_same s ks zero l = refl
before_same s ks (suc n) l = ap (λ (i : ℕ). i + length (needs_at (extended s ks) n)) (before_same s ks n (omega arith)) ∙ ap (λ (ns : List ℕ). needs_before s n + length ns) (needs_same s ks n (omega arith))

cells_same : (s : Frame) (ks : List Kind) (x n : ℕ) → x < length s.kinds → cells_before (extended s ks) x n ≡ cells_before s x n
cells_same s ks x n l = ap (λ (ns : List ℕ). own_cells s.adders x ns n) (needs_same s ks x l)

size_same : (s : Frame) (ks : List Kind) (x : ℕ) → x < length s.kinds → size_of (extended s ks) x ≡ size_of s x
size_same s ks x l =
    ap (λ (i : ℕ). 2 + 2 * x + i + cells_before (extended s ks) x (length (needs_at (extended s ks) x))) (before_same s ks x (omega arith))
    ∙ (ap (λ (i : ℕ). 2 + 2 * x + needs_before s x + i) (cells_same s ks x (length (needs_at (extended s ks) x)) l)
    ∙ ap (λ (ns : List ℕ). 2 + 2 * x + needs_before s x + cells_before s x (length ns)) (needs_same s ks x l))

pub base_same : (s : Frame) (ks : List Kind) (n : ℕ) → n ≤ length s.kinds → base (extended s ks) n ≡ base s n
base_same s ks zero l = refl
base_same s ks (suc n) l = ap (λ (i : ℕ). i + size_of (extended s ks) n) (base_same s ks n (omega arith)) ∙ ap (λ (i : ℕ). base s n + i) (size_same s ks n (omega arith))

pub head_same : (s : Frame) (ks : List Kind) (x j : ℕ) → x < length s.kinds → head (extended s ks) x j ≡ head s x j
head_same s ks x j l =
    ap (λ (i : ℕ). i + (2 + 2 * x + needs_before (extended s ks) x + cells_before (extended s ks) x j)) (base_same s ks x (omega arith))
    ∙ (ap (λ (i : ℕ). base s x + (2 + 2 * x + i + cells_before (extended s ks) x j)) (before_same s ks x (omega arith))
    ∙ ap (λ (i : ℕ). base s x + (2 + 2 * x + needs_before s x + i)) (cells_same s ks x j l))

-- each place of the older tokens keeps its cell
pub cell_same : (s : Frame) (ks : List Kind) (q : Place) → IsThere s q → cell_of (extended s ks) q ≡ cell_of s q
cell_same s ks (out_lo a) h = refl
cell_same s ks (out_hi a) h = refl
cell_same s ks (tok_lo x) h = base_same s ks x (omega arith)
cell_same s ks (tok_hi x) h = ap (λ (i : ℕ). i + 1) (base_same s ks x (omega arith))
cell_same s ks (order x y) h = (let a = h.0 in let b = h.1 in
    ap (λ (i : ℕ). if nat_lt x y then i + (2 + 2 * x) else base (extended s ks) x + (3 + 2 * y)) (base_same s ks y (omega arith))
    ∙ ap (λ (i : ℕ). if nat_lt x y then base s y + (2 + 2 * x) else i + (3 + 2 * y)) (base_same s ks x (omega arith)))
cell_same s ks (member x j (Tok y)) h = (let a = h.0 in let b = in_tokens s (atom_at s x j) y h.2 in
    ap (λ (i : ℕ). if nat_lt y x then i + (2 + y) else base (extended s ks) y + (2 + 2 * y + (needs_before (extended s ks) x + j))) (head_same s ks x j a)
    ∙ (ap (λ (i : ℕ). if nat_lt y x then head s x j + (2 + y) else i + (2 + 2 * y + (needs_before (extended s ks) x + j))) (base_same s ks y (omega arith))
    ∙ ap (λ (i : ℕ). if nat_lt y x then head s x j + (2 + y) else base s y + (2 + 2 * y + (i + j))) (before_same s ks x (omega arith))))
cell_same s ks (member x j (Out c)) h =
    ap (λ (i : ℕ). i + (2 + x + place_in c (adders_at s (atom_at (extended s ks) x j)))) (head_same s ks x j h.0)
    ∙ ap (λ (p : ℕ). head s x j + (2 + x + place_in c (adders_at s p))) (atom_same s ks x j h.0)

-- the block of the next token begins where the cells ended
pub new_base : (s : Frame) (ks : List Kind) → base (extended s ks) (length s.kinds) ≡ base s (length s.kinds)
new_base s ks = base_same s ks (length s.kinds) (omega arith)
