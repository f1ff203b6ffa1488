-- one write to one cell is one change of the sheet
use Rattle.std.proofs.Common.{◌≡◌, ℕ, suc, zero, ◌+◌, ◌<◌, ◌==◌, List, [], Bool, true, false, length, set, refl, sym, ◌∙◌, ap, subst, arith}
use Rattle.std.specs.List.{find}
use Rattle.std.specs.Option.{option_map_or}
use Rattle.std.specs.Prelude.{cond}
use Rattle.std.proofs.Common.{Some}
use Rattle.std.proofs.lemmas.List.{get_or-set_same, get_or-set_other}
use Rattle.cpt_task.specs.declared.span.Span.TheVariants.{At}
use Rattle.cpt_sheet.specs.declared.data.Cand.{Cand}
use Rattle.cpt_sheet.specs.declared.data.Need.{Need}
use Rattle.cpt_sheet.specs.declared.data.Token.{Token}
use Rattle.cpt_sheet.specs.View.{has, cands, list_for}
use Rattle.cpt_layout.specs.Places.{Place, out_lo, out_hi, tok_lo, tok_hi, order, member, Frame, IsThere, table, needs_at, atom_at}
use Rattle.cpt_layout.specs.Sheets.{span_from, need_from, sheet_from, IsPutAt}
use Rattle.cpt_layout.specs.Numbers.{cell_of, base}
use Rattle.cpt_layout.specs.Sheets.{number_at, seen}
use Rattle.cpt_layout.specs.Puts.{Puts, IsNeedAt}
use Rattle.cpt_layout.proofs.Numbering.{cell_below, cell_apart}
use Rattle.cpt_layout.proofs.Views.{token_is}
use Rattle.cpt_layout.proofs.Reading.{listed_is}
use Rattle.cpt_layout.proofs.Changes.{raise_token, lower_token, raise_out, lower_out}
use Rattle.cpt_layout.proofs.Drops.{take_cand, post_order}

put_at : (s : Frame) (cells : List ℕ) (q : Place) (n : ℕ) → IsThere s q → length cells ≡ base s (length s.kinds) → IsPutAt s (number_at s cells) (number_at s (set cells (cell_of s q) n)) q n
put_at s cells q n h e = record {
  here = get_or-set_same cells (cell_of s q) n 0 (let k = cell_below s q h in omega arith);
  others = λ r k d. get_or-set_other cells (cell_of s q) (cell_of s r) n 0 (λ z. d (cell_apart s r q k h z));
}

-- the list of the first of two kinds of needs
abbrev pub first_of_two : ℕ → Bool → Need → List Need → List Cand
first_of_two p b m ms = option_map_or (λ n. n.cands) (cond b (Some m) (find (λ n. n.atom == p) ms)) []

list_in : (s : Frame) (v : Place → ℕ) (x p i n j : ℕ) → j < n → ((k : ℕ) → k < j → (atom_at s x (i + k) == p) ≡ false) → (atom_at s x (i + j) == p) ≡ true → list_for p (table (need_from s v x) i n) ≡ (need_from s v x (i + j)).cands
list_in s v x p i zero j l h t = absurd (omega arith)
list_in s v x p i (suc n) zero l h t =
    let e : i + 0 ≡ i = omega arith in
    let u : (atom_at s x i == p) ≡ true = ap (λ (k : ℕ). atom_at s x k == p) (sym e) ∙ t in
    ap (λ (b : Bool). first_of_two p b (need_from s v x i) (table (need_from s v x) (suc i) n)) u ∙ ap (λ (k : ℕ). (need_from s v x k).cands) (sym e)
list_in s v x p i (suc n) (suc j) l h t =
    let e : i + 0 ≡ i = omega arith in
    let r : (k : ℕ) → i + suc k ≡ suc i + k = λ k. omega arith in
    let u : (atom_at s x i == p) ≡ false = ap (λ (k : ℕ). atom_at s x k == p) (sym e) ∙ h 0 (omega arith) in
    ap (λ (b : Bool). first_of_two p b (need_from s v x i) (table (need_from s v x) (suc i) n)) u
    ∙ (list_in s v x p (suc i) n j (omega arith) (λ k d. ap (λ (m : ℕ). atom_at s x m == p) (sym (r k)) ∙ h (suc k) (omega arith)) (ap (λ (m : ℕ). atom_at s x m == p) (sym (r j)) ∙ t)
    ∙ ap (λ (k : ℕ). (need_from s v x k).cands) (sym (r j)))

pub list_at : (s : Frame) (v : Place → ℕ) (x p j : ℕ) → x < length s.kinds → IsNeedAt s x p j → cands (sheet_from s v) x p ≡ (need_from s v x j).cands
list_at s v x p j l n =
    let z : (k : ℕ) → 0 + k ≡ k = λ k. omega arith in
    ap (λ (t : Token). list_for p t.lists) (token_is s v x l)
    ∙ (list_in s v x p 0 (length (needs_at s x)) j n.within (λ k r. ap (λ (i : ℕ). atom_at s x i == p) (z k) ∙ n.none_before k r) (ap (λ (i : ℕ). atom_at s x i == p) (z j) ∙ n.here)
    ∙ ap (λ (i : ℕ). (need_from s v x i).cands) (z j))

pub puts : (s : Frame) (cells : List ℕ) (q : Place) (n : ℕ) → IsThere s q → length cells ≡ base s (length s.kinds) → Puts s (seen s cells) (seen s (set cells (cell_of s q) n)) q n
puts s cells (out_lo a) n h e = raise_out s (number_at s cells) (number_at s (set cells (cell_of s (out_lo a)) n)) a n (span_from n) h refl (put_at s cells (out_lo a) n h e)
puts s cells (out_hi a) n h e = lower_out s (number_at s cells) (number_at s (set cells (cell_of s (out_hi a)) n)) a (At n) h (put_at s cells (out_hi a) n h e)
puts s cells (tok_lo x) n h e = raise_token s (number_at s cells) (number_at s (set cells (cell_of s (tok_lo x)) n)) x n (span_from n) h refl (put_at s cells (tok_lo x) n h e)
puts s cells (tok_hi x) n h e = lower_token s (number_at s cells) (number_at s (set cells (cell_of s (tok_hi x)) n)) x (At n) h (put_at s cells (tok_hi x) n h e)
puts s cells (order x y) n h e = λ k b.
    post_order s (number_at s cells) (number_at s (set cells (cell_of s (order x y)) n)) x y h.0 h.1 h.2 b
    (subst (λ (m : ℕ). IsPutAt s (number_at s cells) (number_at s (set cells (cell_of s (order x y)) n)) (order x y) m) k (put_at s cells (order x y) n h e))
puts s cells (member x j c) n h e = λ p k f b.
    take_cand s (number_at s cells) (number_at s (set cells (cell_of s (member x j c)) n)) x p j c h.0 f
    (sym (listed_is s (number_at s cells) x j c h.2) ∙ (ap (λ (cs : List Cand). has c cs) (sym (list_at s (number_at s cells) x p j h.0 f)) ∙ b))
    (subst (λ (m : ℕ). IsPutAt s (number_at s cells) (number_at s (set cells (cell_of s (member x j c)) n)) (member x j c) m) k (put_at s cells (member x j c) n h e))
