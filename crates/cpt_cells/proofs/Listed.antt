-- whether a token or an outside action is in a list
use Rattle.std.proofs.Common.{◌≡◌, ◌≢◌, ℕ, suc, zero, ◌≤◌, ◌<◌, ◌==◌, List, [], ◌∷◌, Bool, true, false, length, get_or, refl, sym, ◌∙◌, ap, subst, arith, inl, inr}
use Rattle.std.specs.Prelude.{map, not, ◌&&◌}
use Rattle.std.proofs.lemmas.Bool.{eq-eqb, eqb-true, false≢true, or_cases}
use Rattle.cpt_sheet.specs.declared.data.Cand.{Cand}
use Rattle.cpt_sheet.specs.declared.data.Cand.TheVariants.{Tok, Out}
use Rattle.cpt_sheet.specs.View.{has, same}
use Rattle.cpt_layout.specs.Places.{Frame, Place, In, IsThere, NoTwice, adders_at, all_cands, atom_at, kept, member, needs_at, place_in, table}
use Rattle.cpt_layout.specs.Sheets.{is_cand, need_from, number_at, seen, sheet_from}
use Rattle.cpt_layout.proofs.Cands.{in_outs, outs_in, same_true}
use Rattle.cpt_layout.proofs.Drops.{not_eq}
use Rattle.cpt_layout.proofs.Lists.{append_in, either, if_false, if_true, in_append, in_table, table_in, when}
use Rattle.cpt_layout.proofs.Reading.{listed_is}
use Rattle.cpt_layout.proofs.Views.{tokens_are}
use Rattle.cpt_block.specs.Blocks.{list_in}
use Rattle.cpt_block.proofs.Lookups.{list_is}
use Rattle.cpt_block.proofs.Rows.{place_below}
use Rattle.cpt_cells.specs.Shapes.{CellsShape}

-- a token that the sheet shows
pub token_in : (s : Frame) (cells : List ℕ) (t : CellsShape) (x : ℕ) → seen s cells ≡ t.sheet → x < length t.sheet.tokens → x < length s.kinds
token_in s cells t x e h = (let n = tokens_are s (number_at s cells) in let m : length t.sheet.tokens ≡ length (seen s cells).tokens = ap (λ z. length z.tokens) (sym e) in omega arith)

place_there : (a : ℕ) (bs : List ℕ) → place_in a bs < length bs → In a bs
place_there a [] h = absurd (omega arith)
place_there a (b ∷ bs) h =
    elim (either (b == a)) [
      | inl e ↦ inl (eqb-true b a e)
      | inr e ↦ (let q : place_in a (b ∷ bs) ≡ suc (place_in a bs) = if_false (b == a) 0 (suc (place_in a bs)) e in inr (place_there a bs (omega arith)))
    ]

pub kept_in : (f : Cand → Bool) (c : Cand) (ds : List Cand) → has c (kept f ds) ≡ true → In c ds
kept_in f c [] h = absurd (false≢true h)
kept_in f c (d ∷ ds) h =
    elim (either (f d)) [
      | inl t ↦
          elim (or_cases (same d c) (has c (kept f ds)) (sym (ap (λ (b : Bool). has c (when b d (kept f ds))) t) ∙ h)) [
            | inl k ↦ inl (same_true d c k)
            | inr k ↦ inr (kept_in f c ds k)
          ]
      | inr n ↦ inr (kept_in f c ds (sym (ap (λ (b : Bool). has c (when b d (kept f ds))) n) ∙ h))
    ]

in_out_at : (bs : List ℕ) (a : ℕ) → (b : ℕ) × (In b bs) × (Out a ≡ Out b) → In a bs
in_out_at bs a t = (let q = t.2 in let e : t.0 ≡ a = cc in subst (λ (i : ℕ). In i bs) e t.1)

pub out_there : (s : Frame) (p a : ℕ) → In (Out a) (all_cands s p) → In a (adders_at s p)
out_there s p a h =
    elim (in_append (Out a) (table Tok 0 (length s.kinds)) (map Out (adders_at s p)) h) [
      | inl r ↦ (let t = in_table Tok 0 (length s.kinds) (Out a) r in let q = t.3 in let e : Tok t.0 ≡ Out a = q in cc)
      | inr r ↦ in_out_at (adders_at s p) a (in_outs (adders_at s p) (Out a) r)
    ]

pub out_is_there : (s : Frame) (x j a : ℕ) → x < length s.kinds → j < length (needs_at s x) → place_in a (adders_at s (atom_at s x j)) < length (adders_at s (atom_at s x j)) → IsThere s (member x j (Out a))
out_is_there s x j a l h b = (l, h, append_in (Out a) (table Tok 0 (length s.kinds)) (map Out (adders_at s (atom_at s x j))) (inr (outs_in (adders_at s (atom_at s x j)) a (place_there a (adders_at s (atom_at s x j)) b))), λ e. cc)

pub out_listed : (s : Frame) (v : Place → ℕ) (x j a : ℕ) → x < length s.kinds → j < length (needs_at s x) → place_in a (adders_at s (atom_at s x j)) < length (adders_at s (atom_at s x j)) →
    (v (member x j (Out a)) == 1) ≡ has (Out a) (list_in (sheet_from s v) x j)
out_listed s v x j a l h b =
    (let t = out_is_there s x j a l h b in sym (listed_is s v x j (Out a) t.2))
    ∙ ap (λ (cs : List Cand). has (Out a) cs) (sym (list_is s v x j l h))

pub out_unlisted : (s : Frame) (v : Place → ℕ) (x j a : ℕ) → x < length s.kinds → j < length (needs_at s x) → (place_in a (adders_at s (atom_at s x j)) < length (adders_at s (atom_at s x j)) → ⊥) →
    false ≡ has (Out a) (list_in (sheet_from s v) x j)
out_unlisted s v x j a l h b =
    elim (either (has (Out a) (need_from s v x j).cands)) [
      | inl e ↦ absurd (b (place_below a (adders_at s (atom_at s x j)) (out_there s (atom_at s x j) a (kept_in (is_cand v x j) (Out a) (all_cands s (atom_at s x j)) e))))
      | inr e ↦ sym (ap (λ (cs : List Cand). has (Out a) cs) (list_is s v x j l h) ∙ e)
    ]

pub tok_is_there : (s : Frame) (x j y : ℕ) → x < length s.kinds → j < length (needs_at s x) → y < length s.kinds → y ≢ x → IsThere s (member x j (Tok y))
tok_is_there s x j y l h b d = (l, h, append_in (Tok y) (table Tok 0 (length s.kinds)) (map Out (adders_at s (atom_at s x j))) (inl (table_in Tok 0 (length s.kinds) y (omega arith) (omega arith))), λ e. d (cc))

pub tok_listed : (s : Frame) (v : Place → ℕ) (x j y : ℕ) → x < length s.kinds → j < length (needs_at s x) → y < length s.kinds → y ≢ x →
    (v (member x j (Tok y)) == 1) ≡ has (Tok y) (list_in (sheet_from s v) x j)
tok_listed s v x j y l h b d =
    sym (ap (λ (f : Bool). not f && (v (member x j (Tok y)) == 1)) (not_eq y x d))
    ∙ ((let t = tok_is_there s x j y l h b d in sym (listed_is s v x j (Tok y) t.2))
    ∙ ap (λ (cs : List Cand). has (Tok y) cs) (sym (list_is s v x j l h)))

pub tok_itself : (s : Frame) (v : Place → ℕ) (x j : ℕ) → x < length s.kinds → j < length (needs_at s x) → false ≡ has (Tok x) (list_in (sheet_from s v) x j)
tok_itself s v x j l h =
    sym (
    ap (λ (cs : List Cand). has (Tok x) cs) (list_is s v x j l h)
    ∙ (listed_is s v x j (Tok x) (append_in (Tok x) (table Tok 0 (length s.kinds)) (map Out (adders_at s (atom_at s x j))) (inl (table_in Tok 0 (length s.kinds) x (omega arith) (omega arith))))
    ∙ ap (λ (b : Bool). not b && (v (member x j (Tok x)) == 1)) (eq-eqb x x refl))
    )

pub tok_there : (s : Frame) (p y : ℕ) → In (Tok y) (all_cands s p) → y < length s.kinds
tok_there s p y h =
    elim (in_append (Tok y) (table Tok 0 (length s.kinds)) (map Out (adders_at s p)) h) [
      | inl r ↦ (let t = in_table Tok 0 (length s.kinds) (Tok y) r in let q = t.3 in let e : t.0 ≡ y = cc in let b = t.2 in omega arith)
      | inr r ↦ (let t = in_outs (adders_at s p) (Tok y) r in let q = t.2 in let e : Tok y ≡ Out t.0 = q in cc)
    ]

pub tok_unlisted : (s : Frame) (v : Place → ℕ) (x j y : ℕ) → x < length s.kinds → j < length (needs_at s x) → length s.kinds ≤ y → false ≡ has (Tok y) (list_in (sheet_from s v) x j)
tok_unlisted s v x j y l h b =
    elim (either (has (Tok y) (need_from s v x j).cands)) [
      | inl e ↦ (let k : y < length s.kinds = tok_there s (atom_at s x j) y (kept_in (is_cand v x j) (Tok y) (all_cands s (atom_at s x j)) e) in absurd (omega arith))
      | inr e ↦ sym (ap (λ (cs : List Cand). has (Tok y) cs) (list_is s v x j l h) ∙ e)
    ]

-- the actions that add the atom of a need
pub adders_in : (s : Frame) (x j : ℕ) (ns bs : List ℕ) → ns ≡ needs_at s x → bs ≡ adders_at s (get_or ns j 0) → bs ≡ adders_at s (atom_at s x j)
adders_in s x j ns bs e h = h ∙ ap (λ (ms : List ℕ). adders_at s (get_or ms j 0)) e

in_nth : (bs : List ℕ) (k : ℕ) → k < length bs → In (get_or bs k 0) bs
in_nth [] k l = absurd (omega arith)
in_nth (b ∷ bs) zero l = inl refl
in_nth (b ∷ bs) (suc k) l = inr (in_nth bs k (omega arith))

-- where nobody stands twice, the place of the one at k is k
pub place_nth : (bs : List ℕ) (k : ℕ) → NoTwice bs → k < length bs → place_in (get_or bs k 0) bs ≡ k
place_nth [] k n l = absurd (omega arith)
place_nth (b ∷ bs) zero n l = if_true (b == b) 0 (suc (place_in b bs)) (eq-eqb b b refl)
place_nth (b ∷ bs) (suc k) n l =
    let c : ℕ = get_or bs k 0 in
    let i : In c bs = in_nth bs k (omega arith) in
    let d : b ≢ c = λ e. n.0 (subst (λ (z : ℕ). In z bs) (sym e) i) in
    let h : place_in c bs ≡ k = place_nth bs k n.1 (omega arith) in
    if_false (b == c) 0 (suc (place_in c bs)) (not_eq b c d) ∙ ap suc h
