-- a candidate that is listed has its place
use Rattle.std.proofs.Common.{◌≡◌, ◌≢◌, ℕ, suc, zero, ◌+◌, ◌≤◌, ◌<◌, ◌==◌, List, [], ◌∷◌, Bool, true, false, length, refl, sym, ◌∙◌, ap, subst, arith, inl, inr}
use Rattle.std.specs.Prelude.{not, nat_lt}
use Rattle.std.proofs.lemmas.Bool.{true≢false, false≢true, eq-eqb, or_cases, and_parts, ltb-true, lt-ltb}
use Rattle.cpt_sheet.specs.declared.data.Cand.{Cand}
use Rattle.cpt_sheet.specs.declared.data.Cand.TheVariants.{Tok, Out}
use Rattle.cpt_sheet.specs.declared.data.Token.{Token}
use Rattle.cpt_sheet.specs.View.{has, cands, same, list_for}
use Rattle.cpt_layout.specs.Places.{Place, member, Frame, IsThere, table, kept, needs_at, atom_at, adders_at, all_cands, In, NoTwice}
use Rattle.cpt_layout.specs.Sheets.{is_cand, need_from, sheet_from}
use Rattle.cpt_layout.specs.Puts.{IsNeedAt, IsFirstIn}
use Rattle.cpt_layout.proofs.Lists.{either, when}
use Rattle.cpt_layout.proofs.Cands.{same_true}
use Rattle.cpt_layout.proofs.Views.{token_is}
use Rattle.cpt_layout.proofs.Putting.{list_at, first_of_two}

in_kept : (f : Cand → Bool) (c : Cand) (ds : List Cand) → has c (kept f ds) ≡ true → In c ds × (f c ≡ true)
in_kept f c [] h = absurd (false≢true h)
in_kept f c (d ∷ ds) h =
    elim (either (f d)) [
      | inl t ↦
          elim (or_cases (same d c) (has c (kept f ds)) (sym (ap (λ (b : Bool). has c (when b d (kept f ds))) t) ∙ h)) [
            | inl k ↦ (let e : d ≡ c = same_true d c k in (inl e, sym (ap f e) ∙ t))
            | inr k ↦ (let r = in_kept f c ds k in (inr r.0, r.1))
          ]
      | inr n ↦ (let r = in_kept f c ds (sym (ap (λ (b : Bool). has c (when b d (kept f ds))) n) ∙ h) in (inr r.0, r.1))
    ]

not_itself : (v : Place → ℕ) (x j : ℕ) (c : Cand) → is_cand v x j c ≡ true → c ≢ Tok x
not_itself v x j (Tok y) h e = (let k : y ≡ x = cc in let t = and_parts (not (y == x)) (v (member x j (Tok y)) == 1) h in let n : not (y == x) ≡ false = ap (λ (b : Bool). not b) (eq-eqb y x k) in true≢false (sym t.0 ∙ n))
not_itself v x j (Out a) h e = cc

pub listed_there : (s : Frame) (v : Place → ℕ) (x p j : ℕ) (c : Cand) → x < length s.kinds → IsNeedAt s x p j → has c (cands (sheet_from s v) x p) ≡ true → IsThere s (member x j c)
listed_there s v x p j c l n h =
    let k = in_kept (is_cand v x j) c (all_cands s (atom_at s x j)) (ap (λ (cs : List Cand). has c cs) (sym (list_at s v x p j l n)) ∙ h) in
    (l, n.within, k.0, not_itself v x j c k.1)

none_list : (s : Frame) (v : Place → ℕ) (x p i n : ℕ) → ((k : ℕ) → k < n → (atom_at s x (i + k) == p) ≡ false) → list_for p (table (need_from s v x) i n) ≡ []
none_list s v x p i zero h = refl
none_list s v x p i (suc n) h =
    let e : i + 0 ≡ i = omega arith in
    let r : (k : ℕ) → i + suc k ≡ suc i + k = λ k. omega arith in
    ap (λ (b : Bool). first_of_two p b (need_from s v x i) (table (need_from s v x) (suc i) n)) (ap (λ (k : ℕ). atom_at s x k == p) (sym e) ∙ h 0 (omega arith))
    ∙ none_list s v x p (suc i) n (λ k l. ap (λ (m : ℕ). atom_at s x m == p) (sym (r k)) ∙ h (suc k) (omega arith))

-- where a candidate is listed, the first precondition that is the atom has a place
pub need_there : (s : Frame) (v : Place → ℕ) (x p j : ℕ) (c : Cand) → x < length s.kinds → NoTwice (adders_at s (atom_at s x j)) → j ≤ length (needs_at s x) → ((k : ℕ) → k < j → (atom_at s x k == p) ≡ false) → (j < length (needs_at s x) → (atom_at s x j == p) ≡ true) →
    has c (cands (sheet_from s v) x p) ≡ true → IsNeedAt s x p j
need_there s v x p j c l a w n t h = elim (either (nat_lt j (length (needs_at s x)))) [
  | inl y ↦ (let k : j < length (needs_at s x) = ltb-true j (length (needs_at s x)) y in record { adders = a; within = k; here = t k; none_before = n })
  | inr y ↦
      (let g : (j < length (needs_at s x)) → ⊥ = λ q. false≢true (sym y ∙ lt-ltb j (length (needs_at s x)) q) in
      let z : (k : ℕ) → 0 + k ≡ k = λ k. omega arith in
      let e : cands (sheet_from s v) x p ≡ [] = ap (λ (u : Token). list_for p u.lists) (token_is s v x l) ∙ none_list s v x p 0 (length (needs_at s x)) (λ k q. ap (λ (i : ℕ). atom_at s x i == p) (z k) ∙ n k (omega arith)) in
      absurd (false≢true (sym (ap (λ (cs : List Cand). has c cs) e) ∙ h)))
]

pub need_in : (s : Frame) (v : Place → ℕ) (x p j : ℕ) (c : Cand) (ns : List ℕ) → x < length s.kinds → ((q : ℕ) → NoTwice (adders_at s q)) → ns ≡ needs_at s x → IsFirstIn ns p j → has c (cands (sheet_from s v) x p) ≡ true → IsNeedAt s x p j
need_in s v x p j c ns l a e f h =
    let g : IsFirstIn (needs_at s x) p j = subst (λ (ms : List ℕ). IsFirstIn ms p j) e f in
    need_there s v x p j c l (a (atom_at s x j)) g.within g.none_before g.here h
