-- a list has its tokens first, then its outside actions
use Rattle.std.proofs.Common.{◌≡◌, ℕ, suc, zero, ◌+◌, ◌≤◌, ◌<◌, ◌==◌, List, [], ◌∷◌, Bool, false, length, get_or, refl, sym, ◌∙◌, ap, subst, arith, inl, inr}
use Rattle.std.specs.Prelude.{nat_lt}
use Rattle.std.proofs.lemmas.Bool.{eqb-true, false≢true, ltb-true, lt-ltb}
use Rattle.cpt_sheet.specs.declared.data.Cand.{Cand}
use Rattle.cpt_sheet.specs.declared.data.Token.{Token}
use Rattle.cpt_sheet.specs.View.{cands, has, list_for}
use Rattle.cpt_layout.specs.Places.{Frame, NoTwice, Place, adders_at, all_cands, atom_at, kept, needs_at, place_in, table}
use Rattle.cpt_layout.specs.Puts.{IsFirstIn, IsNeedAt}
use Rattle.cpt_layout.specs.Sheets.{is_cand, need_from, sheet_from}
use Rattle.cpt_layout.proofs.Lists.{either, if_false, if_true, kept_same}
use Rattle.cpt_layout.proofs.Putting.{first_of_two, list_at}
use Rattle.cpt_layout.proofs.Reading.{cand_is}
use Rattle.cpt_layout.proofs.Views.{token_is}
use Rattle.cpt_block.specs.Blocks.{list_in}
use Rattle.cpt_block.proofs.Lookups.{list_is}

-- the place of a number is that of the first
pub is_first : (p : ℕ) (ns : List ℕ) → IsFirstIn ns p (place_in p ns)
is_first p [] = record { within = omega arith; none_before = λ k l. absurd (omega arith); here = λ l. absurd (omega arith) }
is_first p (n ∷ ns) =
    elim (either (n == p)) [
      | inl t ↦ subst (λ (i : ℕ). IsFirstIn (n ∷ ns) p i) (sym (if_true (n == p) 0 (suc (place_in p ns)) t))
          (record { within = omega arith; none_before = λ k l. absurd (omega arith); here = λ l. t })
      | inr f ↦ subst (λ (i : ℕ). IsFirstIn (n ∷ ns) p i) (sym (if_false (n == p) 0 (suc (place_in p ns)) f)) (further f (is_first p ns))
    ]
  where
    before : (n == p) ≡ false → IsFirstIn ns p (place_in p ns) → (k : ℕ) → k < suc (place_in p ns) → (get_or (n ∷ ns) k 0 == p) ≡ false
    before f h zero l = f
    before f h (suc k) l = h.none_before k (omega arith)

    further : (n == p) ≡ false → IsFirstIn ns p (place_in p ns) → IsFirstIn (n ∷ ns) p (suc (place_in p ns))
    further f h = record {
      within = (let w = h.within in omega arith);
      none_before = before f h;
      here = λ l. h.here (omega arith);
    }

no_list : (s : Frame) (v : Place → ℕ) (x p i n : ℕ) → ((k : ℕ) → k < n → (atom_at s x (i + k) == p) ≡ false) → list_for p (table (need_from s v x) i n) ≡ []
no_list s v x p i zero h = refl
no_list s v x p i (suc n) h =
    let e : i + 0 ≡ i = omega arith in
    let r : (k : ℕ) → i + suc k ≡ suc i + k = λ k. omega arith in
    ap (λ (b : Bool). first_of_two p b (need_from s v x i) (table (need_from s v x) (suc i) n)) (ap (λ (k : ℕ). atom_at s x k == p) (sym e) ∙ h 0 (omega arith))
    ∙ no_list s v x p (suc i) n (λ k l. ap (λ (m : ℕ). atom_at s x m == p) (sym (r k)) ∙ h (suc k) (omega arith))

-- the list of an atom by its place
pub list_at_place : (s : Frame) (v : Place → ℕ) (x p j : ℕ) → x < length s.kinds → ((q : ℕ) → NoTwice (adders_at s q)) → IsFirstIn (needs_at s x) p j → j < length (needs_at s x) → cands (sheet_from s v) x p ≡ list_in (sheet_from s v) x j
list_at_place s v x p j l a f b =
    let need : IsNeedAt s x p j = record { adders = a (atom_at s x j); within = b; here = f.here b; none_before = f.none_before } in
    list_at s v x p j l need ∙ sym (list_is s v x j l b)

pub list_nowhere : (s : Frame) (v : Place → ℕ) (x p j : ℕ) → x < length s.kinds → IsFirstIn (needs_at s x) p j → length (needs_at s x) ≤ j → cands (sheet_from s v) x p ≡ []
list_nowhere s v x p j l f b =
    let z : (k : ℕ) → 0 + k ≡ k = λ k. omega arith in
    ap (λ (u : Token). list_for p u.lists) (token_is s v x l)
    ∙ no_list s v x p 0 (length (needs_at s x)) (λ k q. ap (λ (i : ℕ). atom_at s x i == p) (z k) ∙ f.none_before k (omega arith))

by_itself : (f : Cand → Bool) (cs ds : List Cand) → cs ≡ kept f ds → cs ≡ kept (λ d. has d cs) ds
by_itself f cs ds e = e ∙ sym (kept_same f (λ d. has d cs) ds (λ d r. ap (λ (xs : List Cand). has d xs) e ∙ cand_is f d ds r))

none_passes : (ds : List Cand) → kept (λ d. has d []) ds ≡ []
none_passes [] = refl
none_passes (d ∷ ds) = none_passes ds

pub in_order : (s : Frame) (v : Place → ℕ) (x p : ℕ) → x < length s.kinds → ((q : ℕ) → NoTwice (adders_at s q)) → cands (sheet_from s v) x p ≡ kept (λ d. has d (cands (sheet_from s v) x p)) (all_cands s p)
in_order s v x p l a =
    let j : ℕ = place_in p (needs_at s x) in
    let f : IsFirstIn (needs_at s x) p j = is_first p (needs_at s x) in
    let cs : List Cand = cands (sheet_from s v) x p in
    elim (either (nat_lt j (length (needs_at s x)))) [
      | inl t ↦
          let b : j < length (needs_at s x) = ltb-true j (length (needs_at s x)) t in
          let need : IsNeedAt s x p j = record { adders = a (atom_at s x j); within = b; here = f.here b; none_before = f.none_before } in
          let e : atom_at s x j ≡ p = eqb-true (atom_at s x j) p (f.here b) in
          by_itself (is_cand v x j) cs (all_cands s p) (list_at s v x p j l need ∙ ap (λ (q : ℕ). kept (is_cand v x j) (all_cands s q)) e)
      | inr n ↦
          let g : (j < length (needs_at s x)) → ⊥ = λ q. false≢true (sym n ∙ lt-ltb j (length (needs_at s x)) q) in
          let e : cs ≡ [] = list_nowhere s v x p j l f (omega arith) in
          e ∙ sym (ap (λ (ds : List Cand). kept (λ d. has d ds) (all_cands s p)) e ∙ none_passes (all_cands s p))
    ]

pub place_in_order : (s : Frame) (v : Place → ℕ) (x j : ℕ) → x < length s.kinds → j < length (needs_at s x) → list_in (sheet_from s v) x j ≡ kept (λ d. has d (list_in (sheet_from s v) x j)) (all_cands s (atom_at s x j))
place_in_order s v x j l n = by_itself (is_cand v x j) (list_in (sheet_from s v) x j) (all_cands s (atom_at s x j)) (list_is s v x j l n)
