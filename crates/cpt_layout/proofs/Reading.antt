-- what is read of a sheet stands in one number
use Rattle.std.proofs.Common.{◌≡◌, ℕ, ◌<◌, ◌==◌, List, [], ◌∷◌, Bool, true, false, length, refl, sym, ◌∙◌, ap, arith, inl, inr}
use Rattle.std.specs.Prelude.{◌&&◌, ◌||◌}
use Rattle.std.proofs.lemmas.Bool.{true≢false, false≢true, eqb-true, eq-eqb, and_from, and_parts}
use Rattle.cpt_sheet.specs.declared.data.Cand.{Cand}
use Rattle.cpt_sheet.specs.View.{before, has_order, same, has}
use Rattle.cpt_layout.specs.Places.{Place, Frame, kept, atom_at, all_cands, all_pairs, In}
use Rattle.cpt_layout.specs.Sheets.{is_cand, is_order, sheet_from, need_from}
use Rattle.cpt_layout.proofs.Lists.{either, when}
use Rattle.cpt_layout.proofs.Cands.{same_true, same_self}
use Rattle.cpt_layout.proofs.Posts.{pair_in}

or_all : (a b : Bool) → a ≡ false → b ≡ false → (a || b) ≡ false
or_all true b h k = absurd (true≢false h)
or_all false b h k = k

or_first : (a b : Bool) → a ≡ true → (a || b) ≡ true
or_first true b h = refl
or_first false b h = absurd (false≢true h)

or_last : (a b : Bool) → b ≡ true → (a || b) ≡ true
or_last true b h = refl
or_last false b h = h

with_when : (x y : ℕ) (b : Bool) (o : ℕ × ℕ) (os : List (ℕ × ℕ)) → has_order x y os ≡ true → has_order x y (when b o os) ≡ true
with_when x y true o os h = or_last ((o.0 == x) && (o.1 == y)) (has_order x y os) h
with_when x y false o os h = h

order_kept : (f : ℕ × ℕ → Bool) (x y : ℕ) (os : List (ℕ × ℕ)) → In (x, y) os → f (x, y) ≡ true → has_order x y (kept f os) ≡ true
order_kept f x y [] i h = absurd i
order_kept f x y (o ∷ os) (inl e) h =
    ap (λ (b : Bool). has_order x y (when b o (kept f os))) (ap f e ∙ h)
    ∙ or_first ((o.0 == x) && (o.1 == y)) (has_order x y (kept f os)) (and_from (o.0 == x) (o.1 == y) (eq-eqb o.0 x (ap (λ (z : ℕ × ℕ). z.0) e)) (eq-eqb o.1 y (ap (λ (z : ℕ × ℕ). z.1) e)))
order_kept f x y (o ∷ os) (inr i) h = with_when x y (f o) o (kept f os) (order_kept f x y os i h)

order_gone : (f : ℕ × ℕ → Bool) (x y : ℕ) (os : List (ℕ × ℕ)) → f (x, y) ≡ false → has_order x y (kept f os) ≡ false
order_gone f x y [] h = refl
order_gone f x y (o ∷ os) h =
    elim (either (f o)) [
      | inl t ↦
          ap (λ (b : Bool). has_order x y (when b o (kept f os))) t
          ∙ or_all ((o.0 == x) && (o.1 == y)) (has_order x y (kept f os))
          (elim (either ((o.0 == x) && (o.1 == y))) [
            | inl k ↦ (let q = and_parts (o.0 == x) (o.1 == y) k in let a : o.0 ≡ x = eqb-true o.0 x q.0 in let b : o.1 ≡ y = eqb-true o.1 y q.1 in
                let p : (i j : ℕ) → ℕ × ℕ = λ i j. (i, j) in let e : o ≡ p x y = ap (λ (i : ℕ). p i o.1) a ∙ ap (λ (j : ℕ). p x j) b in absurd (true≢false (sym t ∙ (ap f e ∙ h))))
            | inr k ↦ k
          ])
          (order_gone f x y os h)
      | inr n ↦ ap (λ (b : Bool). has_order x y (when b o (kept f os))) n ∙ order_gone f x y os h
    ]

order_is : (f : ℕ × ℕ → Bool) (x y : ℕ) (os : List (ℕ × ℕ)) → In (x, y) os → has_order x y (kept f os) ≡ f (x, y)
order_is f x y os i =
    let o : ℕ × ℕ = (x, y) in
    elim (either (f o)) [ inl t ↦ order_kept f x y os i t ∙ sym t | inr n ↦ order_gone f x y os n ∙ sym n ]

-- whether an order stands
pub before_is : (s : Frame) (v : Place → ℕ) (x y : ℕ) → x < length s.kinds → y < length s.kinds → before (sheet_from s v) x y ≡ is_order v (x, y)
before_is s v x y l m = let k : ℕ = length s.kinds in order_is (is_order v) x y (all_pairs k 0 k) (pair_in k 0 k x y (omega arith) (omega arith) m)

has_when : (c : Cand) (b : Bool) (d : Cand) (ds : List Cand) → has c ds ≡ true → has c (when b d ds) ≡ true
has_when c true d ds h = or_last (same d c) (has c ds) h
has_when c false d ds h = h

cand_kept : (f : Cand → Bool) (c : Cand) (ds : List Cand) → In c ds → f c ≡ true → has c (kept f ds) ≡ true
cand_kept f c [] i h = absurd i
cand_kept f c (d ∷ ds) (inl e) h = ap (λ (b : Bool). has c (when b d (kept f ds))) (ap f e ∙ h) ∙ or_first (same d c) (has c (kept f ds)) (ap (λ (z : Cand). same z c) e ∙ same_self c)
cand_kept f c (d ∷ ds) (inr i) h = has_when c (f d) d (kept f ds) (cand_kept f c ds i h)

cand_gone : (f : Cand → Bool) (c : Cand) (ds : List Cand) → f c ≡ false → has c (kept f ds) ≡ false
cand_gone f c [] h = refl
cand_gone f c (d ∷ ds) h =
    elim (either (f d)) [
      | inl t ↦
          ap (λ (b : Bool). has c (when b d (kept f ds))) t
          ∙ or_all (same d c) (has c (kept f ds))
          (elim (either (same d c)) [ inl k ↦ absurd (true≢false (sym t ∙ (ap f (same_true d c k) ∙ h))) | inr k ↦ k ])
          (cand_gone f c ds h)
      | inr n ↦ ap (λ (b : Bool). has c (when b d (kept f ds))) n ∙ cand_gone f c ds h
    ]

-- whether a candidate is in a list
pub cand_is : (f : Cand → Bool) (c : Cand) (ds : List Cand) → In c ds → has c (kept f ds) ≡ f c
cand_is f c ds i = elim (either (f c)) [ inl t ↦ cand_kept f c ds i t ∙ sym t | inr n ↦ cand_gone f c ds n ∙ sym n ]

pub listed_is : (s : Frame) (v : Place → ℕ) (x j : ℕ) (c : Cand) → In c (all_cands s (atom_at s x j)) → has c (need_from s v x j).cands ≡ is_cand v x j c
listed_is s v x j c i = cand_is (is_cand v x j) c (all_cands s (atom_at s x j)) i
