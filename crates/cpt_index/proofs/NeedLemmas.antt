-- what tokens need, and membership as a fact and as a test
use Rattle.std.proofs.Common.{◌≡◌, ℕ, nat_eq, suc, zero, ◌<◌, length, slice_index_or, map, arith, All, Contains, ◌∷◌, [], List, true, ◌==◌, sym, ◌∙◌, inl, inr, subst}
use Rattle.std.proofs.lemmas.Bool.{or_cases, or_left, or_right, eqb-true, eq-eqb}
use Rattle.std.proofs.lemmas.List.Elements.{All-contains_itself}
use Rattle.std.proofs.lemmas.Map.Views.{Contains-from_any}
use Rattle.std.proofs.lemmas.List.Folds.{list_any_at}
use Rattle.cpt_task.specs.Timeline.{is_in}
use Rattle.cpt_task.specs.Shape.{TaskShape}
use Rattle.cpt_sheet.specs.declared.data.Cand.TheVariants.{Tok}
use Rattle.cpt_sheet.specs.declared.data.Need.{Need}
use Rattle.cpt_sheet.specs.declared.data.Sheet.{Sheet}
use Rattle.cpt_sheet.specs.Formed.{IsFormed}
use Rattle.cpt_sheet.specs.Roles.{needs_of}
use Rattle.cpt_sheet.specs.View.{token_at, kind_of, has_atom}
use Rattle.cpt_index.specs.Lists.{Lists, IsNeed}

-- the atoms that a token needs
pub atoms_from : (p : ℕ) (ns : List Need) → has_atom p ns ≡ true → Contains (map (λ (n : Need). n.atom) ns) p
atoms_from p [] h = cc
atoms_from p (n ∷ ns) h =
    elim (or_cases (n.atom == p) (has_atom p ns) h) [
      | inl e ↦ (0, omega arith, eqb-true n.atom p e)
      | inr e ↦ (let r = atoms_from p ns e in (suc r.0, omega (arith, r.1), r.2))
    ]

pub atoms_back : (p : ℕ) (ns : List Need) (k : ℕ) → k < length (map (λ (n : Need). n.atom) ns) → slice_index_or (map (λ (n : Need). n.atom) ns) k p ≡ p → has_atom p ns ≡ true
atoms_back p [] k lt e = absurd (omega (arith, lt))
atoms_back p (n ∷ ns) zero lt e = or_left (n.atom == p) (has_atom p ns) (eq-eqb n.atom p e)
atoms_back p (n ∷ ns) (suc k) lt e = or_right (n.atom == p) (has_atom p ns) (atoms_back p ns k (omega (arith, lt)) e)

pub needs_listed : (t : TaskShape) (s : Sheet) (x : ℕ) (l : List ℕ) → IsFormed t s → x < length s.tokens → l ≡ needs_of t (kind_of s (Tok x)) → Lists (IsNeed s x) l
needs_listed t s x l f lt e =
    let w : map (λ (n : Need). n.atom) (token_at s x).lists ≡ l = f.needs x lt ∙ sym e in
    record {
      sound = subst (λ z. All (IsNeed s x) z) w (λ k d b. (let h = All-contains_itself (map (λ (n : Need). n.atom) (token_at s x).lists) k d b in atoms_back (slice_index_or (map (λ (n : Need). n.atom) (token_at s x).lists) k d) (token_at s x).lists h.0 h.1 h.2));
      complete = λ p h. subst (λ z. Contains z p) w (atoms_from p (token_at s x).lists h);
    }

-- membership, as a fact and as a test
pub in_list : (p : ℕ) (xs : List ℕ) → is_in p xs ≡ true → Contains xs p
in_list p xs e = Contains-from_any (λ x y h. eqb-true x y h) p xs e

pub listed_in : (p : ℕ) (xs : List ℕ) → Contains xs p → is_in p xs ≡ true
listed_in p xs (k, lt, e) = list_any_at (nat_eq p) xs k p lt (eq-eqb p (slice_index_or xs k p) (sym e))

pub listed_each : (xs : List ℕ) → All (λ p. is_in p xs ≡ true) xs
listed_each xs k d lt = listed_in (slice_index_or xs k d) xs (All-contains_itself xs k d lt)
