-- ascending candidate lists with the same members are one
use Rattle.std.proofs.Common.{◌≡◌, List, [], ◌∷◌, true, refl, sym, ◌∙◌, ap, subst, arith, inl, inr}
use Rattle.std.proofs.lemmas.Bool.{or_cases, or_left, or_right}
use Rattle.cpt_sheet.specs.declared.data.Cand.{Cand}
use Rattle.cpt_sheet.specs.declared.data.Cand.TheVariants.{Tok, Out}
use Rattle.cpt_sheet.specs.View.{has, same}
use Rattle.cpt_sheet.specs.Formed.{IsAscending, Precedes}
use Rattle.cpt_calculus.specs.Members.{ListsByMembers, OrdersByMembers}
use Rattle.cpt_calculus.proofs.Orders.{orders_same}
use Rattle.cpt_calculus.proofs.Parts.{same_is, same_self}

precedes_asym : (c d : Cand) → Precedes c d → Precedes d c → ⊥
precedes_asym (Tok x) (Tok y) h k = omega arith
precedes_asym (Tok x) (Out a) h k = k
precedes_asym (Out a) (Tok y) h k = h
precedes_asym (Out a) (Out b) h k = omega arith

has_first : (c : Cand) (cs : List Cand) → has c (c ∷ cs) ≡ true
has_first c cs = or_left (same c c) (has c cs) (same_self c)

-- the heads of two such lists are one
heads_same : (c d : Cand) (cs ds : List Cand) → IsAscending (c ∷ cs) → IsAscending (d ∷ ds) → has c (d ∷ ds) ≡ true → has d (c ∷ cs) ≡ true → c ≡ d
heads_same c d cs ds i j h k =
    elim (or_cases (same d c) (has c ds) h) [
      | inl e ↦ sym (same_is d c e)
      | inr e ↦ elim (or_cases (same c d) (has d cs) k) [
        | inl f ↦ same_is c d f
        | inr f ↦ absurd (precedes_asym c d (i.0 d f) (j.0 c e))
      ]
    ]

-- who stands behind the head of the one stands behind that of the other
behind_head : (c d : Cand) (cs ds : List Cand) → c ≡ d → IsAscending (c ∷ cs) → ((e : Cand) → has e (c ∷ cs) ≡ true → has e (d ∷ ds) ≡ true) → (e : Cand) → has e cs ≡ true → has e ds ≡ true
behind_head c d cs ds s i h e k =
    elim (or_cases (same d e) (has e ds) (h e (or_right (same c e) (has e cs) k))) [
      | inl m ↦ (let l : Precedes c c = subst (λ z. Precedes c z) (sym (s ∙ same_is d e m)) (i.0 e k) in absurd (precedes_asym c c l l))
      | inr m ↦ m
    ]

members_same : (xs ys : List Cand) → IsAscending xs → IsAscending ys → ((c : Cand) → has c xs ≡ true → has c ys ≡ true) → ((c : Cand) → has c ys ≡ true → has c xs ≡ true) → xs ≡ ys
members_same [] [] i j h k = refl
members_same [] (d ∷ ds) i j h k = let e = k d (has_first d ds) in cc
members_same (c ∷ cs) [] i j h k = let e = h c (has_first c cs) in cc
members_same (c ∷ cs) (d ∷ ds) i j h k =
    let s = heads_same c d cs ds i j (h c (has_first c cs)) (k d (has_first d ds)) in
    ap (λ z. z ∷ cs) s ∙ ap (λ l. d ∷ l) (members_same cs ds i.1 j.1 (behind_head c d cs ds s i h) (behind_head d c ds cs (sym s) j k))

pub lists_by_members : ListsByMembers
lists_by_members xs ys i j h = members_same xs ys i j (λ c e. sym (h c) ∙ e) (λ c e. h c ∙ e)

pub orders_by_members : OrdersByMembers
orders_by_members os ps i j h = orders_same os ps i j (λ x y e. sym (h x y) ∙ e) (λ x y e. h x y ∙ e)
