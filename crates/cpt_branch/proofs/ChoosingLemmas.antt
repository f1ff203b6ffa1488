-- the first of several flaws
use Rattle.std.proofs.Common.{◌≡◌, ℕ, ◌+◌, ◌≤◌, ◌<◌, ◌⊎◌, inl, inr, Option, Some, None, sym, subst, arith}
use Rattle.std.proofs.lemmas.Bool.{cases_order}
use Rattle.cpt_sheet.specs.declared.data.Sheet.{Sheet}
use Rattle.cpt_sheet.specs.declared.data.Flaw.{Flaw}
use Rattle.cpt_calculus.specs.Flaws.{IsChosenBefore}
use Rattle.cpt_fresh.proofs.FlawLemmas.{choice_is_total, choice_is_order}
use Rattle.cpt_branch.specs.Choosing.{Flaws, IsFirstOf, IsEarlier, AreBelow}

-- the same flaws
pub first-same : (s : Sheet) (P Q : Flaws) (r : Option Flaw) → ((f : Flaw) → P f → Q f) → ((f : Flaw) → Q f → P f) → IsFirstOf s P r → IsFirstOf s Q r
first-same s P Q None to back h = λ f q. h f (back f q)
first-same s P Q (Some g) to back h = (to g h.0, λ f q. h.1 f (back f q))

-- who is not after f, where f is not after g, is not before g
stays-first : (s : Sheet) (f g h : Flaw) → (IsChosenBefore s g f → ⊥) → (IsChosenBefore s h g → ⊥) → IsChosenBefore s h f → ⊥
stays-first s f g h low after before = elim (choice_is_total s f g) [
  | inl first ↦ after ((choice_is_order s).trans h f g before first)
  | inr rest ↦ elim rest [ inl same ↦ after (subst (λ z. IsChosenBefore s h z) same before) | inr last ↦ low last ]
]

-- the first of two kinds
pub first-either : (s : Sheet) (P Q : Flaws) (a b r : Option Flaw) → IsFirstOf s P a → IsFirstOf s Q b → IsEarlier s a b r → IsFirstOf s (λ f. P f ⊎ Q f) r
first-either s P Q None b r h k e = subst (IsFirstOf s (λ f. P f ⊎ Q f)) (sym e) (right b k)
  where
    right : (b : Option Flaw) → IsFirstOf s Q b → IsFirstOf s (λ f. P f ⊎ Q f) b
    right None k = λ f c. elim c [ inl p ↦ h f p | inr q ↦ k f q ]
    right (Some g) k = (inr k.0, λ f c before. elim c [ inl p ↦ h f p | inr q ↦ k.1 f q before ])
first-either s P Q (Some g) None r h k e = subst (IsFirstOf s (λ f. P f ⊎ Q f)) (sym e) (inl h.0, λ f c before. elim c [ inl p ↦ h.1 f p before | inr q ↦ k f q ])
first-either s P Q (Some f) (Some g) r h k (inl (e, low)) =
    subst (IsFirstOf s (λ f. P f ⊎ Q f)) (sym e) (inl h.0, λ x c before. elim c [ inl p ↦ h.1 x p before | inr q ↦ stays-first s f g x low (k.1 x q) before ])
first-either s P Q (Some f) (Some g) r h k (inr (e, low)) =
    subst (IsFirstOf s (λ f. P f ⊎ Q f)) (sym e) (inr k.0, λ x c before. elim c [ inl p ↦ stays-first s g f x (λ k. (choice_is_order s).other g ((choice_is_order s).trans g f g low k)) (h.1 x p) before | inr q ↦ k.1 x q before ])

-- all numbers are looked at
pub first-all : (s : Sheet) (Q : ℕ → Flaws) (m n : ℕ) (r : Option Flaw) → m ≤ n → n ≤ m → IsFirstOf s (AreBelow Q m) r → IsFirstOf s (AreBelow Q n) r
first-all s Q m n r le ge h = let e : m ≡ n = omega arith in subst (λ k. IsFirstOf s (AreBelow Q k) r) e h

-- none below nothing, and one number more
pub first-below : (s : Sheet) (Q : ℕ → Flaws) → IsFirstOf s (AreBelow Q 0) None
first-below s Q f c = absurd (omega (arith, c.1))

pub first-next : (s : Sheet) (Q : ℕ → Flaws) (n : ℕ) (a b r : Option Flaw) → IsFirstOf s (AreBelow Q n) a → IsFirstOf s (Q n) b → IsEarlier s a b r → IsFirstOf s (AreBelow Q (n + 1)) r
first-next s Q n a b r h k e = first-same s (λ f. AreBelow Q n f ⊎ Q n f) (AreBelow Q (n + 1)) r to back (first-either s (AreBelow Q n) (Q n) a b r h k e)
  where
    to : (f : Flaw) → AreBelow Q n f ⊎ Q n f → AreBelow Q (n + 1) f
    to f (inl c) = (c.0, omega (arith, c.1), c.2)
    to f (inr q) = (n, omega arith, q)

    back : (f : Flaw) → AreBelow Q (n + 1) f → AreBelow Q n f ⊎ Q n f
    back f (x, lt, q) = go (cases_order x n)
      where
        go : (x ≡ n) ⊎ ((x < n) ⊎ (n < x)) → AreBelow Q n f ⊎ Q n f
        go (inl e) = inr (subst (λ z. Q z f) e q)
        go (inr (inl l)) = inl (x, l, q)
        go (inr (inr l)) = absurd (omega arith)
