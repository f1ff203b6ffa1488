-- right sides that are given by decidable facts have a least one
use Rattle.std.proofs.Common.{◌≡◌, ℕ, zero, suc, ◌<◌, ◌⊎◌, inl, inr, List, [], ◌∷◌, length, get_or, Contains, refl, sym, subst, arith}
use Rattle.cpt_task.specs.declared.span.Span.{Span}
use Rattle.cpt_task.specs.declared.span.Span.TheVariants.{At, Never}
use Rattle.cpt_tables.specs.Spans.{◌≤ˢ◌, ◌<ˢ◌}
use Rattle.cpt_tables.specs.Admissible.{IsLeast}
use Rattle.cpt_tables.proofs.SpanLemmas.{le_refl, le_trans, le_cases}
use Rattle.cpt_decidable.specs.Decidable.{IsDecidable}

-- a least right side
abbrev pub HasLeast : (Span → Type 0) → Type 0
HasLeast L = (most : Span) × IsLeast L most

less_is_most : (a b : Span) → a <ˢ b → a ≤ˢ b
less_is_most (At a) (At b) lt = omega (arith, lt)
less_is_most (At a) Never lt = tt
less_is_most Never b lt = absurd lt

pub least_like : (L M : Span → Type 0) → ((v : Span) → L v → M v) → ((v : Span) → M v → L v) → HasLeast L → HasLeast M
least_like L M f g h = (h.0, record { taken = go h.1.taken; least = λ v m. h.1.least v (g v m) })
  where
    go : (L h.0 ⊎ (h.0 ≡ Never)) → M h.0 ⊎ (h.0 ≡ Never)
    go (inl l) = inl (f h.0 l)
    go (inr e) = inr e

-- one right side
pub least_one : (w : Span) → HasLeast (λ v. v ≡ w)
least_one w = (w, record { taken = inl refl; least = λ v e. subst (λ z. w ≤ˢ z) (sym e) (le_refl w) })

-- right sides where a fact holds
pub least_where : {P : Type 0} (L : Span → Type 0) → IsDecidable P → HasLeast L → HasLeast (λ v. P × L v)
least_where {P} L (inl p) h = (h.0, record { taken = go h.1.taken; least = λ v m. h.1.least v m.1 })
  where
    go : (L h.0 ⊎ (h.0 ≡ Never)) → (P × L h.0) ⊎ (h.0 ≡ Never)
    go (inl l) = inl (p, l)
    go (inr e) = inr e
least_where {P} L (inr n) h = (Never, record { taken = inr refl; least = λ v m. absurd (n m.0) })

-- right sides of two kinds
pub least_either : (L M : Span → Type 0) → HasLeast L → HasLeast M → HasLeast (λ v. L v ⊎ M v)
least_either L M h k = go (le_cases h.0 k.0)
  where
    first : (L h.0 ⊎ (h.0 ≡ Never)) → (L h.0 ⊎ M h.0) ⊎ (h.0 ≡ Never)
    first (inl l) = inl (inl l)
    first (inr e) = inr e

    second : (M k.0 ⊎ (k.0 ≡ Never)) → (L k.0 ⊎ M k.0) ⊎ (k.0 ≡ Never)
    second (inl m) = inl (inr m)
    second (inr e) = inr e

    go : ((h.0 ≤ˢ k.0) ⊎ (k.0 <ˢ h.0)) → HasLeast (λ v. L v ⊎ M v)
    go (inl le) = (h.0, record { taken = first h.1.taken; least = λ v s. elim s [ inl l ↦ h.1.least v l | inr m ↦ le_trans h.0 k.0 v le (k.1.least v m) ] })
    go (inr lt) = (k.0, record { taken = second k.1.taken; least = λ v s. elim s [ inl l ↦ le_trans k.0 h.0 v (less_is_most k.0 h.0 lt) (h.1.least v l) | inr m ↦ k.1.least v m ] })

-- right sides of each of a list
pub least_over : {X : Type 0} (L : X → Span → Type 0) → ((x : X) → HasLeast (L x)) → (xs : List X) → HasLeast (λ v. (x : X) × Contains xs x × L x v)
least_over {X} L each [] = (Never, record { taken = inr refl; least = λ v m. let lt = m.1.1 in absurd (omega (arith, lt)) })
least_over {X} L each (x ∷ xs) =
    least_like (λ v. L x v ⊎ ((y : X) × Contains xs y × L y v)) (λ v. (y : X) × Contains (x ∷ xs) y × L y v) up (λ v m. down v m.0 m.1.0 m.1.1 m.1.2 m.2)
    (least_either (L x) (λ v. (y : X) × Contains xs y × L y v) (each x) (least_over L each xs))
  where
    up : (v : Span) → (L x v ⊎ ((y : X) × Contains xs y × L y v)) → (y : X) × Contains (x ∷ xs) y × L y v
    up v (inl l) = (x, (0, omega arith, refl), l)
    up v (inr h) = let lt = h.1.1 in (h.0, (suc h.1.0, omega (arith, lt), h.1.2), h.2)

    down : (v : Span) (y : X) (k : ℕ) → k < length (x ∷ xs) → get_or (x ∷ xs) k y ≡ y → L y v → L x v ⊎ ((z : X) × Contains xs z × L z v)
    down v y zero lt e l = inl (subst (λ z. L z v) (sym e) l)
    down v y (suc k) lt e l = inr (y, (k, omega (arith, lt), e), l)
