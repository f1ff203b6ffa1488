-- the least of several spans
use Rattle.std.proofs.Common.{◌≡◌, ℕ, suc, zero, ◌<◌, List, [], ◌∷◌, sym, subst, arith, inl, inr, ◌⊎◌}
use Rattle.std.specs.List.{AllByRecursion as ByRecursion}
use Rattle.std.proofs.lemmas.Bool.{cases_lt}
use Rattle.cpt_task.specs.declared.span.Span.{Span}
use Rattle.cpt_task.specs.declared.span.Span.TheVariants.{Never}
use Rattle.cpt_tables.specs.Spans.{◌≤ˢ◌, span_min, IsBelow}
use Rattle.cpt_tables.proofs.SpanLemmas.{le_trans, le_never, min_le_left, min_le_right, min_cases}

-- the least of the values of a list
abbrev pub least_by : {X : Type 0} → (X → Span) → List X → Span
least_by g [] = Never
least_by g (x ∷ xs) = span_min (g x) (least_by g xs)

pub least_each : {X : Type 0} (g : X → Span) (v : Span) (xs : List X) → v ≤ˢ least_by g xs → ByRecursion (λ x. v ≤ˢ g x) xs
least_each g v [] h = tt
least_each g v (x ∷ xs) h = (
  le_trans v (span_min (g x) (least_by g xs)) (g x) h (min_le_left (g x) (least_by g xs)),
  least_each g v xs (le_trans v (span_min (g x) (least_by g xs)) (least_by g xs) h (min_le_right (g x) (least_by g xs))),
)

pub le_min : (v a c : Span) → v ≤ˢ a → v ≤ˢ c → v ≤ˢ span_min a c
le_min v a c h k = elim (min_cases a c) [ inl e ↦ subst (λ z. v ≤ˢ z) (sym e) h | inr e ↦ subst (λ z. v ≤ˢ z) (sym e) k ]

pub below_min : (n : ℕ) (a c : Span) → IsBelow n a → IsBelow n c → IsBelow n (span_min a c)
below_min n a c h k = elim (min_cases a c) [ inl e ↦ subst (λ z. IsBelow n z) (sym e) h | inr e ↦ subst (λ z. IsBelow n z) (sym e) k ]

pub least_over : {X : Type 0} (g : X → Span) (v : Span) (xs : List X) → ByRecursion (λ x. v ≤ˢ g x) xs → v ≤ˢ least_by g xs
least_over g v [] h = le_never v
least_over g v (x ∷ xs) h = le_min v (g x) (least_by g xs) h.0 (least_over g v xs h.1)

pub least_below : {X : Type 0} (n : ℕ) (g : X → Span) (xs : List X) → ByRecursion (λ x. IsBelow n (g x)) xs → IsBelow n (least_by g xs)
least_below n g [] h = tt
least_below n g (x ∷ xs) h = below_min n (g x) (least_by g xs) h.0 (least_below n g xs h.1)

-- the least of the values of the numbers below n
abbrev pub least_upto : (ℕ → Span) → ℕ → Span
least_upto g zero = Never
least_upto g (suc n) = span_min (g n) (least_upto g n)

pub upto_each : (g : ℕ → Span) (v : Span) (n : ℕ) → v ≤ˢ least_upto g n → (k : ℕ) → k < n → v ≤ˢ g k
upto_each g v zero h k l = absurd (omega arith)
upto_each g v (suc n) h k l =
    elim (cases_lt k n) [
      | inl m ↦ upto_each g v n (le_trans v (span_min (g n) (least_upto g n)) (least_upto g n) h (min_le_right (g n) (least_upto g n))) k m
      | inr m ↦ (let e : n ≡ k = omega arith in subst (λ z. v ≤ˢ g z) e (le_trans v (span_min (g n) (least_upto g n)) (g n) h (min_le_left (g n) (least_upto g n))))
    ]

pub upto_over : (g : ℕ → Span) (v : Span) (n : ℕ) → ((k : ℕ) → k < n → v ≤ˢ g k) → v ≤ˢ least_upto g n
upto_over g v zero h = le_never v
upto_over g v (suc n) h = le_min v (g n) (least_upto g n) (h n (omega arith)) (upto_over g v n (λ k l. h k (omega arith)))

pub upto_below : (m : ℕ) (g : ℕ → Span) (n : ℕ) → ((k : ℕ) → k < n → IsBelow m (g k)) → IsBelow m (least_upto g n)
upto_below m g zero h = tt
upto_below m g (suc n) h = below_min m (g n) (least_upto g n) (h n (omega arith)) (upto_below m g n (λ k l. h k (omega arith)))

-- a value where the first holds, and Never where it does not
abbrev pub pick : {A B : Type 0} → A ⊎ B → Span → Span
pick (inl a) v = v
pick (inr c) v = Never

pub under : {A B : Type 0} (d : A ⊎ B) (w v : Span) → w ≤ˢ pick d v → (B → ⊥) → w ≤ˢ v
under (inl a) w v h n = h
under (inr c) w v h n = absurd (n c)

pub over : {A B : Type 0} (d : A ⊎ B) (w v : Span) → (A → w ≤ˢ v) → w ≤ˢ pick d v
over (inl a) w v h = h a
over (inr c) w v h = le_never w

pub below_pick : {A B : Type 0} (n : ℕ) (d : A ⊎ B) (v : Span) → (A → IsBelow n v) → IsBelow n (pick d v)
below_pick n (inl a) v h = h a
below_pick n (inr c) v h = tt
