-- laws of the greatest over a list
use Rattle.std.proofs.Common.{◌≡◌, ℕ, zero, suc, ◌+◌, ◌<◌, ◌≤◌, List, [], ◌∷◌, ◌++◌, length, get_or, drop, All, Contains, sym, ap, ◌∙◌, arith, add-one}
use Rattle.std.proofs.Math.Seq.{drop-cons}
use Rattle.std.proofs.lemmas.List.{drop_all}
use Rattle.std.proofs.lemmas.List.Elements.{All-contains, All-head, All-tail}
use Rattle.cpt_task.specs.declared.span.Span.{Span}
use Rattle.cpt_tables.specs.Spans.{◌≤ˢ◌, span_max, IsBelow}
use Rattle.cpt_tables.specs.Shapes.{most_over}
use Rattle.cpt_tables.proofs.SpanLemmas.{le_trans, max_left, max_right, max_le, max_assoc, zero_max, max_zero, zero_le, below_max}

-- a loop over the list: the greatest so far and that of the rest
pub over_more : (f : ℕ → Span) (xs : List ℕ) (i : ℕ) (m r : Span) → i < length xs → span_max m (most_over f (drop i xs)) ≡ r → span_max (span_max m (f (get_or xs i 0))) (most_over f (drop (i + 1) xs)) ≡ r
over_more f xs i m r lt h =
    max_assoc m (f (get_or xs i 0)) (most_over f (drop (i + 1) xs))
    ∙ rw add-one (ap (λ ys. span_max m (most_over f ys)) (sym (drop-cons xs i 0 lt)) ∙ h)

pub over_all : (f : ℕ → Span) (xs : List ℕ) (i : ℕ) (m r : Span) → length xs ≤ i → span_max m (most_over f (drop i xs)) ≡ r → m ≡ r
over_all f xs i m r le h =
    sym (max_zero m) ∙ ap (λ ys. span_max m (most_over f ys)) (sym (drop_all i xs le)) ∙ h

-- each f is at most the greatest
pub le_over : (f : ℕ → Span) (xs : List ℕ) (x : ℕ) → Contains xs x → f x ≤ˢ most_over f xs
le_over f xs x has = All-contains (λ y. f y ≤ˢ most_over f xs) xs x (all f xs) has
  where
    all : (f : ℕ → Span) (xs : List ℕ) → All (λ y. f y ≤ˢ most_over f xs) xs
    all f [] k d lt = absurd (omega arith)
    all f (x ∷ xs) zero d lt = max_left (f x) (most_over f xs)
    all f (x ∷ xs) (suc k) d lt = le_trans _ (most_over f xs) _ (all f xs k d (omega arith)) (max_right (f x) (most_over f xs))

-- the greatest is at most what each f is at most
pub over_le : (f : ℕ → Span) (xs : List ℕ) (v : Span) → All (λ x. f x ≤ˢ v) xs → most_over f xs ≤ˢ v
over_le f [] v h = zero_le v
over_le f (x ∷ xs) v h = max_le (f x) (most_over f xs) v (All-head (λ x. f x ≤ˢ v) x xs h) (over_le f xs v (All-tail (λ x. f x ≤ˢ v) x xs h))

pub below_over : (n : ℕ) (f : ℕ → Span) (xs : List ℕ) → 0 < n → All (λ x. IsBelow n (f x)) xs → IsBelow n (most_over f xs)
below_over n f [] pos h = pos
below_over n f (x ∷ xs) pos h = below_max n (f x) (most_over f xs) (All-head (λ x. IsBelow n (f x)) x xs h) (below_over n f xs pos (All-tail (λ x. IsBelow n (f x)) x xs h))

pub over_append : (f : ℕ → Span) (xs ys : List ℕ) → most_over f (xs ++ ys) ≡ span_max (most_over f xs) (most_over f ys)
over_append f [] ys = sym (zero_max (most_over f ys))
over_append f (x ∷ xs) ys = ap (λ m. span_max (f x) m) (over_append f xs ys) ∙ sym (max_assoc (f x) (most_over f xs) (most_over f ys))
