use Rattle.std.proofs.Common.{◌≡◌, ℕ, ◌<◌, ◌⊎◌, inl, inr, Ordering, Less, Equal, Greater, List, [], ◌∷◌, refl, sym, ap, ◌∙◌, arith}
use Rattle.std.specs.Cmp.{IsTotalOrder}
use Rattle.std.specs.Cmp.Lexicographic.{slice_cmp}
use Rattle.std.specs.Ordering.{nat_cmp, ordering_then}
use Rattle.std.proofs.lemmas.Bool.Decides.{nat_tests}
use Rattle.std.proofs.lemmas.Cmp.{ranked, tied_itself, nat_cmp_total, nat_list_cmp_total, on_total, then_total}
use Rattle.cpt_facts.specs.declared.problem.Fact.{Fact}
use Rattle.cpt_instance.specs.Instances.{IsListBefore}
use Rattle.cpt_ground.specs.Compiled.{IsFactBefore}

-- how ground atoms compare
abbrev pub fact_cmp : Fact → Fact → Ordering
fact_cmp a b = ordering_then (nat_cmp a.pred b.pred) (slice_cmp nat_cmp a.args b.args)

pub fact_total : IsTotalOrder fact_cmp
fact_total = then_total (on_total (λ (f : Fact). f.pred) nat_cmp_total) (on_total (λ (f : Fact). f.args) nat_list_cmp_total)

number_less : (x y : ℕ) → nat_cmp x y ≡ Less → x < y
number_less x y e = ranked x y Less (sym e)

number_same : (x y : ℕ) → nat_cmp x y ≡ Equal → x ≡ y
number_same x y e = ranked x y Equal (sym e)

less_number : (x y : ℕ) → x < y → nat_cmp x y ≡ Less
less_number x y lt = grind (arith, nat_tests)

same_number : (x y : ℕ) → x ≡ y → nat_cmp x y ≡ Equal
same_number x y e = ap (nat_cmp x) (sym e) ∙ tied_itself nat_cmp_total x

then_less : (o p : Ordering) → ordering_then o p ≡ Less → (o ≡ Less) ⊎ ((o ≡ Equal) × (p ≡ Less))
then_less Less p h = inl refl
then_less Equal p h = inr (refl, h)
then_less Greater p h = cc

then_equal : (o p : Ordering) → ordering_then o p ≡ Equal → (o ≡ Equal) × (p ≡ Equal)
then_equal Less p h = cc
then_equal Equal p h = (refl, h)
then_equal Greater p h = cc

by_first : (o p : Ordering) → o ≡ Less → ordering_then o p ≡ Less
by_first o p e = ap (λ x. ordering_then x p) e

by_second : (o p : Ordering) → o ≡ Equal → p ≡ Less → ordering_then o p ≡ Less
by_second o p e f = ap (λ x. ordering_then x p) e ∙ f

list_less : (xs ys : List ℕ) → slice_cmp nat_cmp xs ys ≡ Less → IsListBefore xs ys
list_less [] [] h = cc
list_less [] (y ∷ ys) h = tt
list_less (x ∷ xs) [] h = cc
list_less (x ∷ xs) (y ∷ ys) h =
    elim (then_less (nat_cmp x y) (slice_cmp nat_cmp xs ys) h) [
      | inl e ↦ inl (number_less x y e)
      | inr w ↦ inr (number_same x y w.0, list_less xs ys w.1)
    ]

less_list : (xs ys : List ℕ) → IsListBefore xs ys → slice_cmp nat_cmp xs ys ≡ Less
less_list [] [] h = absurd h
less_list [] (y ∷ ys) h = refl
less_list (x ∷ xs) [] h = absurd h
less_list (x ∷ xs) (y ∷ ys) h =
    elim h [
      | inl lt ↦ by_first (nat_cmp x y) (slice_cmp nat_cmp xs ys) (less_number x y lt)
      | inr w ↦ by_second (nat_cmp x y) (slice_cmp nat_cmp xs ys) (same_number x y w.0) (less_list xs ys w.1)
    ]

list_same : (xs ys : List ℕ) → slice_cmp nat_cmp xs ys ≡ Equal → xs ≡ ys
list_same [] [] h = refl
list_same [] (y ∷ ys) h = cc
list_same (x ∷ xs) [] h = cc
list_same (x ∷ xs) (y ∷ ys) h =
    let w = then_equal (nat_cmp x y) (slice_cmp nat_cmp xs ys) h in
    let e : x ≡ y = number_same x y w.0 in
    let f : xs ≡ ys = list_same xs ys w.1 in
    cc

-- an atom that compares as less is before the other
pub fact_less : (a b : Fact) → fact_cmp a b ≡ Less → IsFactBefore a b
fact_less a b h =
    elim (then_less (nat_cmp a.pred b.pred) (slice_cmp nat_cmp a.args b.args) h) [
      | inl e ↦ inl (number_less a.pred b.pred e)
      | inr w ↦ inr (number_same a.pred b.pred w.0, list_less a.args b.args w.1)
    ]

pub less_fact : (a b : Fact) → IsFactBefore a b → fact_cmp a b ≡ Less
less_fact a b h =
    elim h [
      | inl lt ↦ by_first (nat_cmp a.pred b.pred) (slice_cmp nat_cmp a.args b.args) (less_number a.pred b.pred lt)
      | inr w ↦ by_second (nat_cmp a.pred b.pred) (slice_cmp nat_cmp a.args b.args) (same_number a.pred b.pred w.0) (less_list a.args b.args w.1)
    ]

-- atoms that compare as equal are one
pub fact_same : (a b : Fact) → fact_cmp a b ≡ Equal → a ≡ b
fact_same a b h =
    let w = then_equal (nat_cmp a.pred b.pred) (slice_cmp nat_cmp a.args b.args) h in
    let first : ℕ → Fact = λ n. record { pred = n; args = a.args } in
    let second : List ℕ → Fact = λ xs. record { pred = b.pred; args = xs } in
    ap first (number_same a.pred b.pred w.0) ∙ ap second (list_same a.args b.args w.1)

pub fact_itself : (a : Fact) → fact_cmp a a ≡ Equal
fact_itself a = tied_itself fact_total a
