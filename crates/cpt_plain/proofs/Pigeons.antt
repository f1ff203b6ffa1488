use Rattle.std.proofs.Common.{◌≡◌, ℕ, zero, suc, ◌<◌, ◌≤◌, ◌⊎◌, inl, inr, List, [], ◌∷◌, length, Contains, refl, sym, ap, ◌∙◌, arith}
use Rattle.std.specs.Prelude.{slice_index_or}
use Rattle.std.specs.List.Sorted.{IsStrictlyIncreasing}
use Rattle.std.proofs.lemmas.List.Elements.{All-contains}
use Rattle.cpt_reach.proofs.Numbering.{head_below, tail_increasing}

-- a list without one element: the others are in the rest
record Removed (A : Type 0) (xs : List A) (x : A) : Type 0 where
  rest : List A
  size : length xs ≡ suc (length rest)
  others : (y : A) → Contains xs y → (y ≡ x) ⊎ Contains rest y

first_or_rest : {A : Type 0} (x y : A) (xs : List A) (k : ℕ) → k < length (x ∷ xs) → slice_index_or (x ∷ xs) k y ≡ y → (x ≡ y) ⊎ Contains xs y
first_or_rest x y xs zero lt is = inl is
first_or_rest x y xs (suc k) lt is = inr (k, (let w : k < length xs = omega arith in w), is)

pub in_rest : {A : Type 0} (x y : A) (xs : List A) → Contains xs y → Contains (x ∷ xs) y
in_rest x y xs c = let w : c.0 < length xs = c.1 in (suc c.0, (let v : suc c.0 < length (x ∷ xs) = omega arith in v), c.2)

pub in_first : {A : Type 0} (x : A) (xs : List A) → Contains (x ∷ xs) x
in_first x xs = (0, (let v : 0 < length (x ∷ xs) = omega arith in v), refl)

removed : {A : Type 0} (xs : List A) (x : A) (k : ℕ) → k < length xs → slice_index_or xs k x ≡ x → Removed A xs x
removed [] x k lt is = absurd (omega arith)
removed (y ∷ ys) x zero lt is = record {
  rest = ys;
  size = refl;
  others = λ z c. elim (first_or_rest y z ys c.0 c.1 c.2) [ inl e ↦ inl (sym e ∙ is) | inr w ↦ inr w ];
}
removed (y ∷ ys) x (suc k) lt is =
    let r : Removed _ ys x = removed ys x k (omega arith) is in
    record {
      rest = y ∷ r.rest;
      size = ap suc r.size;
      others = λ z c. elim (first_or_rest y z ys c.0 c.1 c.2) [
        | inl e ↦ inr (subst_first y z r.rest e)
        | inr w ↦ elim (r.others z w) [ inl e ↦ inl e | inr v ↦ inr (in_rest y z r.rest v) ]
      ];
    }
  where
    subst_first : {A : Type 0} (y z : A) (rest : List A) → y ≡ z → Contains (y ∷ rest) z
    subst_first y z rest e = (0, (let v : 0 < length (y ∷ rest) = omega arith in v), e)

-- different numbers that stand for elements of a list are no more than these
pub pigeons : {A : Type 0} (f : ℕ → A) (ns : List ℕ) (cs : List A) → IsStrictlyIncreasing ns → ((m n : ℕ) → Contains ns m → Contains ns n → f m ≡ f n → m ≡ n) → ((n : ℕ) → Contains ns n → Contains cs (f n))
    → length ns ≤ length cs
pigeons f [] cs rising one among = omega arith
pigeons f (n ∷ ns) cs rising one among =
    let here = among n (in_first n ns) in
    let r : Removed _ cs (f n) = removed cs (f n) here.0 here.1 here.2 in
    let later : (m : ℕ) → Contains ns m → Contains r.rest (f m) = λ m c.
    elim (r.others (f m) (among m (in_rest n m ns c))) [
      | inl e ↦
          let same : m ≡ n = one m n (in_rest n m ns c) (in_first n ns) e in
          let above : n < m = All-contains (λ y. n < y) ns m (head_below n ns rising) c in
          absurd (omega arith)
      | inr w ↦ w
    ] in
    let fewer : length ns ≤ length r.rest = pigeons f ns r.rest (tail_increasing n ns rising) (λ l m c e. one l m (in_rest n l ns c) (in_rest n m ns e)) later in
    let size : length cs ≡ suc (length r.rest) = r.size in
    omega arith
