use Rattle.std.proofs.Common.{◌≡◌, ℕ, zero, suc, ◌+◌, ◌<◌, ◌≤◌, ◌⊎◌, inl, inr, List, [], ◌∷◌, ◌++◌, length, get_or, take, drop, set, All, Contains, refl, sym, ◌∙◌, subst, arith}
use Rattle.std.proofs.Math.ListN.{length-set, get_or-eq_default}
use Rattle.std.proofs.lemmas.List.{get_or-set_same, get_or-set_other}
use Rattle.std.proofs.lemmas.List.Elements.{Contains-push, Contains-push_cases, Contains-append_left}
use Rattle.std.proofs.lemmas.Grind.{common_steps}
use Rattle.cpt_task.specs.Shape.{TaskShape}
use Rattle.cpt_reach.specs.Reached.{action_at}
use Rattle.cpt_reach.specs.Marking.{row_at, AddsUses, IsUsersUpTo, IsUsers, IsNoUsers}
use Rattle.cpt_reach.proofs.MarkLemmas.{same_or_not, contains_more}

pub uses_none : (a : ℕ) (rows : List (List ℕ)) → AddsUses a [] rows rows
uses_none a rows = record { size = refl; kept = λ p b h. h; added = λ p h. absurd (omega (arith, h.1)); only = λ p b h. inl h }

-- a row with one more action
uses_one : (a : ℕ) (rows : List (List ℕ)) (p : ℕ) → p < length rows → AddsUses a (p ∷ []) rows (set rows p (row_at rows p ++ a ∷ []))
uses_one a rows p lt = record {
  size = length-set rows p more;
  kept = λ q b h. elim (same_or_not q p) [
    | inl e ↦ subst (λ r. Contains (row_at new r) b) (sym e) (subst (λ ys. Contains ys b) (sym here) (Contains-append_left (row_at rows p) (a ∷ []) b (subst (λ r. Contains (row_at rows r) b) e h)))
    | inr ne ↦ subst (λ ys. Contains ys b) (sym (get_or-set_other rows p q more [] ne)) h
  ];
  added = λ q has. subst (λ r. Contains (row_at new r) a) (sym (single p q has)) (subst (λ ys. Contains ys a) (sym here) (Contains-push (row_at rows p) a));
  only = λ q b h. elim (same_or_not q p) [
    | inl e ↦ elim (Contains-push_cases (row_at rows p) a b (subst (λ ys. Contains ys b) here (subst (λ r. Contains (row_at new r) b) e h))) [
      | inl old ↦ inl (subst (λ r. Contains (row_at rows r) b) (sym e) old)
      | inr same ↦ inr (sym same)
    ]
    | inr ne ↦ inl (subst (λ ys. Contains ys b) (get_or-set_other rows p q more [] ne) h)
  ];
} where
  more : List ℕ
  more = row_at rows p ++ a ∷ []

  new : List (List ℕ)
  new = set rows p (row_at rows p ++ a ∷ [])

  here : row_at (set rows p (row_at rows p ++ a ∷ [])) p ≡ row_at rows p ++ a ∷ []
  here = get_or-set_same rows p (row_at rows p ++ a ∷ []) [] lt

  single : (x q : ℕ) → Contains (x ∷ []) q → q ≡ x
  single x q (zero, low, e) = sym e
  single x q (suc k, low, e) = absurd (omega arith)

pub uses_more : (a : ℕ) (xs : List ℕ) (i : ℕ) (r0 r1 r2 : List (List ℕ)) → i < length xs → get_or xs i 0 < length r1 → AddsUses a (take i xs) r0 r1
    → r2 ≡ set r1 (get_or xs i 0) (row_at r1 (get_or xs i 0) ++ a ∷ []) → AddsUses a (take (i + 1) xs) r0 r2
uses_more a xs i r0 r1 r2 lt within before e = subst (AddsUses a (take (i + 1) xs) r0) (sym e) (record {
  size = one.size ∙ before.size;
  kept = λ p b h. one.kept p b (before.kept p b h);
  added = λ p has. elim (contains_more xs i lt p has) [
    | inl old ↦ one.kept p a (before.added p old)
    | inr same ↦ one.added p (0, lit, sym same)
  ];
  only = λ p b h. elim (one.only p b h) [ inl old ↦ before.only p b old | inr same ↦ inr same ];
}) where
  lit : 0 < 1
  lit = omega arith

  one : AddsUses a (get_or xs i 0 ∷ []) r1 (set r1 (get_or xs i 0) (row_at r1 (get_or xs i 0) ++ a ∷ []))
  one = uses_one a r1 (get_or xs i 0) within

lt_or_le : (a b : ℕ) → (a < b) ⊎ (b ≤ a)
lt_or_le a b = grind arith

empty_row : (rows : List (List ℕ)) → All (λ row. row ≡ []) rows → (p : ℕ) → row_at rows p ≡ []
empty_row rows all p = elim (lt_or_le p (length rows)) [ inl lt ↦ all p [] lt | inr le ↦ get_or-eq_default rows [] le ]

pub no_users : (t : TaskShape) (rows : List (List ℕ)) → IsNoUsers (length t.atoms) rows → IsUsersUpTo t 0 rows
no_users t rows none = record {
  size = none.size;
  whole = λ a p lt has. absurd (omega arith);
  within = λ p a h. let z : Contains [] a = subst (λ ys. Contains ys a) (empty_row rows none.empty p) h in absurd (omega (arith, z.1));
}

before_or_here : (b a : ℕ) → b < a + 1 → (b < a) ⊎ (b ≡ a)
before_or_here b a lt = grind arith

pub users_more : (t : TaskShape) (a : ℕ) (rows new : List (List ℕ)) → IsUsersUpTo t a rows → AddsUses a (action_at t a).pre rows new → IsUsersUpTo t (a + 1) new
users_more t a rows new users uses = record {
  size = uses.size ∙ users.size;
  whole = λ b p lt has. elim (before_or_here b a lt) [
    | inl less ↦ uses.kept p b (users.whole b p less has)
    | inr same ↦ subst (λ c. Contains (row_at new p) c) (sym same) (uses.added p (subst (λ c. Contains (action_at t c).pre p) same has))
  ];
  within = λ p b h. elim (uses.only p b h) [
    | inl old ↦ let less : b < a = users.within p b old in omega (arith, less)
    | inr same ↦ omega (arith, same)
  ];
}

pub users_all : (t : TaskShape) (a : ℕ) (rows : List (List ℕ)) → a ≡ length t.actions → IsUsersUpTo t a rows → IsUsers t rows
users_all t a rows e users = subst (λ n. IsUsersUpTo t n rows) e users

-- the items of a vector after its slice was written through
pub written_back : {X : Type 0} (items new : List X) (len : ℕ) → len ≡ length items → length new ≡ length items → take len (new ++ drop (length new) items) ≡ new
written_back items new len e f = grind (arith, common_steps)
