use Rattle.std.proofs.Common.{◌≡◌, ◌∙◌, ℕ, suc, zero, ◌+◌, ◌-◌, ◌<◌, ◌≤◌, ◌⊎◌, ◌↔◌, inl, inr, List, [], ◌∷◌, ◌++◌, length, refl, sym, ap, subst, get_or, arith, append_assoc, length-append}
use Rattle.std.specs.Prelude.{AllPairs, Contains}
use Rattle.std.proofs.lemmas.List.{append-nil, get_or-append_right, get_or_append_left}
use Rattle.std.proofs.lemmas.List.Elements.{Contains-append_cases, Contains-append_left, Contains-append_right, Contains-get_or}
use Rattle.cpt_instance.specs.Instances.{Instance, IsInstanceBefore}
use Rattle.cpt_instance.specs.Listing.{Adds, AddsWhere, AreAll}
use Rattle.cpt_instance.proofs.MemberLemmas.{in_cons, first_in, none_in}

cases_lt : (i n : ℕ) → (i < n) ⊎ (n ≤ i)
cases_lt zero zero = inr (omega arith)
cases_lt zero (suc n) = inl (omega arith)
cases_lt (suc i) zero = inr (omega arith)
cases_lt (suc i) (suc n) = elim (cases_lt i n) [ inl less ↦ inl (omega arith) | inr more ↦ inr (omega arith) ]

-- pairs of two lists, one behind the other
pub pairs_append : {X : Type 0} (R : X → X → Type 0) (xs ys : List X) → AllPairs R xs → AllPairs R ys
    → ((x y : X) → Contains xs x → Contains ys y → R x y) → AllPairs R (xs ++ ys)
pairs_append {X} R xs ys px py across = λ i j d lt within.
    let len : length (xs ++ ys) ≡ length xs + length ys = length-append xs ys in
    elim (cases_lt j (length xs)) [
      | inl low ↦
          let ei : get_or xs i d ≡ get_or (xs ++ ys) i d = sym (get_or_append_left xs ys d i (omega arith)) in
          let ej : get_or xs j d ≡ get_or (xs ++ ys) j d = sym (get_or_append_left xs ys d j low) in
          subst (λ (x : X). R x (get_or (xs ++ ys) j d)) ei (subst (λ (y : X). R (get_or xs i d) y) ej (px i j d lt low))
      | inr high ↦
          let ej : get_or ys (j - length xs) d ≡ get_or (xs ++ ys) j d = sym (get_or-append_right xs ys (length xs) j d refl high) in
          elim (cases_lt i (length xs)) [
            | inl low ↦
                let ei : get_or xs i d ≡ get_or (xs ++ ys) i d = sym (get_or_append_left xs ys d i low) in
                subst (λ (x : X). R x (get_or (xs ++ ys) j d)) ei
                (subst (λ (y : X). R (get_or xs i d) y) ej
                (across (get_or xs i d) (get_or ys (j - length xs) d) (Contains-get_or xs i d low) (Contains-get_or ys (j - length xs) d (omega arith))))
            | inr first ↦
                let ei : get_or ys (i - length xs) d ≡ get_or (xs ++ ys) i d = sym (get_or-append_right xs ys (length xs) i d refl first) in
                subst (λ (x : X). R x (get_or (xs ++ ys) j d)) ei
                (subst (λ (y : X). R (get_or ys (i - length xs) d) y) ej (py (i - length xs) (j - length xs) d (omega arith) (omega arith)))
          ]
    ]

-- two lists of instances, one behind the other
pub all_append : (P Q : Instance → Type 0) (xs ys : List Instance) → AreAll P xs → AreAll Q ys → ((i j : Instance) → P i → Q j → IsInstanceBefore i j)
    → AreAll (λ i. P i ⊎ Q i) (xs ++ ys)
all_append P Q xs ys px qy across = record {
  exact = λ i. (
    (λ h. elim (Contains-append_cases xs ys i h) [ inl left ↦ inl ((px.exact i).0 left) | inr right ↦ inr ((qy.exact i).0 right) ]),
    (λ h. elim h [ inl left ↦ Contains-append_left xs ys i ((px.exact i).1 left) | inr right ↦ Contains-append_right xs ys i ((qy.exact i).1 right) ]),
  );
  ordered = pairs_append IsInstanceBefore xs ys px.ordered qy.ordered (λ x y hx hy. across x y ((px.exact x).0 hx) ((qy.exact y).0 hy));
}

-- the same instances, said in another way
pub all_same : (P Q : Instance → Type 0) (xs : List Instance) → ((i : Instance) → P i ↔ Q i) → AreAll P xs → AreAll Q xs
all_same P Q xs same h = record {
  exact = λ i. ((λ x. (same i).0 ((h.exact i).0 x)), (λ x. (h.exact i).1 ((same i).1 x)));
  ordered = h.ordered;
}

-- no instances
pub all_none : (P : Instance → Type 0) → ((i : Instance) → P i → ⊥) → AreAll P []
all_none P none = record {
  exact = λ i. ((λ h. none_in i h), (λ h. absurd (none i h)));
  ordered = λ i j d lt within. let v : j < 0 = within in absurd (omega arith);
}

-- one instance
pub all_one : (i : Instance) → AreAll (λ j. j ≡ i) (i ∷ [])
all_one i = record {
  exact = λ j. ((λ h. elim (in_cons i [] j h) [ inl same ↦ same | inr more ↦ none_in j more ]), (λ e. subst (Contains (i ∷ [])) (sym e) (first_in i [])));
  ordered = λ a b d lt within. let v : b < 1 = within in absurd (omega arith);
}

-- nothing is added
pub adds_none : (P : Instance → Type 0) (old : List Instance) → ((i : Instance) → P i → ⊥) → Adds P old old
adds_none P old none = record { added = []; is = sym (append-nil old); all = all_none P none }

-- what is added is said in another way
pub adds_same : (P Q : Instance → Type 0) (old new : List Instance) → ((i : Instance) → P i ↔ Q i) → Adds P old new → Adds Q old new
adds_same P Q old new same h = record { added = h.added; is = h.is; all = all_same P Q h.added same h.all }

-- one more instance is added, where it is kept
pub adds_where : (P Q : Instance → Type 0) (K : Type 0) (i : Instance) (old mid new : List Instance) → Adds P old mid → AddsWhere K i mid new
    → ((j : Instance) → P j → IsInstanceBefore j i) → ((j : Instance) → (P j ⊎ (K × (j ≡ i))) ↔ Q j) → Adds Q old new
adds_where P Q K i old mid new h one before same =
    elim one [
      | inl kept ↦ record {
        added = h.added ++ i ∷ [];
        is = kept.1 ∙ ap (λ xs. xs ++ i ∷ []) h.is ∙ append_assoc old h.added (i ∷ []);
        all = all_same (λ j. P j ⊎ (j ≡ i)) Q (h.added ++ i ∷ []) (λ j. (
          (λ x. (same j).0 (elim x [ inl left ↦ inl left | inr right ↦ inr (kept.0, right) ])),
          (λ x. elim ((same j).1 x) [ inl left ↦ inl left | inr right ↦ inr right.1 ]),
        ))
            (all_append P (λ j. j ≡ i) h.added (i ∷ []) h.all (all_one i) (λ a b pa e. subst (IsInstanceBefore a) (sym e) (before a pa)));
      }
      | inr not ↦ record {
        added = h.added;
        is = not.1 ∙ h.is;
        all = all_same P Q h.added (λ j. (
          (λ x. (same j).0 (inl x)),
          (λ x. elim ((same j).1 x) [ inl left ↦ left | inr right ↦ absurd (not.0 right.0) ]),
        )) h.all;
      }
    ]

-- behind all of one kind come those of another
pub all_more : (P Q R : Instance → Type 0) (old new : List Instance) → AreAll P old → Adds Q old new → ((i j : Instance) → P i → Q j → IsInstanceBefore i j)
    → ((i : Instance) → (P i ⊎ Q i) ↔ R i) → AreAll R new
all_more P Q R old new h more before same =
    subst (AreAll R) (sym more.is) (all_same (λ i. P i ⊎ Q i) R (old ++ more.added) same (all_append P Q old more.added h more.all before))
