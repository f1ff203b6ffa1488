-- lists of all that add an atom
use Rattle.std.proofs.Common.{◌≡◌, ℕ, zero, suc, ◌<◌, List, [], ◌∷◌, ◌++◌, Bool, true, false, ◌&&◌, ◌==◌, nat_eq, if◌then◌else◌, length, map, Contains, refl, sym, ◌∙◌, ap, subst, arith, inl, inr, ◌⊎◌}
use Rattle.std.proofs.lemmas.Bool.{or_cases, or_left, or_right, and_parts, eqb-true}
use Rattle.std.proofs.lemmas.Map.Views.{Contains-from_any}
use Rattle.cpt_task.specs.Shape.{TaskShape}
use Rattle.cpt_task.specs.Timeline.{is_in}
use Rattle.cpt_tables.specs.Admissible.{nth_action}
use Rattle.cpt_sheet.specs.declared.data.Cand.{Cand}
use Rattle.cpt_sheet.specs.declared.data.Cand.TheVariants.{Tok, Out}
use Rattle.cpt_sheet.specs.declared.data.Kind.TheVariants.{Act}
use Rattle.cpt_sheet.specs.declared.data.Need.{Need}
use Rattle.cpt_sheet.specs.declared.data.Sheet.{Sheet}
use Rattle.cpt_sheet.specs.Roles.{Adds, adds_of}
use Rattle.cpt_sheet.specs.Live.{is_open}
use Rattle.cpt_sheet.specs.View.{span_of, kind_of, has, same, list_for}
use Rattle.cpt_sheet.specs.Formed.{Precedes, IsAscending}
use Rattle.cpt_calculus.specs.Decisions.{token_adders, out_adders, adders, need_for}
use Rattle.cpt_calculus.proofs.Parts.{same_is, same_self}
use Rattle.cpt_calculus.proofs.Below.{list_cons}

Contains-from_is_in : (p : ℕ) (xs : List ℕ) → is_in p xs ≡ true → Contains xs p
Contains-from_is_in p xs e = Contains-from_any {eq = nat_eq} (λ x y h. eqb-true x y h) p xs e

pub has_append : (c : Cand) (xs ys : List Cand) → has c (xs ++ ys) ≡ true → (has c xs ≡ true) ⊎ (has c ys ≡ true)
has_append c [] ys h = inr h
has_append c (x ∷ xs) ys h =
    elim (or_cases (same x c) (has c (xs ++ ys)) h) [
      | inl k ↦ inl (or_left (same x c) (has c xs) k)
      | inr k ↦ elim (has_append c xs ys k) [ inl m ↦ inl (or_right (same x c) (has c xs) m) | inr m ↦ inr m ]
    ]

pub has_one : (c d : Cand) → has c (d ∷ []) ≡ true → d ≡ c
has_one c d h = elim (or_cases (same d c) false h) [ inl k ↦ same_is d c k | inr k ↦ cc ]

pub ascending_append : (xs ys : List Cand) → IsAscending xs → IsAscending ys → ((c d : Cand) → has c xs ≡ true → has d ys ≡ true → Precedes c d) → IsAscending (xs ++ ys)
ascending_append [] ys h k f = k
ascending_append (x ∷ xs) ys h k f = (
  (λ d m. elim (has_append d xs ys m) [ inl e ↦ h.0 d e | inr e ↦ f x d (or_left (same x x) (has x xs) (same_self x)) e ]),
  ascending_append xs ys h.1 k (λ c d m e. f c d (or_right (same x c) (has c xs) m) e),
)

pub ascending_one : (c : Cand) → IsAscending (c ∷ [])
ascending_one c = ((λ d k. cc), tt)

-- a token among the first n that adds the atom
abbrev IsTokenAdder : TaskShape → Sheet → ℕ → ℕ → Cand → Type 0
IsTokenAdder t s p n c = (y : ℕ) × (c ≡ Tok y) × (y < n) × Adds t (kind_of s (Tok y)) p

token_adder : (t : TaskShape) (s : Sheet) (p n : ℕ) (c : Cand) → has c (token_adders t s p n) ≡ true → IsTokenAdder t s p n c
token_adder t s p zero c h = cc
token_adder t s p (suc n) c h = go (is_in p (adds_of t (kind_of s (Tok n)))) refl h (λ k. token_adder t s p n c k)
  where
    weaken : IsTokenAdder t s p n c → IsTokenAdder t s p (suc n) c
    weaken k = let l = k.2 in (k.0, k.1, omega arith, k.3)

    go : (b : Bool) → is_in p (adds_of t (kind_of s (Tok n))) ≡ b → has c (if b then token_adders t s p n ++ Tok n ∷ [] else token_adders t s p n) ≡ true →
        (has c (token_adders t s p n) ≡ true → IsTokenAdder t s p n c) → IsTokenAdder t s p (suc n) c
    go true e k ih =
        elim (has_append c (token_adders t s p n) (Tok n ∷ []) k) [
          | inl m ↦ weaken (ih m)
          | inr m ↦ (n, sym (has_one c (Tok n) m), omega arith, Contains-from_is_in p (adds_of t (kind_of s (Tok n))) e)
        ]
    go false e k ih = weaken (ih k)

-- an outside action among the first n that adds the atom
abbrev IsOutAdder : TaskShape → ℕ → ℕ → Cand → Type 0
IsOutAdder t p n c = (a : ℕ) × (c ≡ Out a) × (a < n) × Adds t (Act a) p

out_adder : (t : TaskShape) (s : Sheet) (p n : ℕ) (c : Cand) → has c (out_adders t s p n) ≡ true → IsOutAdder t p n c
out_adder t s p zero c h = cc
out_adder t s p (suc n) c h = go (is_open (span_of s (Out n)) && is_in p (nth_action t n).add) refl h (λ k. out_adder t s p n c k)
  where
    weaken : IsOutAdder t p n c → IsOutAdder t p (suc n) c
    weaken k = let l = k.2 in (k.0, k.1, omega arith, k.3)

    go : (b : Bool) → (is_open (span_of s (Out n)) && is_in p (nth_action t n).add) ≡ b → has c (if b then out_adders t s p n ++ Out n ∷ [] else out_adders t s p n) ≡ true →
        (has c (out_adders t s p n) ≡ true → IsOutAdder t p n c) → IsOutAdder t p (suc n) c
    go true e k ih =
        elim (has_append c (out_adders t s p n) (Out n ∷ []) k) [
          | inl m ↦ weaken (ih m)
          | inr m ↦ (n, sym (has_one c (Out n) m), omega arith, Contains-from_is_in p (nth_action t n).add (and_parts (is_open (span_of s (Out n))) (is_in p (nth_action t n).add) e).1)
        ]
    go false e k ih = weaken (ih k)

tokens_precede : (n : ℕ) (t : TaskShape) (s : Sheet) (p : ℕ) (c d : Cand) → has c (token_adders t s p n) ≡ true → has d (Tok n ∷ []) ≡ true → Precedes c d
tokens_precede n t s p c d h k =
    let a = token_adder t s p n c h in
    subst (λ z. Precedes z d) (sym a.1) (subst (λ z. Precedes (Tok a.0) z) (has_one d (Tok n) k) a.2)

outs_precede : (n : ℕ) (t : TaskShape) (s : Sheet) (p : ℕ) (c d : Cand) → has c (out_adders t s p n) ≡ true → has d (Out n ∷ []) ≡ true → Precedes c d
outs_precede n t s p c d h k =
    let a = out_adder t s p n c h in
    subst (λ z. Precedes z d) (sym a.1) (subst (λ z. Precedes (Out a.0) z) (has_one d (Out n) k) a.2)

tokens_ascending : (t : TaskShape) (s : Sheet) (p n : ℕ) → IsAscending (token_adders t s p n)
tokens_ascending t s p zero = tt
tokens_ascending t s p (suc n) = go (is_in p (adds_of t (kind_of s (Tok n)))) (tokens_ascending t s p n)
  where
    go : (b : Bool) → IsAscending (token_adders t s p n) → IsAscending (if b then token_adders t s p n ++ Tok n ∷ [] else token_adders t s p n)
    go true ih = ascending_append (token_adders t s p n) (Tok n ∷ []) ih (ascending_one (Tok n)) (tokens_precede n t s p)
    go false ih = ih

outs_ascending : (t : TaskShape) (s : Sheet) (p n : ℕ) → IsAscending (out_adders t s p n)
outs_ascending t s p zero = tt
outs_ascending t s p (suc n) = go (is_open (span_of s (Out n)) && is_in p (nth_action t n).add) (outs_ascending t s p n)
  where
    go : (b : Bool) → IsAscending (out_adders t s p n) → IsAscending (if b then out_adders t s p n ++ Out n ∷ [] else out_adders t s p n)
    go true ih = ascending_append (out_adders t s p n) (Out n ∷ []) ih (ascending_one (Out n)) (outs_precede n t s p)
    go false ih = ih

pub adders_ascending : (t : TaskShape) (s : Sheet) (p : ℕ) → IsAscending (adders t s p)
adders_ascending t s p =
    ascending_append (token_adders t s p (length s.tokens)) (out_adders t s p (length t.actions)) (tokens_ascending t s p (length s.tokens)) (outs_ascending t s p (length t.actions))
    (λ c d h k. let a = token_adder t s p (length s.tokens) c h in let b = out_adder t s p (length t.actions) d k in
    subst (λ z. Precedes z d) (sym a.1) (subst (λ z. Precedes (Tok a.0) z) (sym b.1) tt))

-- a token or an action that is there and adds the atom
abbrev pub IsAdderIn : TaskShape → Sheet → ℕ → Cand → Type 0
IsAdderIn t s p (Tok y) = (y < length s.tokens) × Adds t (kind_of s (Tok y)) p
IsAdderIn t s p (Out a) = (a < length t.actions) × Adds t (Act a) p

pub adder_in : (t : TaskShape) (s : Sheet) (p : ℕ) (c : Cand) → has c (adders t s p) ≡ true → IsAdderIn t s p c
adder_in t s p c h =
    elim (has_append c (token_adders t s p (length s.tokens)) (out_adders t s p (length t.actions)) h) [
      | inl k ↦ (let a = token_adder t s p (length s.tokens) c k in subst (λ z. IsAdderIn t s p z) (sym a.1) (a.2, a.3))
      | inr k ↦ (let a = out_adder t s p (length t.actions) c k in subst (λ z. IsAdderIn t s p z) (sym a.1) (a.2, a.3))
    ]

-- the list of an atom among needs made anew
pub made_list : (t : TaskShape) (s : Sheet) (q : ℕ) (ps : List ℕ) → (list_for q (map (need_for t s) ps) ≡ adders t s q) ⊎ (list_for q (map (need_for t s) ps) ≡ [])
made_list t s q [] = inr refl
made_list t s q (p ∷ ps) = go (p == q) refl (made_list t s q ps)
  where
    go : (b : Bool) → (p == q) ≡ b → (list_for q (map (need_for t s) ps) ≡ adders t s q) ⊎ (list_for q (map (need_for t s) ps) ≡ []) →
        (list_for q (need_for t s p ∷ map (need_for t s) ps) ≡ adders t s q) ⊎ (list_for q (need_for t s p ∷ map (need_for t s) ps) ≡ [])
    go true e ih = inl (list_cons q (need_for t s p) (map (need_for t s) ps) ∙ (ap (λ b. if b then adders t s p else list_for q (map (need_for t s) ps)) e ∙ ap (λ z. adders t s z) (eqb-true p q e)))
    go false e ih =
        let k : list_for q (need_for t s p ∷ map (need_for t s) ps) ≡ list_for q (map (need_for t s) ps) =
        list_cons q (need_for t s p) (map (need_for t s) ps) ∙ ap (λ b. if b then adders t s p else list_for q (map (need_for t s) ps)) e in
        elim ih [ inl m ↦ inl (k ∙ m) | inr m ↦ inr (k ∙ m) ]

pub atoms_made : (t : TaskShape) (s : Sheet) (ps : List ℕ) → map (λ (n : Need). n.atom) (map (need_for t s) ps) ≡ ps
atoms_made t s [] = refl
atoms_made t s (p ∷ ps) = ap (λ l. p ∷ l) (atoms_made t s ps)

-- so a candidate there adds the atom, and the list is ascending
pub made_adder : (t : TaskShape) (s : Sheet) (q : ℕ) (ps : List ℕ) (c : Cand) → has c (list_for q (map (need_for t s) ps)) ≡ true → IsAdderIn t s q c
made_adder t s q ps c h =
    elim (made_list t s q ps) [
      | inl e ↦ adder_in t s q c (subst (λ (l : List Cand). has c l ≡ true) e h)
      | inr e ↦ absurd (let k : has c [] ≡ true = subst (λ (l : List Cand). has c l ≡ true) e h in cc)
    ]

pub made_ascending : (t : TaskShape) (s : Sheet) (q : ℕ) (ps : List ℕ) → IsAscending (list_for q (map (need_for t s) ps))
made_ascending t s q ps =
    elim (made_list t s q ps) [
      | inl e ↦ subst (λ (l : List Cand). IsAscending l) (sym e) (adders_ascending t s q)
      | inr e ↦ subst (λ (l : List Cand). IsAscending l) (sym e) tt
    ]
