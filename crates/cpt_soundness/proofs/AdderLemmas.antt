-- the lists of all that add an atom
use Rattle.std.proofs.Common.{◌≡◌, ℕ, suc, zero, ◌<◌, ◌==◌, ◌||◌, ◌&&◌, List, [], ◌∷◌, ◌++◌, map, Bool, true, false, if◌then◌else◌, length, refl, ◌∙◌, ap, subst, arith, inl, inr, ◌⊎◌}
use Rattle.std.proofs.lemmas.Bool.{cases_lt, both_ways, eqb-true, or_left, or_right, and_from, le-leb}
use Rattle.std.proofs.lemmas.List.Folds.{list_any-append}
use Rattle.cpt_task.specs.declared.span.Span.{Span}
use Rattle.cpt_task.specs.declared.span.Span.TheVariants.{At, Never}
use Rattle.cpt_task.specs.Shape.{TaskShape}
use Rattle.cpt_task.specs.Timeline.{is_in}
use Rattle.cpt_tables.specs.Spans.{◌≤ˢ◌}
use Rattle.cpt_tables.specs.Admissible.{nth_action}
use Rattle.cpt_tables.proofs.PlanFacts.{in_from_contains}
use Rattle.cpt_sheet.specs.declared.data.Cand.{Cand}
use Rattle.cpt_sheet.specs.declared.data.Cand.TheVariants.{Tok, Out}
use Rattle.cpt_sheet.specs.declared.data.Kind.TheVariants.{Act}
use Rattle.cpt_sheet.specs.declared.data.Sheet.{Sheet}
use Rattle.cpt_sheet.specs.Roles.{adds_of, Adds}
use Rattle.cpt_sheet.specs.Live.{is_open, is_by, IsOpen}
use Rattle.cpt_sheet.specs.View.{span_of, kind_of, list_for, has_atom, has, same}
use Rattle.cpt_calculus.specs.Decisions.{token_adders, out_adders, adders, need_for}
use Rattle.cpt_calculus.proofs.Parts.{same_self}
use Rattle.cpt_calculus.proofs.Below.{list_cons}

pub has_left : (c : Cand) (xs ys : List Cand) → has c xs ≡ true → has c (xs ++ ys) ≡ true
has_left c xs ys h = list_any-append (λ d. same d c) xs ys ∙ or_left (has c xs) (has c ys) h

pub has_right : (c : Cand) (xs ys : List Cand) → has c ys ≡ true → has c (xs ++ ys) ≡ true
has_right c xs ys h = list_any-append (λ d. same d c) xs ys ∙ or_right (has c xs) (has c ys) h

has_last : (c : Cand) (xs : List Cand) → has c (xs ++ c ∷ []) ≡ true
has_last c xs = has_right c xs (c ∷ []) (or_left (same c c) false (same_self c))

by_is : (lo : Span) (hi : ℕ) → lo ≤ˢ At hi → is_by lo hi ≡ true
by_is (At m) hi h = le-leb m hi h
by_is Never hi h = absurd h

split : (y n : ℕ) → y < suc n → (y < n) ⊎ (n ≡ y)
split y n l = elim (cases_lt y n) [ inl k ↦ inl k | inr k ↦ inr (omega (arith, l, k)) ]

token_added : (t : TaskShape) (s : Sheet) (p n y : ℕ) → y < n → is_in p (adds_of t (kind_of s (Tok y))) ≡ true → has (Tok y) (token_adders t s p n) ≡ true
token_added t s p zero y l h = absurd (omega arith)
token_added t s p (suc n) y l h = go (is_in p (adds_of t (kind_of s (Tok n)))) refl (split y n l) (λ k. token_added t s p n y k h)
  where
    go : (c : Bool) → is_in p (adds_of t (kind_of s (Tok n))) ≡ c → ((y < n) ⊎ (n ≡ y)) → (y < n → has (Tok y) (token_adders t s p n) ≡ true) →
        has (Tok y) (if c then token_adders t s p n ++ Tok n ∷ [] else token_adders t s p n) ≡ true
    go true e (inl k) ih = has_left (Tok y) (token_adders t s p n) (Tok n ∷ []) (ih k)
    go false e (inl k) ih = ih k
    go true e (inr k) ih = subst (λ z. has (Tok z) (token_adders t s p n ++ Tok n ∷ []) ≡ true) k (has_last (Tok n) (token_adders t s p n))
    go false e (inr k) ih = absurd (both_ways (is_in p (adds_of t (kind_of s (Tok y)))) (subst (λ z. is_in p (adds_of t (kind_of s (Tok z))) ≡ false) k e) h)

-- the outside action is live and adds the atom
abbrev IsLiveAdder : TaskShape → Sheet → ℕ → ℕ → Bool
IsLiveAdder t s p n = is_open (span_of s (Out n)) && is_in p (nth_action t n).add

out_added : (t : TaskShape) (s : Sheet) (p n a : ℕ) → a < n → IsLiveAdder t s p a ≡ true → has (Out a) (out_adders t s p n) ≡ true
out_added t s p zero a l h = absurd (omega arith)
out_added t s p (suc n) a l h = go (IsLiveAdder t s p n) refl (split a n l) (λ k. out_added t s p n a k h)
  where
    go : (c : Bool) → IsLiveAdder t s p n ≡ c → ((a < n) ⊎ (n ≡ a)) → (a < n → has (Out a) (out_adders t s p n) ≡ true) →
        has (Out a) (if c then out_adders t s p n ++ Out n ∷ [] else out_adders t s p n) ≡ true
    go true e (inl k) ih = has_left (Out a) (out_adders t s p n) (Out n ∷ []) (ih k)
    go false e (inl k) ih = ih k
    go true e (inr k) ih = subst (λ z. has (Out z) (out_adders t s p n ++ Out n ∷ []) ≡ true) k (has_last (Out n) (out_adders t s p n))
    go false e (inr k) ih = absurd (both_ways (IsLiveAdder t s p a) (subst (λ z. IsLiveAdder t s p z ≡ false) k e) h)

-- each token that adds the atom is among all that do
pub token_among : (t : TaskShape) (s : Sheet) (p y : ℕ) → y < length s.tokens → Adds t (kind_of s (Tok y)) p → has (Tok y) (adders t s p) ≡ true
token_among t s p y l adds =
    has_left (Tok y) (token_adders t s p (length s.tokens)) (out_adders t s p (length t.actions))
    (token_added t s p (length s.tokens) y l (in_from_contains (adds_of t (kind_of s (Tok y))) p adds))

-- and so is each live outside action
pub out_among : (t : TaskShape) (s : Sheet) (p a : ℕ) → a < length t.actions → IsOpen (span_of s (Out a)) → Adds t (Act a) p → has (Out a) (adders t s p) ≡ true
out_among t s p a l live adds =
    has_right (Out a) (token_adders t s p (length s.tokens)) (out_adders t s p (length t.actions))
    (out_added t s p (length t.actions) a l
    (and_from (is_open (span_of s (Out a))) (is_in p (nth_action t a).add) (by_is (span_of s (Out a)).lo (span_of s (Out a)).hi live) (in_from_contains (nth_action t a).add p adds)))

-- the list that is made for an atom
pub made_list : (t : TaskShape) (s : Sheet) (p : ℕ) (ps : List ℕ) → has_atom p (map (need_for t s) ps) ≡ true → list_for p (map (need_for t s) ps) ≡ adders t s p
made_list t s p [] h = cc
made_list t s p (q ∷ ps) h = list_cons p (need_for t s q) (map (need_for t s) ps) ∙ go (q == p) refl h (λ k. made_list t s p ps k)
  where
    go : (c : Bool) → (q == p) ≡ c → (c || has_atom p (map (need_for t s) ps)) ≡ true → (has_atom p (map (need_for t s) ps) ≡ true → list_for p (map (need_for t s) ps) ≡ adders t s p) →
        (if c then adders t s q else list_for p (map (need_for t s) ps)) ≡ adders t s p
    go true e k ih = ap (λ z. adders t s z) (eqb-true q p e)
    go false e k ih = ih k
