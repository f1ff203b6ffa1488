-- what lasts from fresh sheet to fresh sheet
use Rattle.std.proofs.Common.{◌≡◌, ℕ, ◌+◌, ◌≤◌, ◌⊎◌, inl, inr, List, [], ◌∷◌, ◌++◌, length, Contains, Option, Some, refl, sym, ap, ◌∙◌, subst, arith, length-append}
use Rattle.std.proofs.lemmas.List.{append-nil, append_assoc, same_from_push}
use Rattle.std.proofs.lemmas.List.Elements.{length_all_zip, Contains-push_cases}
use Rattle.cpt_task.specs.Shape.{TaskShape}
use Rattle.cpt_tables.specs.declared.tables.Tables.{Tables}
use Rattle.cpt_sheet.specs.declared.data.Decision.{Decision}
use Rattle.cpt_sheet.specs.declared.data.Sheet.{Sheet}
use Rattle.cpt_sheet.specs.Below.{TokenBelow}
use Rattle.cpt_calculus.specs.Closing.{ClosesTo, IsFresh}
use Rattle.cpt_calculus.specs.Closing.IsFresh.{at_root, decided}
use Rattle.cpt_calculus.specs.Decisions.{Fits, applied}
use Rattle.cpt_calculus.specs.Root.{root_of}
use Rattle.cpt_fresh.specs.Extending.{Extends, Carries, FreshExtends, FreshCarries, TokensByDecisions}
use Rattle.cpt_fresh.proofs.ExtendLemmas.{extends_itself, extends_on, live_extends, decisions_extend, decisions_are_carried, carried_on, decisions_bring_one}
use Rattle.cpt_fresh.proofs.FreshLemmas.{one_fresh}

-- a list is empty or has a last element
data Ends {A : Type 0} (xs : List A) : Type 0 where
  nowhere : xs ≡ [] → Ends xs
  behind : (ys : List A) (y : A) → xs ≡ ys ++ y ∷ [] → Ends xs

end_of : {A : Type 0} (xs : List A) → Ends xs
end_of [] = nowhere refl
end_of (x ∷ xs) = go (end_of xs)
  where
    go : Ends xs → Ends (x ∷ xs)
    go (nowhere e) = behind [] x (ap (λ l. x ∷ l) e)
    go (behind ys y e) = behind (x ∷ ys) y (ap (λ l. x ∷ l) e)

module _ (rules : List ℕ) (t : TaskShape) (tables : Tables) (b : ℕ) where
  same_sheet : (s u : Sheet) → Some s ≡ Some u → s ≡ u
  same_sheet s u e = cc

  -- from one list of decisions
  extends_same : (ds : List Decision) (s u : Sheet) → IsFresh rules t tables b ds (Some s) → IsFresh rules t tables b ds (Some u) → Extends s u
  extends_same ds s u h k = subst (λ z. Extends s z) (same_sheet s u (one_fresh rules t tables b ds (Some s) (Some u) h k)) (extends_itself s)

  -- the closure of the sheet after a decision that fits
  closure_extends : (s u : Sheet) (d : Decision) (r : Option Sheet) → r ≡ Some u → Fits s d → ClosesTo rules t tables (applied t s d) r → Extends s u
  closure_extends s u d r e fits c =
      let k = subst (λ z. ClosesTo rules t tables (applied t s d) z) e c in
      extends_on s (applied t s d) u (decisions_extend t s d fits) (live_extends (applied t s d) u k.end.below k.end.live)

  closure_carries : (s u : Sheet) (d : Decision) (r : Option Sheet) → r ≡ Some u → Fits s d → ClosesTo rules t tables (applied t s d) r → Carries u d
  closure_carries s u d r e fits c =
      let k = subst (λ z. ClosesTo rules t tables (applied t s d) z) e c in
      carried_on (applied t s d) u d (live_extends (applied t s d) u k.end.below k.end.live) (decisions_are_carried t s d fits)

  -- a front of a list with a further decision is the whole, or a front of the earlier ones
  front_of : (es fs ds : List Decision) (d : Decision) → fs ++ d ∷ [] ≡ ds ++ es → (fs ++ d ∷ [] ≡ ds) ⊎ ((gs : List Decision) × (fs ≡ ds ++ gs))
  front_of es fs ds d e = go (end_of es)
    where
      go : Ends es → (fs ++ d ∷ [] ≡ ds) ⊎ ((gs : List Decision) × (fs ≡ ds ++ gs))
      go (nowhere n) = inl (e ∙ (ap (λ z. ds ++ z) n ∙ append-nil ds))
      go (behind gs c n) = inr (gs, (same_from_push fs (ds ++ gs) d c (e ∙ (ap (λ z. ds ++ z) n ∙ sym (append_assoc ds gs (c ∷ []))))).0)

  lasts : (ls ds es : List Decision) (r : Option Sheet) (s u : Sheet) → r ≡ Some u → ls ≡ ds ++ es → IsFresh rules t tables b ls r → IsFresh rules t tables b ds (Some s) → Extends s u
  lasts ls ds es r s u e g (at_root q c) h =
      extends_same [] s u (subst (λ z. IsFresh rules t tables b z (Some s)) (no_front ds es g) h) (subst (λ z. IsFresh rules t tables b [] z) e (at_root q c))
    where
      no_front : (ds es : List Decision) → [] ≡ ds ++ es → ds ≡ []
      no_front [] es e = refl
      no_front (d ∷ ds) es e = cc
  lasts ls ds es r s u e g (decided fs w d q f fits c) h = go (front_of es fs ds d g) (λ gs k. lasts fs ds gs (Some w) s w refl k f h)
    where
      go : (fs ++ d ∷ [] ≡ ds) ⊎ ((gs : List Decision) × (fs ≡ ds ++ gs)) → ((gs : List Decision) → fs ≡ ds ++ gs → Extends s w) → Extends s u
      go (inl k) ih = extends_same ds s u h (subst (λ z. IsFresh rules t tables b z (Some u)) k (subst (λ z. IsFresh rules t tables b (fs ++ d ∷ []) z) e (decided fs w d q f fits c)))
      go (inr k) ih = extends_on s w u (ih k.0 k.1) (closure_extends w u d q e fits c)

  carries : (ls : List Decision) (r : Option Sheet) (u : Sheet) (d : Decision) → r ≡ Some u → IsFresh rules t tables b ls r → Contains ls d → Carries u d
  carries ls r u d e (at_root q c) h = let l = h.1 in absurd (omega arith)
  carries ls r u d e (decided fs w d' q f fits c) h = go (Contains-push_cases fs d' d h) (λ k. carries fs (Some w) w d refl f k)
    where
      go : Contains fs d ⊎ (d' ≡ d) → (Contains fs d → Carries w d) → Carries u d
      go (inl k) ih = carried_on w u d (closure_extends w u d' q e fits c) (ih k)
      go (inr k) ih = subst (λ z. Carries u z) k (closure_carries w u d' q e fits c)

  few : (ls : List Decision) (r : Option Sheet) (u : Sheet) → r ≡ Some u → IsFresh rules t tables b ls r → length u.tokens ≤ 2 + length ls
  few ls r u e (at_root q c) =
      let k = subst (λ z. ClosesTo rules t tables (root_of t tables b) z) e c in
      let l = length_all_zip TokenBelow (root_of t tables b).tokens u.tokens k.end.below.tokens in omega arith
  few ls r u e (decided fs w d q f fits c) =
      let k = subst (λ z. ClosesTo rules t tables (applied t w d) z) e c in
      let l = length_all_zip TokenBelow (applied t w d).tokens u.tokens k.end.below.tokens in
      let m = decisions_bring_one t w d in
      let n = few fs (Some w) w refl f in
      let o = length-append fs (d ∷ []) in omega arith

pub fresh_extends : FreshExtends
fresh_extends rules t tables b ds es s u h k = lasts rules t tables b (ds ++ es) ds es (Some u) s u refl refl k h

pub fresh_carries : FreshCarries
fresh_carries rules t tables b ds s d h k = carries rules t tables b ds (Some s) s d refl h k

pub tokens_by_decisions : TokensByDecisions
tokens_by_decisions rules t tables b ds s h = few rules t tables b ds (Some s) s refl h
