-- how each token was brought
use Rattle.std.proofs.Common.{◌≡◌, ℕ, ◌≤◌, ◌<◌, ◌==◌, ◌&&◌, ◌⊎◌, inl, inr, Bool, true, false, List, [], ◌∷◌, length, Option, Some, None, refl, sym, ◌∙◌, subst, arith, eq-eqb}
use Rattle.std.proofs.lemmas.Bool.{cases_lt, or_left}
use Rattle.std.proofs.lemmas.List.Elements.{length_all_zip}
use Rattle.cpt_task.specs.Shape.{TaskShape}
use Rattle.cpt_tables.specs.declared.tables.Tables.{Tables}
use Rattle.cpt_sheet.specs.declared.data.Cand.TheVariants.{Tok, Out}
use Rattle.cpt_sheet.specs.declared.data.Decision.{Decision}
use Rattle.cpt_sheet.specs.declared.data.Decision.TheVariants.{Join, Bring, Before}
use Rattle.cpt_sheet.specs.declared.data.Sheet.{Sheet}
use Rattle.cpt_sheet.specs.Below.{IsBelowSheet, TokenBelow}
use Rattle.cpt_sheet.specs.Edits.{posted}
use Rattle.cpt_sheet.specs.Live.{IsLive}
use Rattle.cpt_sheet.specs.View.{has_order, token_at}
use Rattle.cpt_calculus.specs.Closing.{IsFresh, ClosesTo}
use Rattle.cpt_calculus.specs.Closing.IsFresh.{at_root, decided}
use Rattle.cpt_calculus.specs.Decisions.{Fits, applied}
use Rattle.cpt_calculus.specs.Root.{root_of}
use Rattle.cpt_calculus.proofs.Below.{order_posted}
use Rattle.cpt_soundness.proofs.ViewLemmas.{count_with_list}
use Rattle.cpt_soundness.proofs.BringLemmas.{bring_count, bring_need, bring_posted}
use Rattle.cpt_soundness.proofs.FormedLemmas.{cand_there}
use Rattle.cpt_fresh.specs.Extending.{Extends}
use Rattle.cpt_fresh.proofs.ExtendLemmas.{live_extends, decisions_extend, listed_need, brought_is_new}
use Rattle.cpt_outcome.specs.Enough.{IsBrought, AreBrought}

-- an order that is posted stands
order-new : (x y : ℕ) (os : List (ℕ × ℕ)) → has_order x y (posted x y os) ≡ true
order-new x y os = order_posted x y x y os ∙ or_left ((x == x) && (y == y)) (has_order x y os) (both (x == x) (y == y) (eq-eqb x x refl) (eq-eqb y y refl))
  where
    both : (c d : Bool) → c ≡ true → d ≡ true → (c && d) ≡ true
    both true d e f = f
    both false d e f = e

-- a token that was brought is so in each sheet that extends
brought-extends : (s u : Sheet) (x : ℕ) → Extends s u → x < length s.tokens → IsBrought s x → IsBrought u x
brought-extends s u x f l k = record {
  consumer = k.consumer;
  atom = k.atom;
  older = k.older;
  need = f.needs k.consumer k.atom (omega (arith, k.older, l)) ∙ k.need;
  sole = f.suppliers k.consumer k.atom x k.need k.sole;
  order = f.orders x k.consumer k.order;
}

-- after a decision each token is brought
applied-brought : (t : TaskShape) (s : Sheet) (d : Decision) → Fits s d → AreBrought s → AreBrought (applied t s d)
applied-brought t s (Join x p y) fits all v low high =
    let e = count_with_list s x p (λ cs. Tok y ∷ []) in
    let l : v < length s.tokens = omega (arith, e) in
    brought-extends s (applied t s (Join x p y)) v (decisions_extend t s (Join x p y) fits) l (all v low l)
applied-brought t s (Before x y) fits all v low high = brought-extends s (applied t s (Before x y)) v (decisions_extend t s (Before x y) fits) high (all v low high)
applied-brought t s (Bring x p a) fits all v low high = go (cases_lt v (length s.tokens))
  where
    go : (v < length s.tokens) ⊎ (length s.tokens ≤ v) → IsBrought (applied t s (Bring x p a)) v
    go (inl l) = brought-extends s (applied t s (Bring x p a)) v (decisions_extend t s (Bring x p a) fits) l (all v low l)
    go (inr m) =
        let e : v ≡ length s.tokens = omega (arith, bring_count t s x p a) in
        subst (λ z. IsBrought (applied t s (Bring x p a)) z) (sym e) (record {
          consumer = x;
          atom = p;
          older = cand_there s x p (Out a) fits;
          need = bring_need t s x p a x p (cand_there s x p (Out a) fits) ∙ listed_need p (Out a) (token_at s x).lists fits;
          sole = brought_is_new t s x p a fits;
          order = subst (λ w. has_order (length s.tokens) x w ≡ true) (sym (bring_posted t s x p a)) (order-new (length s.tokens) x _);
        })

below-brought : (s u : Sheet) → IsBelowSheet s u → IsLive u → AreBrought s → AreBrought u
below-brought s u below live all v low high =
    let e = length_all_zip TokenBelow s.tokens u.tokens below.tokens in
    let l : v < length s.tokens = omega (arith, e) in
    brought-extends s u v (live_extends s u below live) l (all v low l)

-- in a fresh sheet each token is brought
pub fresh-brought : (rules : List ℕ) (t : TaskShape) (tables : Tables) (b : ℕ) (ds : List Decision) (r : Option Sheet) (u : Sheet) → r ≡ Some u → IsFresh rules t tables b ds r → AreBrought u
fresh-brought rules t tables b ds r u e (at_root q c) = closure q e c
  where
    closure : (q : Option Sheet) → q ≡ Some u → ClosesTo rules t tables (root_of t tables b) q → AreBrought u
    closure None e c = absurd (cc)
    closure (Some v) e c = let same : v ≡ u = cc in subst AreBrought same (below-brought (root_of t tables b) v c.end.below c.end.live (λ x low high. absurd (omega arith)))
fresh-brought rules t tables b ds r u e (decided es s d q f fits c) = closure q e c (fresh-brought rules t tables b es (Some s) s refl f)
  where
    closure : (q : Option Sheet) → q ≡ Some u → ClosesTo rules t tables (applied t s d) q → AreBrought s → AreBrought u
    closure None e c all = absurd (cc)
    closure (Some v) e c all = let same : v ≡ u = cc in subst AreBrought same (below-brought (applied t s d) v c.end.below c.end.live (applied-brought t s d fits all))
