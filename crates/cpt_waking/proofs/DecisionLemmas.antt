-- whom a decision can wake
use Rattle.std.proofs.Common.{◌≡◌, ◌≢◌, ℕ, List, [], ◌∷◌, Bool, true, false, ◌&&◌, ◌==◌, if◌then◌else◌, refl, sym, ◌∙◌, ap, subst, inl, inr, ◌⊎◌}
use Rattle.std.specs.List.{AllZip}
use Rattle.std.proofs.lemmas.Bool.{or_cases, or_right}
use Rattle.cpt_task.specs.Shape.{TaskShape}
use Rattle.cpt_tables.specs.declared.tables.Tables.{Tables}
use Rattle.cpt_sheet.specs.declared.data.Cand.{Cand}
use Rattle.cpt_sheet.specs.declared.data.Cand.TheVariants.{Tok, Out}
use Rattle.cpt_sheet.specs.declared.data.Interval.{Interval}
use Rattle.cpt_sheet.specs.declared.data.Need.{Need}
use Rattle.cpt_sheet.specs.declared.data.Sheet.{Sheet}
use Rattle.cpt_sheet.specs.declared.data.Decision.TheVariants.{Join, Before}
use Rattle.cpt_sheet.specs.declared.data.Change.{Change}
use Rattle.cpt_sheet.specs.declared.data.Change.TheVariants.{Take, Post}
use Rattle.cpt_sheet.specs.Below.{Part, NeedBelow, TokenBelow, IntervalBelow, IsBelowSheet}
use Rattle.cpt_sheet.specs.Below.Part.{done, skip, keep}
use Rattle.cpt_sheet.specs.View.{lo, hi, cands, has, same, list_for, token_at, no_token, before}
use Rattle.cpt_sheet.specs.Gaps.{ordered}
use Rattle.cpt_sheet.specs.Edits.{revised, changed}
use Rattle.cpt_sheet.specs.Live.{IsLive}
use Rattle.cpt_sheet.specs.Formed.{IsFormed}
use Rattle.cpt_calculus.specs.Decisions.{joined}
use Rattle.cpt_calculus.proofs.Parts.{same_is}
use Rattle.cpt_calculus.proofs.Zips.{zip_refl, zip_set_right}
use Rattle.cpt_calculus.proofs.Below.{interval_refl, need_refl, token_refl, list_cons, order_posted}
use Rattle.cpt_calculus.proofs.Views.{span_with_list, cands_with_list}
use Rattle.cpt_calculus.proofs.ApplyFormed.{applied_formed}
use Rattle.cpt_steps.specs.Landing.{subject_of, IsClosedAt}
use Rattle.cpt_waking.specs.Touching.{Raises, Lowers, Takes, Posts}
use Rattle.cpt_waking.specs.Waking.{CanWake, DecisionWakes}
use Rattle.cpt_waking.proofs.ReadLemmas.{lo_kept, hi_kept, list_kept, ordered_kept}
use Rattle.cpt_waking.proofs.GainLemmas.{gained}
use Rattle.cpt_waking.proofs.TableLemmas.{wakes_by_table}

-- a candidate alone is a part of a list that has it
Part-none : (cs : List Cand) → Part [] cs
Part-none [] = done
Part-none (c ∷ cs) = skip (Part-none cs)

Part-alone : (c : Cand) (cs : List Cand) → has c cs ≡ true → Part (c ∷ []) cs
Part-alone c [] h = cc
Part-alone c (d ∷ cs) h =
    elim (or_cases (same d c) (has c cs) h) [
      | inl e ↦ subst (λ z. Part (c ∷ []) (z ∷ cs)) (sym (same_is d c e)) (keep (Part-none cs))
      | inr e ↦ skip (Part-alone c cs e)
    ]

needs_alone : (p : ℕ) (c : Cand) (ns : List Need) → has c (list_for p ns) ≡ true → AllZip NeedBelow ns (revised p (λ cs. c ∷ []) ns)
needs_alone p c [] h = tt
needs_alone p c (n ∷ ns) h = go (n.atom == p) (subst (λ (l : List Cand). has c l ≡ true) (list_cons p n ns) h) (λ k. needs_alone p c ns k)
  where
    go : (b : Bool) → has c (if b then n.cands else list_for p ns) ≡ true → (has c (list_for p ns) ≡ true → AllZip NeedBelow ns (revised p (λ cs. c ∷ []) ns)) →
        AllZip NeedBelow (n ∷ ns) (if b then (record n { cands = c ∷ [] } ∷ ns) else (n ∷ revised p (λ cs. c ∷ []) ns))
    go true k ih = ((refl, Part-alone c n.cands k), zip_refl NeedBelow need_refl ns)
    go false k ih = (need_refl n, ih k)

join_below : (s : Sheet) (x p y : ℕ) → has (Tok y) (cands s x p) ≡ true → IsBelowSheet s (joined s x p y)
join_below s x p y h = record {
  bound = refl;
  tokens = zip_set_right TokenBelow no_token (record (token_at s x) { lists = revised p (λ cs. Tok y ∷ []) (token_at s x).lists }) s.tokens s.tokens x (zip_refl TokenBelow token_refl s.tokens)
      (refl, interval_refl (token_at s x).span, needs_alone p (Tok y) (token_at s x).lists h);
  outs = zip_refl IntervalBelow interval_refl s.outs;
  orders = λ u v e. e;
}

post_below : (s : Sheet) (x y : ℕ) → IsBelowSheet s (changed s (Post x y))
post_below s x y = record {
  bound = refl;
  tokens = zip_refl TokenBelow token_refl s.tokens;
  outs = zip_refl IntervalBelow interval_refl s.outs;
  orders = λ u v e. order_posted x y u v s.orders ∙ or_right ((x == u) && (y == v)) (before s u v) e;
}

module _ (rules : List ℕ) (t : TaskShape) (w : Tables) (s u : Sheet) (ch : Change) (c : Cand) (below : IsBelowSheet s u)
    (lo_same : (d : Cand) → Raises ch d ⊎ (lo u d ≡ lo s d))
    (hi_same : (d : Cand) → Lowers ch d ⊎ (hi u d ≡ hi s d))
    (list_same : (x p : ℕ) → Takes ch x p ⊎ (cands u x p ≡ cands s x p))
    (ordered_same : (d e : Cand) → Posts ch d e ⊎ (ordered u d e ≡ ordered s d e)) where
  stays : IsFormed t u → IsLive s → subject_of ch ≢ c → (CanWake t u ch c → ⊥) → IsClosedAt rules t w s c → IsClosedAt rules t w u c
  stays f live n none closed step o legal lands =
      elim (gained t w s u ch below lo_same hi_same list_same ordered_same step live legal (λ k. n (k ∙ lands))) [
        | inl r ↦ none (wakes_by_table rules t w u ch c step f n (record { rule = o; legal = legal; lands = lands; touched = r }))
        | inr k ↦ closed step o k.0 (ap (λ z. subject_of z) (sym k.1) ∙ lands)
      ]

pub decision_wakes : DecisionWakes
decision_wakes rules t w s (Join x p y) (Take z q d) c f live fits like n none closed =
    stays rules t w s (joined s x p y) (Take z q d) c (join_below s x p y fits)
    (λ e. inr (ap (λ (i : Interval). i.lo) (span_with_list s x p (λ cs. Tok y ∷ []) e)))
    (λ e. inr (ap (λ (i : Interval). i.hi) (span_with_list s x p (λ cs. Tok y ∷ []) e)))
    (λ a r. elim (cands_with_list s x p (λ cs. Tok y ∷ []) a r) [ inl e ↦ inr e | inr e ↦ inl (like.0 ∙ sym e.0, like.1 ∙ sym e.1) ])
    (λ e g. inr (same_orders e g))
    (applied_formed t s (Join x p y) fits f) live n none closed
  where
    same_orders : (e g : Cand) → ordered (joined s x p y) e g ≡ ordered s e g
    same_orders (Tok a) (Tok r) = refl
    same_orders (Tok a) (Out r) = refl
    same_orders (Out a) g = refl
decision_wakes rules t w s (Before x y) (Post z v) c f live fits like n none closed =
    let e : Post z v ≡ Post x y = ap (λ i. Post i v) like.0 ∙ ap (λ i. Post x i) like.1 in
    stays rules t w s (changed s (Post x y)) (Post x y) c (post_below s x y) (lo_kept s (Post x y)) (hi_kept s (Post x y)) (list_kept s (Post x y)) (ordered_kept s (Post x y))
    (applied_formed t s (Before x y) fits f) live (subst (λ (k : Change). subject_of k ≢ c) e n) (λ k. none (subst (λ (i : Change). CanWake t (changed s (Post x y)) i c) (sym e) k)) closed
decision_wakes rules t w s d ch c f live fits like n none closed = absurd like
