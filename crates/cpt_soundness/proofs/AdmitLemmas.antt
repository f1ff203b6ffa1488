-- a safe change keeps every plan that a sheet admits
use Rattle.std.proofs.Common.{◌≡◌, ℕ, ◌≤◌, ◌<◌, List, true, length, refl, sym, ◌∙◌, ap, subst, inl, inr}
use Rattle.cpt_task.specs.declared.plan.Occ.{Occ}
use Rattle.cpt_task.specs.declared.span.Span.{Span}
use Rattle.cpt_task.specs.declared.span.Span.TheVariants.{At, Never}
use Rattle.cpt_task.specs.Shape.{TaskShape}
use Rattle.cpt_task.specs.Timeline.{makespan}
use Rattle.cpt_tables.specs.Spans.{◌≤ˢ◌}
use Rattle.cpt_sheet.specs.declared.data.Cand.{Cand}
use Rattle.cpt_sheet.specs.declared.data.Cand.TheVariants.{Tok, Out}
use Rattle.cpt_sheet.specs.declared.data.Interval.{Interval}
use Rattle.cpt_sheet.specs.declared.data.Need.{Need}
use Rattle.cpt_sheet.specs.declared.data.Sheet.{Sheet}
use Rattle.cpt_sheet.specs.declared.data.Change.{Change}
use Rattle.cpt_sheet.specs.declared.data.Change.TheVariants.{Raise, Lower, Take, Post}
use Rattle.cpt_sheet.specs.View.{lo, hi, span_of, kind_of, cands, list_for, has_atom, has_need, before, has, has_order}
use Rattle.cpt_sheet.specs.Edits.{changed, with_span, with_list, with_posted, without, moment_or}
use Rattle.cpt_calculus.specs.Plans.{Who, begins, ends, who, who_of_kind, StandsFor, Supplies, Admits}
use Rattle.cpt_soundness.specs.Safety.{Safe}
use Rattle.cpt_calculus.proofs.Below.{posted_cases}
use Rattle.cpt_calculus.proofs.Parts.{has_without}
use Rattle.cpt_calculus.proofs.Views.{span_with, lists_with_span, kind_with_span, tokens_with_span, orders_with_span, bound_with_span, span_with_list, kind_with_list, count_with_list, need_with_list, cands_with_list}

-- the two sheets have the same bound, the same tokens and the same needs
pub record IsAlike (s s' : Sheet) : Type 0 where
  pub bound : s'.bound ≡ s.bound
  pub count : length s'.tokens ≡ length s.tokens
  pub kinds : (x : ℕ) → kind_of s' (Tok x) ≡ kind_of s (Tok x)
  pub needs : (x p : ℕ) → has_need s' x p ≡ has_need s x p

module _ (t : TaskShape) (plan : List Occ) (f : ℕ → ℕ) (s s' : Sheet) (alike : IsAlike s s') where
  pub same_who : (x : ℕ) → who f s' x ≡ who f s x
  same_who x = ap (λ k. who_of_kind f x k) (alike.kinds x)

  pub stands_back : (c : Cand) (w : Who) → StandsFor f plan s' c w → StandsFor f plan s c w
  stands_back (Tok x) w h = (subst (λ n. x < n) alike.count h.0, sym (same_who x) ∙ h.1)
  stands_back (Out a) w h = (
    h.0,
    h.1,
    record {
      within = h.2.within;
      action = h.2.action;
      free = λ x l e. h.2.free x (subst (λ n. x < n) (sym alike.count) l) (same_who x ∙ e);
    },
  )

  -- what is left to show of an edited sheet
  pub admit_from : Admits t plan f s →
      ((c : Cand) (w : Who) → StandsFor f plan s c w → (lo s' c ≤ˢ At (begins t plan w)) × (begins t plan w ≤ hi s' c)) →
      ((x y : ℕ) → before s' x y ≡ true → ends t plan (who f s x) ≤ begins t plan (who f s y)) →
      ((x p : ℕ) → has_need s x p ≡ true → (c : Cand) (w : Who) → StandsFor f plan s c w → Supplies t plan p (begins t plan (who f s x)) w → has c (cands s' x p) ≡ true) →
      Admits t plan f s'
  admit_from h spans orders supplied = record {
    placed = λ x a l e. h.placed x a (subst (λ n. x < n) alike.count l) (sym (alike.kinds x) ∙ e);
    apart = λ x y l m e. h.apart x y (subst (λ n. x < n) alike.count l) (subst (λ n. y < n) alike.count m) (sym (same_who x) ∙ (e ∙ same_who y));
    bound = subst (λ n. makespan t plan ≤ n) (sym alike.bound) h.bound;
    spans = λ c w k. spans c w (stands_back c w k);
    orders = λ x y e. subst (λ v. ends t plan v ≤ begins t plan (who f s' y)) (sym (same_who x)) (subst (λ v. ends t plan (who f s x) ≤ begins t plan v) (sym (same_who y)) (orders x y e));
    supplied = λ x p n c w k m. supplied x p (sym (alike.needs x p) ∙ n) c w (stands_back c w k) (subst (λ v. Supplies t plan p (begins t plan v) w) (same_who x) m);
  }

pub alike_span : (s : Sheet) (c : Cand) (i : Interval) → IsAlike s (with_span s c i)
alike_span s c i = record {
  bound = bound_with_span s c i;
  count = tokens_with_span s c i;
  kinds = λ x. kind_with_span s c i x;
  needs = λ x p. ap (λ (ns : List Need). has_atom p ns) (lists_with_span s c i x);
}

pub alike_list : (s : Sheet) (x p : ℕ) (g : List Cand → List Cand) → IsAlike s (with_list s x p g)
alike_list s x p g = record {
  bound = refl;
  count = count_with_list s x p g;
  kinds = λ y. kind_with_list s x p g y;
  needs = λ y q. need_with_list s x p g y q;
}

pub alike_posted : (s : Sheet) (x y : ℕ) → IsAlike s (with_posted s x y)
alike_posted s x y = record { bound = refl; count = refl; kinds = λ z. refl; needs = λ z p. refl }

within_moment : (m h : ℕ) (v : Span) → At m ≤ˢ v → m ≤ h → m ≤ moment_or v h
within_moment m h (At v) k l = k
within_moment m h Never k l = l

module _ (t : TaskShape) (plan : List Occ) (f : ℕ → ℕ) where
  admit_span : (s : Sheet) (c : Cand) (i : Interval) → Admits t plan f s →
      ((w : Who) → StandsFor f plan s c w → (i.lo ≤ˢ At (begins t plan w)) × (begins t plan w ≤ i.hi)) → Admits t plan f (with_span s c i)
  admit_span s c i h r = admit_from t plan f s (with_span s c i) (alike_span s c i) h
      (λ d w k. elim (span_with s c d i) [
        | inl e ↦ subst (λ (z : Interval). (z.lo ≤ˢ At (begins t plan w)) × (begins t plan w ≤ z.hi)) (sym e) (h.spans d w k)
        | inr e ↦ subst (λ (z : Interval). (z.lo ≤ˢ At (begins t plan w)) × (begins t plan w ≤ z.hi)) (sym e.1) (r w (subst (λ z. StandsFor f plan s z w) e.0 k))
      ])
      (λ x y e. h.orders x y (subst (λ os. has_order x y os ≡ true) (orders_with_span s c i) e))
      (λ x p n d w k m. subst (λ ns. has d (list_for p ns) ≡ true) (sym (lists_with_span s c i x)) (h.supplied x p n d w k m))

  -- an edit of a list that still names who supplies
  pub admit_list : (s : Sheet) (x p : ℕ) (g : List Cand → List Cand) → Admits t plan f s →
      ((d : Cand) (w : Who) → StandsFor f plan s d w → Supplies t plan p (begins t plan (who f s x)) w → has d (cands s x p) ≡ true → has d (g (cands s x p)) ≡ true) →
      Admits t plan f (with_list s x p g)
  admit_list s x p g h r = admit_from t plan f s (with_list s x p g) (alike_list s x p g) h
      (λ d w k. subst (λ (z : Interval). (z.lo ≤ˢ At (begins t plan w)) × (begins t plan w ≤ z.hi)) (sym (span_with_list s x p g d)) (h.spans d w k))
      h.orders
      (λ y q n d w k sup. elim (cands_with_list s x p g y q) [
        | inl e ↦ subst (λ l. has d l ≡ true) (sym e) (h.supplied y q n d w k sup)
        | inr e ↦ subst (λ l. has d l ≡ true) (sym e.2)
            (subst (λ z. has d (g (cands s z q)) ≡ true) (sym e.0) (subst (λ z. has d (g (cands s x z)) ≡ true) (sym e.1)
            (r d w k (subst (λ z. Supplies t plan p (begins t plan (who f s z)) w) e.0 (subst (λ z. Supplies t plan z (begins t plan (who f s y)) w) e.1 sup))
            (subst (λ z. has d (cands s z p) ≡ true) e.0 (subst (λ z. has d (cands s y z) ≡ true) e.1 (h.supplied y q n d w k sup))))))
      ])

  pub admit_posted : (s : Sheet) (x y : ℕ) → Admits t plan f s → ends t plan (who f s x) ≤ begins t plan (who f s y) → Admits t plan f (with_posted s x y)
  admit_posted s x y h safe = admit_from t plan f s (with_posted s x y) (alike_posted s x y) h h.spans
      (λ u v e. elim (posted_cases x y u v s.orders e) [
        | inl k ↦ subst (λ z. ends t plan (who f s z) ≤ begins t plan (who f s v)) k.0 (subst (λ z. ends t plan (who f s x) ≤ begins t plan (who f s z)) k.1 safe)
        | inr k ↦ h.orders u v k
      ])
      h.supplied

  pub admit_change : (s : Sheet) (ch : Change) → Admits t plan f s → Safe t plan f s ch → Admits t plan f (changed s ch)
  admit_change s (Raise c v) h safe = admit_span s c (record (span_of s c) { lo = v }) h (λ w k. (safe w k, (h.spans c w k).1))
  admit_change s (Lower c v) h safe = admit_span s c (record (span_of s c) { hi = moment_or v (hi s c) }) h (λ w k. ((h.spans c w k).0, within_moment (begins t plan w) (hi s c) v (safe w k) (h.spans c w k).1))
  admit_change s (Take x p c) h safe = admit_list s x p (without c) h (λ d w k sup m. has_without c d (cands s x p) m (λ e. safe w (subst (λ z. StandsFor f plan s z w) e k) sup))
  admit_change s (Post x y) h safe = admit_posted s x y h safe
