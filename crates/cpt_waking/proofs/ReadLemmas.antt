-- what is read after a change is what was read before, but for what the change touches
use Rattle.std.proofs.Common.{◌≡◌, ℕ, ◌||◌, ◌&&◌, ◌==◌, refl, sym, ◌∙◌, ap, inl, inr, ◌⊎◌}
use Rattle.std.proofs.lemmas.Bool.{cases_Bool, and_parts, eqb-true}
use Rattle.cpt_sheet.specs.declared.data.Cand.{Cand}
use Rattle.cpt_sheet.specs.declared.data.Cand.TheVariants.{Tok, Out}
use Rattle.cpt_sheet.specs.declared.data.Interval.{Interval}
use Rattle.cpt_sheet.specs.declared.data.Sheet.{Sheet}
use Rattle.cpt_sheet.specs.declared.data.Change.{Change}
use Rattle.cpt_sheet.specs.declared.data.Change.TheVariants.{Raise, Lower, Take, Post}
use Rattle.cpt_sheet.specs.View.{lo, hi, span_of, cands, before, list_for, has_order}
use Rattle.cpt_sheet.specs.Gaps.{ordered}
use Rattle.cpt_sheet.specs.Edits.{changed, without, moment_or}
use Rattle.cpt_calculus.proofs.Below.{order_posted}
use Rattle.cpt_calculus.proofs.Views.{span_with, lists_with_span, orders_with_span, span_with_list, cands_with_list}
use Rattle.cpt_waking.specs.Touching.{Raises, Lowers, Takes, Posts}

module _ (s : Sheet) where
  pub lo_kept : (ch : Change) (d : Cand) → Raises ch d ⊎ (lo (changed s ch) d ≡ lo s d)
  lo_kept (Raise c v) d =
      elim (span_with s c d (record (span_of s c) { lo = v })) [
        | inl e ↦ inr (ap (λ (i : Interval). i.lo) e)
        | inr e ↦ inl (sym e.0)
      ]
  lo_kept (Lower c v) d =
      elim (span_with s c d (record (span_of s c) { hi = moment_or v (hi s c) })) [
        | inl e ↦ inr (ap (λ (i : Interval). i.lo) e)
        | inr e ↦ inr (ap (λ (i : Interval). i.lo) e.1 ∙ ap (λ z. lo s z) (sym e.0))
      ]
  lo_kept (Take x p c) d = inr (ap (λ (i : Interval). i.lo) (span_with_list s x p (without c) d))
  lo_kept (Post x y) (Tok z) = inr refl
  lo_kept (Post x y) (Out z) = inr refl

  pub hi_kept : (ch : Change) (d : Cand) → Lowers ch d ⊎ (hi (changed s ch) d ≡ hi s d)
  hi_kept (Raise c v) d =
      elim (span_with s c d (record (span_of s c) { lo = v })) [
        | inl e ↦ inr (ap (λ (i : Interval). i.hi) e)
        | inr e ↦ inr (ap (λ (i : Interval). i.hi) e.1 ∙ ap (λ z. hi s z) (sym e.0))
      ]
  hi_kept (Lower c v) d =
      elim (span_with s c d (record (span_of s c) { hi = moment_or v (hi s c) })) [
        | inl e ↦ inr (ap (λ (i : Interval). i.hi) e)
        | inr e ↦ inl (sym e.0)
      ]
  hi_kept (Take x p c) d = inr (ap (λ (i : Interval). i.hi) (span_with_list s x p (without c) d))
  hi_kept (Post x y) (Tok z) = inr refl
  hi_kept (Post x y) (Out z) = inr refl

  pub list_kept : (ch : Change) (y q : ℕ) → Takes ch y q ⊎ (cands (changed s ch) y q ≡ cands s y q)
  list_kept (Raise c v) y q = inr (ap (λ l. list_for q l) (lists_with_span s c (record (span_of s c) { lo = v }) y))
  list_kept (Lower c v) y q = inr (ap (λ l. list_for q l) (lists_with_span s c (record (span_of s c) { hi = moment_or v (hi s c) }) y))
  list_kept (Take x p c) y q =
      elim (cands_with_list s x p (without c) y q) [
        | inl e ↦ inr e
        | inr e ↦ inl (sym e.0, sym e.1)
      ]
  list_kept (Post x y) z q = inr refl

  before_kept : (ch : Change) (a b : ℕ) → Posts ch (Tok a) (Tok b) ⊎ (before (changed s ch) a b ≡ before s a b)
  before_kept (Raise c v) a b = inr (ap (λ os. has_order a b os) (orders_with_span s c (record (span_of s c) { lo = v })))
  before_kept (Lower c v) a b = inr (ap (λ os. has_order a b os) (orders_with_span s c (record (span_of s c) { hi = moment_or v (hi s c) })))
  before_kept (Take x p c) a b = inr refl
  before_kept (Post x y) a b =
      elim (cases_Bool ((x == a) && (y == b))) [
        | inl e ↦ (let k = and_parts (x == a) (y == b) e in inl (ap Tok (eqb-true x a k.0), ap Tok (eqb-true y b k.1)))
        | inr e ↦ inr (order_posted x y a b s.orders ∙ ap (λ t. t || before s a b) e)
      ]

  pub ordered_kept : (ch : Change) (c d : Cand) → Posts ch c d ⊎ (ordered (changed s ch) c d ≡ ordered s c d)
  ordered_kept ch (Tok x) (Tok y) = before_kept ch x y
  ordered_kept ch (Tok x) (Out y) = inr refl
  ordered_kept ch (Out x) d = inr refl
