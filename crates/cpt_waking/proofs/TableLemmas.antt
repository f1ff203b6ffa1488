-- whom a change can wake
use Rattle.std.proofs.Common.{◌≡◌, ◌≢◌, ℕ, true, refl, sym, ◌∙◌, ap, subst, inl, inr, ◌⊎◌}
use Rattle.cpt_task.specs.declared.span.Span.{Span}
use Rattle.cpt_task.specs.Shape.{TaskShape}
use Rattle.cpt_tables.specs.declared.tables.Tables.{Tables}
use Rattle.cpt_sheet.specs.declared.data.Cand.{Cand}
use Rattle.cpt_sheet.specs.declared.data.Cand.TheVariants.{Tok, Out}
use Rattle.cpt_sheet.specs.declared.data.Kind.TheVariants.{Act}
use Rattle.cpt_sheet.specs.declared.data.Sheet.{Sheet}
use Rattle.cpt_sheet.specs.declared.data.Step.{Step}
use Rattle.cpt_sheet.specs.declared.data.Step.TheVariants.{R1, R2, R3, R4, R5, R6, R7, R8, R9After, R9Ahead, R10, R11After, R11Ahead, R12After, R12Ahead, R13}
use Rattle.cpt_sheet.specs.declared.data.Change.{Change}
use Rattle.cpt_sheet.specs.declared.data.Change.TheVariants.{Raise, Lower, Take, Post}
use Rattle.cpt_sheet.specs.Roles.{Clash}
use Rattle.cpt_sheet.specs.View.{kind_of, cands, has}
use Rattle.cpt_sheet.specs.Formed.{IsFormed}
use Rattle.cpt_calculus.specs.Rules.{IsToken, only, IsStep1, IsStep2, IsStep3, IsStep4, IsListed, IsStep5, IsStep6, IsStep7, IsStep8, IsThreatOf, IsStep10, IsOutsideThreat, IsStep13, Allowed, change_of}
use Rattle.cpt_steps.specs.Landing.{subject_of}
pub use Rattle.cpt_calculus.proofs.Reading.{clash_swap, one_listed, tok_is}
use Rattle.cpt_waking.specs.Touching.{Raises, Lowers, Takes, Posts, Hinders, Shortens, Parts, RaisesListed, RaisesAdder, LosesAdder, Touches}
use Rattle.cpt_waking.specs.Waking.{Feeds, TakenWakes, CanWake, WakesByTable}
use Rattle.cpt_waking.specs.Touching.Hinders.{raised, lowered, turned}
use Rattle.cpt_waking.specs.Waking.RaisedWakes.{ahead, clash, feeds, harms, harmed}
use Rattle.cpt_waking.specs.Waking.RaisedWakesOut.{helps, clash as clash_out, harmed as harmed_out}
use Rattle.cpt_waking.specs.Waking.LoweredWakes.{behind, feeds as lowered_feeds, harms as lowered_harms}
use Rattle.cpt_waking.specs.Waking.LoweredWakesOut.{clash as lowered_clash, loses}

-- the one token of a list is a candidate, and adds the atom
pub only_listed : (u : Sheet) (x p y : ℕ) → IsToken (cands u x p) y → has (Tok (only (cands u x p))) (cands u x p) ≡ true
only_listed u x p y e = subst (λ z. has (Tok z) (cands u x p) ≡ true) (sym (ap (λ l. only l) e)) (one_listed u x p y e)

pub only_one : (u : Sheet) (x p y : ℕ) → IsToken (cands u x p) y → IsToken (cands u x p) (only (cands u x p))
only_one u x p y e = subst (λ z. IsToken (cands u x p) z) (sym (ap (λ l. only l) e)) e

-- which change it is
raise_is : (ch : Change) (c : Cand) → Raises ch c → (v : Span) × (ch ≡ Raise c v)
raise_is (Raise d v) c h = (v, ap (λ z. Raise z v) h)
raise_is (Lower d v) c h = absurd h
raise_is (Take x p d) c h = absurd h
raise_is (Post x y) c h = absurd h

lower_is : (ch : Change) (c : Cand) → Lowers ch c → (v : Span) × (ch ≡ Lower c v)
lower_is (Raise d v) c h = absurd h
lower_is (Lower d v) c h = (v, ap (λ z. Lower z v) h)
lower_is (Take x p d) c h = absurd h
lower_is (Post x y) c h = absurd h

take_is : (ch : Change) (x p : ℕ) → Takes ch x p → (c : Cand) × (ch ≡ Take x p c)
take_is (Raise d v) x p h = absurd h
take_is (Lower d v) x p h = absurd h
take_is (Take y q d) x p h = (d, ap (λ z. Take z q d) h.0 ∙ ap (λ z. Take x z d) h.1)
take_is (Post y z) x p h = absurd h

post_is : (ch : Change) (x y : ℕ) → Posts ch (Tok x) (Tok y) → ch ≡ Post x y
post_is (Raise d v) x y h = absurd h
post_is (Lower d v) x y h = absurd h
post_is (Take z p d) x y h = absurd h
post_is (Post a b) x y h = ap (λ z. Post z b) (tok_is a x h.0) ∙ ap (λ z. Post x z) (tok_is b y h.1)

posts_first : (ch : Change) (a : ℕ) (d : Cand) → Posts ch (Out a) d → ⊥
posts_first (Raise e v) a d h = h
posts_first (Lower e v) a d h = h
posts_first (Take x p e) a d h = h
posts_first (Post x y) a d h = let e = h.0 in cc

posts_second : (ch : Change) (c : Cand) (a : ℕ) → Posts ch c (Out a) → ⊥
posts_second (Raise e v) c a h = h
posts_second (Lower e v) c a h = h
posts_second (Take x p e) c a h = h
posts_second (Post x y) c a h = let e = h.1 in cc

module _ (t : TaskShape) (w : Tables) (u : Sheet) (f : IsFormed t u) (ch : Change) where
  by_raise : (z c : Cand) → Raises ch z → ((v : Span) → CanWake t u (Raise z v) c) → CanWake t u ch c
  by_raise z c h g = let r = raise_is ch z h in subst (λ k. CanWake t u k c) (sym r.1) (g r.0)

  by_lower : (z c : Cand) → Lowers ch z → ((v : Span) → CanWake t u (Lower z v) c) → CanWake t u ch c
  by_lower z c h g = let r = lower_is ch z h in subst (λ k. CanWake t u k c) (sym r.1) (g r.0)

  by_take : (x p : ℕ) (c : Cand) → Takes ch x p → TakenWakes t u x p c → CanWake t u ch c
  by_take x p c h g = let r = take_is ch x p h in subst (λ k. CanWake t u k c) (sym r.1) g

  by_post : (x y : ℕ) (c : Cand) → Posts ch (Tok x) (Tok y) → CanWake t u (Post x y) c → CanWake t u ch c
  by_post x y c h g = subst (λ k. CanWake t u k c) (sym (post_is ch x y h)) g

  raise_feeds : (c : Cand) (x : ℕ) → Feeds u c x → Raises ch c → CanWake t u ch (Tok x)
  raise_feeds (Tok z) x h r = by_raise (Tok z) (Tok x) r (λ v. feeds h)
  raise_feeds (Out o) x h r = by_raise (Out o) (Tok x) r (λ v. h)

  lower_feeds : (c : Cand) (x : ℕ) → Feeds u c x → Lowers ch c → CanWake t u ch (Tok x)
  lower_feeds (Tok z) x h r = by_lower (Tok z) (Tok x) r (λ v. lowered_feeds h)
  lower_feeds (Out o) x h r = by_lower (Out o) (Tok x) r (λ v. h)

  post_feeds : (c d : Cand) (x : ℕ) → Feeds u c x → Posts ch c d → CanWake t u ch (Tok x)
  post_feeds (Tok y) (Tok z) x h r = by_post y z (Tok x) r (inr h)
  post_feeds (Tok y) (Out o) x h r = absurd (posts_second ch (Tok y) o r)
  post_feeds (Out o) d x h r = absurd (posts_first ch o d r)

  -- a pair of candidates of one token
  hinder_feeds : (c d : Cand) (x : ℕ) → Feeds u c x → Feeds u d x → Hinders ch c d → CanWake t u ch (Tok x)
  hinder_feeds c d x h k (raised r) = raise_feeds c x h r
  hinder_feeds c d x h k (lowered r) = lower_feeds d x k r
  hinder_feeds c d x h k (turned r) = post_feeds d c x k r

  fed : (x p : ℕ) (c : Cand) → IsListed u x p c → Feeds u c x
  fed x p c h = (p, h.need, h.listed)

  row1 : (x y : ℕ) (v : Span) → IsStep1 t w u x y v → Raises ch (Tok x) ⊎ Posts ch (Tok x) (Tok y) → CanWake t u ch (Tok y)
  row1 x y v h (inl r) = by_raise (Tok x) (Tok y) r (λ v'. ahead h.order)
  row1 x y v h (inr r) = by_post x y (Tok y) r (inl refl)

  row2 : (x y : ℕ) (v : Span) → IsStep2 t w u x y v → Lowers ch (Tok y) → CanWake t u ch (Tok x)
  row2 x y v h r = by_lower (Tok y) (Tok x) r (λ v'. behind h.order)

  row3 : (x y : ℕ) → IsStep3 t w u x y → Raises ch (Tok y) → CanWake t u ch (Tok x)
  row3 x y h r = by_raise (Tok y) (Tok x) r (λ v'. clash (clash_swap t (kind_of u (Tok x)) (kind_of u (Tok y)) h.clash))

  row4 : (x p : ℕ) (v : Span) → IsStep4 t w u x p v → ((c : Cand) × RaisesListed u ch x p c) → CanWake t u ch (Tok x)
  row4 x p v h r = raise_feeds r.0 x (p, h.need, r.1.listed) r.1.raises

  row5 : (x p : ℕ) (c : Cand) → IsStep5 t w u x p c → Raises ch c → CanWake t u ch (Tok x)
  row5 x p c h r = raise_feeds c x (fed x p c h.listed) r

  row6 : (x p : ℕ) → IsStep6 u x p → Takes ch x p → CanWake t u ch (Tok (only (cands u x p)))
  row6 x p h r = by_take x p (Tok (only (cands u x p))) r (record { one = only_one u x p h.one.0 h.one.1; whom = inl refl })

  row7 : (x p a : ℕ) → IsStep7 u x p a → Shortens ch (Out a) → CanWake t u ch (Tok x)
  row7 x p a h (inl r) = raise_feeds (Out a) x (fed x p (Out a) h.listed) r
  row7 x p a h (inr r) = lower_feeds (Out a) x (fed x p (Out a) h.listed) r

  row8 : (x p : ℕ) (c : Cand) (d : ℕ) → IsStep8 t w u x p c d → Hinders ch (Tok d) c ⊎ (Lowers ch (Tok d) ⊎ Posts ch (Tok d) (Tok x)) → CanWake t u ch (Tok x)
  row8 x p c d h (inl (raised r)) = by_raise (Tok d) (Tok x) r (λ v. harms (p, h.listed.need, h.deletes))
  row8 x p c d h (inl (lowered r)) = lower_feeds c x (fed x p c h.listed) r
  row8 x p c d h (inl (turned r)) = post_feeds c (Tok d) x (fed x p c h.listed) r
  row8 x p c d h (inr (inl r)) = by_lower (Tok d) (Tok x) r (λ v. lowered_harms (p, h.listed.need, h.deletes))
  row8 x p c d h (inr (inr r)) = by_post d x (Tok x) r (inl refl)

  row9_after : (x p d y : ℕ) → IsThreatOf t u x p d y → Hinders ch (Tok d) (Tok (only (cands u x p))) → CanWake t u ch (Tok x)
  row9_after x p d y h (raised r) = by_raise (Tok d) (Tok x) r (λ v. harms (p, h.need, h.deletes))
  row9_after x p d y h (lowered r) = lower_feeds (Tok (only (cands u x p))) x (p, h.need, only_listed u x p y h.one) r
  row9_after x p d y h (turned r) = post_feeds (Tok (only (cands u x p))) (Tok d) x (p, h.need, only_listed u x p y h.one) r

  row9_ahead : (x p d y : ℕ) → IsThreatOf t u x p d y → Takes ch x p ⊎ Raises ch (Tok x) → CanWake t u ch (Tok d)
  row9_ahead x p d y h (inl r) = by_take x p (Tok d) r (record { one = only_one u x p y h.one; whom = inr h.deletes })
  row9_ahead x p d y h (inr r) = by_raise (Tok x) (Tok d) r (λ v. harmed (p, h.need, h.deletes))

  row10 : (a p : ℕ) (v : Span) → IsStep10 t w u a p v → ((z : ℕ) × RaisesAdder t u ch p z) ⊎ ((o : ℕ) × LosesAdder t u ch p o) → CanWake t u ch (Out a)
  row10 a p v h (inl r) = by_raise (Tok r.0) (Out a) r.1.raises (λ v'. helps (p, h.need, r.1.adds))
  row10 a p v h (inr r) =
      elim r.1.loses [
        | inl k ↦ by_raise (Out r.0) (Out a) k (λ v'. (p, h.need, r.1.adds))
        | inr k ↦ by_lower (Out r.0) (Out a) k.0 (λ v'. (k.1, (p, h.need, r.1.adds)))
      ]

  row11 : (x p a y : ℕ) → IsOutsideThreat t u x p a y → Takes ch x p ⊎ (Raises ch (Tok x) ⊎ Lowers ch (Tok (only (cands u x p)))) → CanWake t u ch (Out a)
  row11 x p a y h (inl r) = by_take x p (Out a) r (record { one = only_one u x p y h.one; whom = inr h.deletes })
  row11 x p a y h (inr (inl r)) = by_raise (Tok x) (Out a) r (λ v. harmed_out (p, h.need, h.deletes))
  row11 x p a y h (inr (inr r)) =
      by_lower (Tok (only (cands u x p))) (Out a) r (λ v. loses (p, (f.supply x p (Tok (only (cands u x p))) (only_listed u x p y h.one)).2, h.deletes))

  row12 : (x a : ℕ) → Clash t (kind_of u (Tok x)) (Act a) → Shortens ch (Tok x) → CanWake t u ch (Out a)
  row12 x a h (inl r) = by_raise (Tok x) (Out a) r (λ v. clash_out h)
  row12 x a h (inr r) = by_lower (Tok x) (Out a) r (λ v. lowered_clash h)

  row13 : (x p : ℕ) (c : Cand) (q : ℕ) → IsStep13 t w u x p c q → ((d : Cand) × Parts t u ch x q c d) → CanWake t u ch (Tok x)
  row13 x p c q h r =
      elim r.1.hinders [
        | inl k ↦ hinder_feeds c r.0 x (fed x p c h.listed) (q, h.second.need, r.1.listed) k
        | inr k ↦ hinder_feeds r.0 c x (q, h.second.need, r.1.listed) (fed x p c h.listed) k
      ]

  rows : (step : Step) → Allowed t w u step → subject_of ch ≢ subject_of (change_of u step) → Touches t u ch step → CanWake t u ch (subject_of (change_of u step))
  rows (R1 x y v) h n r = row1 x y v h r
  rows (R2 x y v) h n r = row2 x y v h r
  rows (R3 x y) h n r = row3 x y h r
  rows (R4 x p v) h n r = row4 x p v h r
  rows (R5 x p c) h n r = row5 x p c h r
  rows (R6 x p) h n r = row6 x p h r
  rows (R7 x p a) h n r = row7 x p a h r
  rows (R8 x p c d) h n r = row8 x p c d h r
  rows (R9After x p d) h n r = row9_after x p d h.0 h.1 r
  rows (R9Ahead x p d) h n r = row9_ahead x p d h.0 h.1 r
  rows (R10 a p v) h n r = row10 a p v h r
  rows (R11After x p a v) h n r = row11 x p a h.0 h.1 r
  rows (R11Ahead x p a v) h n r = row11 x p a h.0 h.1 r
  rows (R12After x a v) h n r = row12 x a h.clash r
  rows (R12Ahead x a v) h n r = row12 x a h.clash r
  rows (R13 x p c q) h n r = row13 x p c q h r

pub wakes_by_table : WakesByTable
wakes_by_table rules t w u ch c step f n h =
    subst (λ z. CanWake t u ch z) h.lands (rows t w u f ch step h.legal.allowed (λ e. n (e ∙ h.lands)) h.touched)
