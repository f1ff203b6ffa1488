-- each rule's change is safe
use Rattle.std.proofs.Common.{◌≡◌, ◌≢◌, ℕ, ◌≤◌, ◌<◌, List, true, false, length, Contains, refl, sym, subst, arith, inl, inr, ◌⊎◌}
use Rattle.std.proofs.lemmas.Option.{unwrap_or-slice_get}
use Rattle.cpt_task.specs.declared.plan.Occ.{Occ}
use Rattle.cpt_task.specs.declared.span.Span.{Span}
use Rattle.cpt_task.specs.declared.span.Span.TheVariants.{At}
use Rattle.cpt_task.specs.Shape.{TaskShape}
use Rattle.cpt_task.specs.Timeline.{occurrence_at, IsValid}
use Rattle.cpt_tables.specs.declared.tables.Tables.{Tables}
use Rattle.cpt_tables.specs.Spans.{◌≤ˢ◌}
use Rattle.cpt_tables.proofs.SpanLemmas.{le_trans, lt_not_le}
use Rattle.cpt_sheet.specs.declared.data.Cand.{Cand}
use Rattle.cpt_sheet.specs.declared.data.Cand.TheVariants.{Tok, Out}
use Rattle.cpt_sheet.specs.declared.data.Kind.TheVariants.{Act}
use Rattle.cpt_sheet.specs.declared.data.Token.{Token}
use Rattle.cpt_sheet.specs.declared.data.Sheet.{Sheet}
use Rattle.cpt_sheet.specs.declared.data.Step.{Step}
use Rattle.cpt_sheet.specs.declared.data.Step.TheVariants.{R1, R2, R3, R4, R5, R6, R7, R8, R9After, R9Ahead, R10, R11After, R11Ahead, R12After, R12Ahead, R13}
use Rattle.cpt_sheet.specs.declared.data.Change.TheVariants.{Raise, Lower, Take, Post}
use Rattle.cpt_sheet.specs.Roles.{needs_of, Adds, Deletes, Clash}
use Rattle.cpt_sheet.specs.View.{no_token, lo, hi, kind_of, cands, has_need, same}
use Rattle.cpt_sheet.specs.Formed.{IsFormed}
use Rattle.cpt_sheet.specs.Gaps.{arrival, deadline, CanPrecede, IsImpossibleBeside, Exclude}
use Rattle.cpt_calculus.specs.Rules.{only, Allowed, change_of, IsStep1, IsStep2, IsStep3, IsStep4, IsStep5, IsStep6, IsStep7, IsStep8, IsThreatOf, IsStep9After, IsStep9Ahead, IsStep10, IsBeforeToken, IsOutsideThreat, IsStep11After, IsStep11Ahead, IsStep12After, IsStep12Ahead, IsStep13}
use Rattle.cpt_calculus.specs.Plans.{Who, begins, ends, who, StandsFor, Supplies, Admits}
use Rattle.cpt_soundness.specs.Acting.{IsAdmissible, kind_who, IsAhead}
use Rattle.cpt_soundness.specs.Safety.{Safe}
use Rattle.cpt_soundness.proofs.PlanLemmas.{held, not_both, supplies_ahead, supplies_within, supplies_adds, supplier}
use Rattle.cpt_soundness.proofs.ActingLemmas as acting
use Rattle.cpt_soundness.proofs.ActingLemmas.{all_has, deleter_there, clash_there, clash_there_last}

module _ (t : TaskShape) (b : Tables) (plan : List Occ) (ok : IsAdmissible t b) (valid : IsValid t plan) (f : ℕ → ℕ) (s : Sheet) (formed : IsFormed t s) (h : Admits t plan f s) where
  -- for whom a candidate stands
  abbrev Stands : Cand → Who → Type 0
  Stands c w = StandsFor f plan s c w

  in_time : (c d : Cand) (v w : Who) → Stands c v → Stands d w → IsAhead t plan v w → arrival t b s c d ≤ˢ At (begins t plan w)
  in_time c d v w kc kd a = acting.in_time t b plan ok valid f s formed h c d v w kc kd a

  by_deadline : (c d : Cand) (v w : Who) → Stands c v → Stands d w → IsAhead t plan v w → At (begins t plan v) ≤ˢ deadline t b s c d
  by_deadline c d v w kc kd a = acting.by_deadline t b plan ok valid f s formed h c d v w kc kd a

  can : (c d : Cand) (v w : Who) → Stands c v → Stands d w → IsAhead t plan v w → CanPrecede t b s c d
  can c d v w kc kd a = acting.can_precede t b plan ok valid f s formed h c d v w kc kd a

  there : (x p : ℕ) → has_need s x p ≡ true → Stands (Tok x) (who f s x)
  there x p n = (acting.need_there t b plan ok valid f s formed h x p n, refl)

  differ : (c d : Cand) (v w : Who) → same c d ≡ false → Stands c v → Stands d w → v ≢ w
  differ c d v w ne kc kd = acting.stands_apart t b plan ok valid f s formed h c d v w ne kc kd

  tokens_differ : (x y : ℕ) → x ≢ y → Stands (Tok x) (who f s x) → Stands (Tok y) (who f s y) → who f s x ≢ who f s y
  tokens_differ x y ne kx ky e = ne (h.apart x y kx.0 ky.0 e)

  away : (x p : ℕ) (w : Who) → has_need s x p ≡ true → Supplies t plan p (begins t plan (who f s x)) w → (e : Cand) (v : Who) → Stands e v → Deletes t (kind_of s e) p →
      v ≢ w → v ≢ who f s x → IsAhead t plan v w ⊎ IsAhead t plan (who f s x) v
  away x p w n sup e v ke del nw nx = acting.keep_away t b plan ok valid f s formed h x p w n sup e v ke del nw nx

  clashing : (c d : Cand) (v w : Who) → Stands c v → Stands d w → v ≢ w → Clash t (kind_of s c) (kind_of s d) → IsAhead t plan v w ⊎ IsAhead t plan w v
  clashing c d v w kc kd ne cl = acting.clash_stands t b plan ok valid f s formed h c d v w kc kd ne cl

  rule_1 : (x y : ℕ) (v : Span) → IsStep1 t b s x y v → Safe t plan f s (Raise (Tok y) v)
  rule_1 x y v a w kw =
      let p = formed.orders x y a.order in
      le_trans v (arrival t b s (Tok x) (Tok y)) (At (begins t plan w)) a.limit
      (in_time (Tok x) (Tok y) (who f s x) w (p.first, refl) kw
      (subst (λ z. IsAhead t plan (who f s x) z) kw.1 (acting.order_ahead t b plan ok valid f s formed h x y a.order)))

  rule_2 : (x y : ℕ) (v : Span) → IsStep2 t b s x y v → Safe t plan f s (Lower (Tok x) v)
  rule_2 x y v a w kw =
      let p = formed.orders x y a.order in
      le_trans (At (begins t plan w)) (deadline t b s (Tok x) (Tok y)) v
      (by_deadline (Tok x) (Tok y) w (who f s y) kw (p.second, refl)
      (subst (λ z. IsAhead t plan z (who f s y)) kw.1 (acting.order_ahead t b plan ok valid f s formed h x y a.order)))
      a.limit

  rule_3 : (x y : ℕ) → IsStep3 t b s x y → Safe t plan f s (Post x y)
  rule_3 x y a =
      let kx : Stands (Tok x) (who f s x) = (clash_there t s x (kind_of s (Tok y)) a.clash, refl) in
      let ky : Stands (Tok y) (who f s y) = (clash_there_last t s y (kind_of s (Tok x)) a.clash, refl) in
      elim (clashing (Tok x) (Tok y) (who f s x) (who f s y) kx ky (tokens_differ x y a.different kx ky) a.clash)
      [ inl k ↦ k.first | inr k ↦ absurd (a.late (can (Tok y) (Tok x) (who f s y) (who f s x) ky kx k)) ]

  rule_4 : (x p : ℕ) (v : Span) → IsStep4 t b s x p v → Safe t plan f s (Raise (Tok x) v)
  rule_4 x p v a w kw =
      let n = acting.named t b plan ok valid f s formed h x p a.need in
      le_trans v (arrival t b s n.0 (Tok x)) (At (begins t plan w))
      (all_has (λ c. v ≤ˢ arrival t b s c (Tok x)) (cands s x p) a.limit n.0 n.4)
      (in_time n.0 (Tok x) n.1 w n.2 kw (subst (λ z. IsAhead t plan n.1 z) kw.1 (acting.need_ahead t b plan ok valid f s formed h x p n.1 a.need n.3)))

  rule_5 : (x p : ℕ) (c : Cand) → IsStep5 t b s x p c → Safe t plan f s (Take x p c)
  rule_5 x p c a w kw sup =
      a.late (can c (Tok x) w (who f s x) kw (there x p a.listed.need) (acting.need_ahead t b plan ok valid f s formed h x p w a.listed.need sup))

  -- the one token of a list is ahead
  rule_6 : (x p : ℕ) → IsStep6 s x p → Safe t plan f s (Post (only (cands s x p)) x)
  rule_6 x p a =
      let y = a.one.0 in
      let one = acting.one_supplies t b plan ok valid f s formed h x p y a.need a.one.1 in
      subst (λ cs. ends t plan (who f s (only cs)) ≤ begins t plan (who f s x)) (sym a.one.1)
      (acting.need_ahead t b plan ok valid f s formed h x p (who f s y) a.need one.1).first

  rule_7 : (x p a : ℕ) → IsStep7 s x p a → Safe t plan f s (Take x p (Out a))
  rule_7 x p a k w kw sup =
      let i = h.spans (Out a) w kw in
      lt_not_le (At (hi s (Out a))) (lo s (Out a)) k.shut (le_trans (lo s (Out a)) (At (begins t plan w)) (At (hi s (Out a))) i.0 i.1)

  rule_8 : (x p : ℕ) (c : Cand) (d : ℕ) → IsStep8 t b s x p c d → Safe t plan f s (Take x p c)
  rule_8 x p c d a w kw sup =
      let kd : Stands (Tok d) (who f s d) = (deleter_there t s d p a.deletes, refl) in
      let kx = there x p a.listed.need in
      elim (away x p w a.listed.need sup (Tok d) (who f s d) kd a.deletes (differ (Tok d) c (who f s d) w a.different kd kw) (tokens_differ d x a.other kd kx)) [
        | inl k ↦ a.not_ahead (can (Tok d) c (who f s d) w kd kw k)
        | inr k ↦ a.not_after (can (Tok x) (Tok d) (who f s x) (who f s d) kx kd k)
      ]

  -- where d threatens what y adds for x, it is ahead of y or x is ahead of it
  pub threat_away : (x p d y : ℕ) → IsThreatOf t s x p d y → (IsAhead t plan (who f s d) (who f s y) ⊎ IsAhead t plan (who f s x) (who f s d)) × Stands (Tok d) (who f s d) × Stands (Tok y) (who f s y)
  threat_away x p d y a =
      let kd : Stands (Tok d) (who f s d) = (deleter_there t s d p a.deletes, refl) in
      let one = acting.one_supplies t b plan ok valid f s formed h x p y a.need a.one in
      let ky : Stands (Tok y) (who f s y) = (one.0, refl) in
      (away x p (who f s y) a.need one.1 (Tok d) (who f s d) kd a.deletes (tokens_differ d y a.different kd ky) (tokens_differ d x a.other kd (there x p a.need)), kd, ky)

  rule_9_after : (x p d : ℕ) → IsStep9After t b s x p d → Safe t plan f s (Post x d)
  rule_9_after x p d a =
      let y = a.0 in
      let r = threat_away x p d y a.1 in
      elim r.0 [ inl k ↦ absurd (a.2 (can (Tok d) (Tok y) (who f s d) (who f s y) r.1 r.2 k)) | inr k ↦ k.first ]

  rule_9_ahead : (x p d : ℕ) → IsStep9Ahead t b s x p d → Safe t plan f s (Post d (only (cands s x p)))
  rule_9_ahead x p d a =
      let y = a.0 in
      let r = threat_away x p d y a.1 in
      subst (λ cs. ends t plan (who f s d) ≤ begins t plan (who f s (only cs))) (sym a.1.one)
      (elim r.0 [ inl k ↦ k.first | inr k ↦ absurd (a.2 (can (Tok x) (Tok d) (who f s x) (who f s d) (there x p a.1.need) r.1 k)) ])

  -- whoever adds p is no later than the limit allows
  reaches : (a p : ℕ) (v : Span) → IsStep10 t b s a p v → (c : Cand) (z : Who) → Stands c z → Adds t (kind_of s c) p → v ≤ˢ arrival t b s c (Out a)
  reaches a p v k (Tok y) z kc adds =
      subst (λ (m : Token). IsBeforeToken t b a p v m) (sym (unwrap_or-slice_get s.tokens y no_token)) (k.tokens y no_token kc.0) adds
  reaches a p v k (Out o) z kc adds =
      let i = h.spans (Out o) z kc in
      let lt : (occurrence_at plan kc.0).act < length t.actions = valid.of_task kc.0 (record { act = 0; start = 0 }) kc.2.within in
      let same_act : (occurrence_at plan kc.0).act ≡ o = kc.2.action in
      k.outs o (omega (arith, lt, same_act)) adds (le_trans (lo s (Out o)) (At (begins t plan z)) (At (hi s (Out o))) i.0 i.1)

  rule_10 : (a p : ℕ) (v : Span) → IsStep10 t b s a p v → Safe t plan f s (Raise (Out a) v)
  rule_10 a p v k w kw =
      let r = acting.stands_is t b plan ok valid f s formed h (Out a) w kw in
      let need : Contains (needs_of t (kind_who plan w)) p = subst (λ j. Contains (needs_of t j) p) (sym r.1) k.need in
      let q = supplier t plan p (begins t plan w) in
      let c = acting.stander t b plan ok valid f s formed h q.0 (supplies_within t plan ok.bounds valid p (begins t plan w) q.0 q.1) in
      let e = acting.stands_is t b plan ok valid f s formed h c.0 q.0 c.1 in
      le_trans v (arrival t b s c.0 (Out a)) (At (begins t plan w))
      (reaches a p v k c.0 q.0 c.1 (subst (λ j. Adds t j p) e.1 (supplies_adds t plan ok.bounds valid p (begins t plan w) q.0 (held t plan ok.bounds valid w p r.0 need) q.1)))
      (in_time c.0 (Out a) q.0 w c.1 kw (supplies_ahead t plan ok.bounds valid p q.0 w r.0 need q.1))

  -- where a deletes what y alone adds for x, an outside occurrence of it is ahead of y or x is ahead of it
  outside_away : (x p a y : ℕ) → IsOutsideThreat t s x p a y → (w : Who) → Stands (Out a) w → (IsAhead t plan w (who f s y) ⊎ IsAhead t plan (who f s x) w) × Stands (Tok y) (who f s y)
  outside_away x p a y k w kw =
      let one = acting.one_supplies t b plan ok valid f s formed h x p y k.need k.one in
      let ky : Stands (Tok y) (who f s y) = (one.0, refl) in
      (away x p (who f s y) k.need one.1 (Out a) w kw k.deletes (differ (Out a) (Tok y) w (who f s y) refl kw ky) (differ (Out a) (Tok x) w (who f s x) refl kw (there x p k.need)), ky)

  rule_11_after : (x p a : ℕ) (v : Span) → IsStep11After t b s x p a v → Safe t plan f s (Raise (Out a) v)
  rule_11_after x p a v k w kw =
      let r = outside_away x p a k.0 k.1 w kw in
      elim r.0 [
        | inl m ↦ absurd (k.2 (can (Out a) (Tok k.0) w (who f s k.0) kw r.1 m))
        | inr m ↦ le_trans v (arrival t b s (Tok x) (Out a)) (At (begins t plan w)) k.3.limit (in_time (Tok x) (Out a) (who f s x) w (there x p k.1.need) kw m)
      ]

  rule_11_ahead : (x p a : ℕ) (v : Span) → IsStep11Ahead t b s x p a v → Safe t plan f s (Lower (Out a) v)
  rule_11_ahead x p a v k w kw =
      let r = outside_away x p a k.0 k.1 w kw in
      elim r.0 [
        | inl m ↦ le_trans (At (begins t plan w)) (deadline t b s (Out a) (Tok k.0)) v (by_deadline (Out a) (Tok k.0) w (who f s k.0) kw r.1 m) k.3
        | inr m ↦ absurd (k.2 (can (Tok x) (Out a) (who f s x) w (there x p k.1.need) kw m))
      ]

  rule_12_after : (x a : ℕ) (v : Span) → IsStep12After t b s x a v → Safe t plan f s (Raise (Out a) v)
  rule_12_after x a v k w kw =
      let kx : Stands (Tok x) (who f s x) = (clash_there t s x (Act a) k.clash, refl) in
      elim (clashing (Tok x) (Out a) (who f s x) w kx kw (differ (Tok x) (Out a) (who f s x) w refl kx kw) k.clash) [
        | inl m ↦ le_trans v (arrival t b s (Tok x) (Out a)) (At (begins t plan w)) k.after.limit (in_time (Tok x) (Out a) (who f s x) w kx kw m)
        | inr m ↦ absurd (k.late (can (Out a) (Tok x) w (who f s x) kw kx m))
      ]

  rule_12_ahead : (x a : ℕ) (v : Span) → IsStep12Ahead t b s x a v → Safe t plan f s (Lower (Out a) v)
  rule_12_ahead x a v k w kw =
      let kx : Stands (Tok x) (who f s x) = (clash_there t s x (Act a) k.clash, refl) in
      elim (clashing (Tok x) (Out a) (who f s x) w kx kw (differ (Tok x) (Out a) (who f s x) w refl kx kw) k.clash) [
        | inl m ↦ absurd (k.late (can (Tok x) (Out a) (who f s x) w kx kw m))
        | inr m ↦ le_trans (At (begins t plan w)) (deadline t b s (Out a) (Tok x)) v (by_deadline (Out a) (Tok x) w (who f s x) kw kx m) k.ahead
      ]

  -- two that supply needs of one token do not exclude each other
  compatible : (x p q : ℕ) (c d : Cand) (v w : Who) → has_need s x p ≡ true → has_need s x q ≡ true → Stands c v → Stands d w → v ≢ w →
      Supplies t plan p (begins t plan (who f s x)) v → Supplies t plan q (begins t plan (who f s x)) w → Exclude t b s p q c d → ⊥
  compatible x p q c d v w np nq kc kd ne sp sq (inl stuck) =
      elim (clashing c d v w kc kd ne stuck.clash)
      [ inl m ↦ stuck.not_first (can c d v w kc kd m) | inr m ↦ stuck.not_last (can d c w v kd kc m) ]
  compatible x p q c d v w np nq kc kd ne sp sq (inr both) =
      let rc = acting.stands_is t b plan ok valid f s formed h c v kc in
      let rd = acting.stands_is t b plan ok valid f s formed h d w kd in
      let rx = acting.stands_is t b plan ok valid f s formed h (Tok x) (who f s x) (there x p np) in
      let ap = acting.need_ahead t b plan ok valid f s formed h x p v np sp in
      let aq = acting.need_ahead t b plan ok valid f s formed h x q w nq sq in
      elim (away x q w nq sq c v kc both.first ne ap.different) [
        | inr m ↦ not_both t plan ok.bounds valid v (who f s x) rc.0 rx.0 ap m
        | inl m ↦ elim (away x p v np sp d w kd both.second (λ e. ne (sym e)) aq.different) [
          | inr n ↦ not_both t plan ok.bounds valid w (who f s x) rd.0 rx.0 aq n
          | inl n ↦ not_both t plan ok.bounds valid v w rc.0 rd.0 m n
        ]
      ]

  rule_13 : (x p : ℕ) (c : Cand) (q : ℕ) → IsStep13 t b s x p c q → Safe t plan f s (Take x p c)
  rule_13 x p c q a w kw sup =
      let n = acting.named t b plan ok valid f s formed h x q a.second.need in
      let i = all_has (λ d. IsImpossibleBeside t b s p q c d) (cands s x q) a.none.none n.0 n.4 in
      compatible x p q c n.0 w n.1 a.listed.need a.second.need kw n.2 (λ e. differ n.0 c n.1 w i.other n.2 kw (sym e)) sup n.3 i.exclude

  -- what a rule allows is safe
  pub safe : (step : Step) → Allowed t b s step → Safe t plan f s (change_of s step)
  safe (R1 x y v) a = rule_1 x y v a
  safe (R2 x y v) a = rule_2 x y v a
  safe (R3 x y) a = rule_3 x y a
  safe (R4 x p v) a = rule_4 x p v a
  safe (R5 x p c) a = rule_5 x p c a
  safe (R6 x p) a = rule_6 x p a
  safe (R7 x p o) a = rule_7 x p o a
  safe (R8 x p c d) a = rule_8 x p c d a
  safe (R9After x p d) a = rule_9_after x p d a
  safe (R9Ahead x p d) a = rule_9_ahead x p d a
  safe (R10 o p v) a = rule_10 o p v a
  safe (R11After x p o v) a = rule_11_after x p o v a
  safe (R11Ahead x p o v) a = rule_11_ahead x p o v a
  safe (R12After x o v) a = rule_12_after x o v a
  safe (R12Ahead x o v) a = rule_12_ahead x o v a
  safe (R13 x p c q) a = rule_13 x p c q a
