-- a step that is legal after a change, and of whose condition the change touches nothing, was legal before
use Rattle.std.proofs.Common.{◌≡◌, ◌≢◌, ℕ, zero, suc, ◌<◌, List, [], ◌∷◌, length, Bool, true, false, MatchBool, refl, sym, ◌∙◌, ap, subst, inl, inr, ◌⊎◌, arith}
use Rattle.std.specs.List.{All, AllByRecursion as ByRecursion}
use Rattle.std.proofs.lemmas.Bool.{cases_lt, both_ways, or_left, or_right, or_cases}
use Rattle.std.proofs.lemmas.List.Elements.{recursion_from_All, All-from_recursion}
use Rattle.cpt_task.specs.declared.span.Span.{Span}
use Rattle.cpt_task.specs.declared.span.Span.TheVariants.{At}
use Rattle.cpt_task.specs.Shape.{TaskShape}
use Rattle.cpt_tables.specs.declared.tables.Tables.{Tables}
use Rattle.cpt_tables.proofs.SpanLemmas.{le_cases}
use Rattle.cpt_tables.specs.Spans.{◌≤ˢ◌, ◌<ˢ◌, ◌+ˢ◌}
use Rattle.cpt_sheet.specs.declared.data.Cand.{Cand}
use Rattle.cpt_sheet.specs.declared.data.Cand.TheVariants.{Tok, Out}
use Rattle.cpt_sheet.specs.declared.data.Kind.TheVariants.{Act}
use Rattle.cpt_sheet.specs.declared.data.Token.{Token}
use Rattle.cpt_sheet.specs.declared.data.Sheet.{Sheet}
use Rattle.cpt_sheet.specs.declared.data.Step.{Step}
use Rattle.cpt_sheet.specs.declared.data.Step.TheVariants.{R1, R2, R3, R4, R5, R6, R7, R8, R9After, R9Ahead, R10, R11After, R11Ahead, R12After, R12Ahead, R13}
use Rattle.cpt_sheet.specs.declared.data.Change.{Change}
use Rattle.cpt_sheet.specs.declared.data.Change.TheVariants.{Raise, Lower, Take, Post}
use Rattle.cpt_sheet.specs.Roles.{Adds, Deletes, Clash}
use Rattle.cpt_sheet.specs.View.{lo, hi, kind_of, cands, has_need, has, same, token_at, no_token}
use Rattle.cpt_sheet.specs.Live.{IsLive}
use Rattle.cpt_sheet.specs.Formed.{IsFormed}
use Rattle.cpt_sheet.specs.Gaps.{ordered, gap, back, arrival, deadline, CanPrecede, Exclude, IsImpossibleBeside}
use Rattle.cpt_sheet.specs.Edits.{changed}
use Rattle.cpt_sheet.specs.Below.{IsBelowSheet}
use Rattle.cpt_calculus.specs.Rules.{only, IsStep1, IsStep2, IsStep3, IsStep4, IsListed, IsStep5, IsStep6, IsStep7, IsStep8, IsThreatOf, IsStep9After, IsStep9Ahead, IsBeforeToken, IsBeforeTokens, IsBeforeOut, IsBeforeOuts, IsStep10, IsOutsideThreat, ComesAfter, ComesAhead, IsStep11After, IsStep11Ahead, IsStep12After, IsStep12Ahead, IsStep13, Allowed, change_of, Moves, IsLegal, narrowed, is_of}
use Rattle.cpt_calculus.proofs.Below.{kinds, parts, same_need}
use Rattle.cpt_calculus.proofs.Monotone.{same_change}
use Rattle.cpt_calculus.proofs.Confluence.{down}
use Rattle.cpt_calculus.proofs.Parts.{Part-has, same_is, same_self}
use Rattle.cpt_tables.specs.Admissible.{nth_action}
use Rattle.cpt_steps.specs.Landing.{subject_of, IsClosedAt}
use Rattle.cpt_waking.specs.Touching.{Raises, Lowers, Takes, Posts, Hinders, Shortens, Parts, RaisesListed, RaisesAdder, LosesAdder, Touches}
use Rattle.cpt_waking.specs.Waking.{IsAsleep, StaysClosed, AsleepStaysClosed, BothStayClosed, CanWake, UnrelatedStaysClosed}
use Rattle.cpt_waking.specs.Touching.Hinders.{raised, lowered, turned}
use Rattle.std.proofs.lemmas.Option.{unwrap_or-slice_get}
use Rattle.std.proofs.lemmas.List.{get_or_default}
use Rattle.std.proofs.lemmas.List.Elements.{length_all_zip}
use Rattle.cpt_sheet.specs.Below.{TokenBelow}
use Rattle.cpt_sheet.specs.Roles.{adds_of}
use Rattle.cpt_calculus.proofs.Reading.{in_or_not}
use Rattle.cpt_waking.proofs.RuleLemmas.{is_of_both}
use Rattle.cpt_waking.proofs.TableLemmas.{wakes_by_table}
use Rattle.cpt_waking.proofs.ReadLemmas.{lo_kept, hi_kept, list_kept, ordered_kept}
use Rattle.cpt_steps.proofs.AboveLemmas.{moves_above}

-- a change lands where it touches something
raises_subject : (ch : Change) (c : Cand) → Raises ch c → subject_of ch ≡ c
raises_subject (Raise d v) c h = h
raises_subject (Lower d v) c h = absurd h
raises_subject (Take x p d) c h = absurd h
raises_subject (Post x y) c h = absurd h

lowers_subject : (ch : Change) (c : Cand) → Lowers ch c → subject_of ch ≡ c
lowers_subject (Raise d v) c h = absurd h
lowers_subject (Lower d v) c h = h
lowers_subject (Take x p d) c h = absurd h
lowers_subject (Post x y) c h = absurd h

takes_subject : (ch : Change) (x p : ℕ) → Takes ch x p → subject_of ch ≡ Tok x
takes_subject (Raise d v) x p h = absurd h
takes_subject (Lower d v) x p h = absurd h
takes_subject (Take y q d) x p h = ap Tok h.0
takes_subject (Post y z) x p h = absurd h

posts_subject : (ch : Change) (c d : Cand) → Posts ch c d → subject_of ch ≡ c
posts_subject (Raise e v) c d h = absurd h
posts_subject (Lower e v) c d h = absurd h
posts_subject (Take x p e) c d h = absurd h
posts_subject (Post x y) c d h = h.0

-- what is so of each candidate of a list is, of each, touched or so
each_or : (T P Q : Cand → Type 0) (cs : List Cand) → ((c : Cand) → has c cs ≡ true → P c → T c ⊎ Q c) → ByRecursion P cs → ((c : Cand) × (has c cs ≡ true) × T c) ⊎ ByRecursion Q cs
each_or T P Q [] f h = inr h
each_or T P Q (c ∷ cs) f h =
    elim (f c (or_left (same c c) (has c cs) (self c)) h.0) [
      | inl k ↦ inl (c, or_left (same c c) (has c cs) (self c), k)
      | inr k ↦ elim (each_or T P Q cs (λ d m r. f d (or_right (same c d) (has d cs) m) r) h.1) [
        | inl m ↦ inl (m.0, or_right (same c m.0) (has m.0 cs) m.1, m.2)
        | inr m ↦ inr (k, m)
      ]
    ]
  where
    self : (d : Cand) → same d d ≡ true
    self d = Rattle.cpt_calculus.proofs.Parts.same_self d

all_or : (T P Q : Cand → Type 0) (cs : List Cand) → ((c : Cand) → has c cs ≡ true → P c → T c ⊎ Q c) → All P cs → ((c : Cand) × (has c cs ≡ true) × T c) ⊎ All Q cs
all_or T P Q cs f h =
    elim (each_or T P Q cs f (recursion_from_All P cs h)) [ inl k ↦ inl k | inr k ↦ inr (All-from_recursion Q cs k) ]

map_left : {A B T : Type 0} → (A → T) → A ⊎ B → T ⊎ B
map_left f (inl a) = inl (f a)
map_left f (inr b) = inr b

-- an order to an outside action is never posted
posts_tokens : (ch : Change) (c : Cand) (a : ℕ) → Posts ch c (Out a) → ⊥
posts_tokens (Raise e v) c a h = h
posts_tokens (Lower e v) c a h = h
posts_tokens (Take x p e) c a h = h
posts_tokens (Post x y) c a h = let e = h.1 in cc

-- where the change lands elsewhere, what it touches of a pair
only_raised : (ch : Change) (c d : Cand) → subject_of ch ≢ d → Hinders ch c d → Raises ch c
only_raised ch c d n (raised h) = h
only_raised ch c d n (lowered h) = absurd (n (lowers_subject ch d h))
only_raised ch c d n (turned h) = absurd (n (posts_subject ch d c h))

only_lowered : (ch : Change) (a : ℕ) (d : Cand) → subject_of ch ≢ Out a → Hinders ch (Out a) d → Lowers ch d
only_lowered ch a d n (raised h) = absurd (n (raises_subject ch (Out a) h))
only_lowered ch a d n (lowered h) = h
only_lowered ch a d n (turned h) = absurd (posts_tokens ch d a h)

not_raised : (ch : Change) (c d : Cand) → subject_of ch ≢ c → Hinders ch c d → Lowers ch d ⊎ Posts ch d c
not_raised ch c d n (raised h) = absurd (n (raises_subject ch c h))
not_raised ch c d n (lowered h) = inl h
not_raised ch c d n (turned h) = inr h

-- one of the first n numbers is touched, or each is so
each_below : (T Q : ℕ → Type 0) (n : ℕ) → ((k : ℕ) → k < n → T k ⊎ Q k) → ((k : ℕ) × T k) ⊎ ((k : ℕ) → k < n → Q k)
each_below T Q zero f = inr (λ k l. absurd (omega arith))
each_below T Q (suc n) f =
    elim (each_below T Q n (λ k l. f k (omega arith))) [
      | inl k ↦ inl k
      | inr k ↦ elim (f n (omega arith)) [
        | inl m ↦ inl (n, m)
        | inr m ↦ inr (λ j l. elim (cases_lt j n) [ inl below ↦ k j below | inr above ↦ (let e : n ≡ j = omega arith in subst (λ z. Q z) e m) ])
      ]
    ]

-- what is read of one sheet is read of another below it, but for what a change touches
module _ (t : TaskShape) (w : Tables) (s u : Sheet) (ch : Change) (below : IsBelowSheet s u)
    (lo_same : (c : Cand) → Raises ch c ⊎ (lo u c ≡ lo s c))
    (hi_same : (c : Cand) → Lowers ch c ⊎ (hi u c ≡ hi s c))
    (list_same : (x p : ℕ) → Takes ch x p ⊎ (cands u x p ≡ cands s x p))
    (ordered_same : (c d : Cand) → Posts ch c d ⊎ (ordered u c d ≡ ordered s c d)) where
  arrival_kept : (c d : Cand) → Raises ch c ⊎ (arrival t w u c d ≡ arrival t w s c d)
  arrival_kept c d =
      elim (lo_same c) [
        | inl h ↦ inl h
        | inr e ↦ inr (ap (λ a. a +ˢ gap t w (kind_of u c) (kind_of u d)) e
            ∙ (ap (λ k. lo s c +ˢ gap t w k (kind_of u d)) (kinds s u below c) ∙ ap (λ k. lo s c +ˢ gap t w (kind_of s c) k) (kinds s u below d)))
      ]

  deadline_kept : (c d : Cand) → Lowers ch d ⊎ (deadline t w u c d ≡ deadline t w s c d)
  deadline_kept c d =
      elim (hi_same d) [
        | inl h ↦ inl h
        | inr e ↦ inr (ap (λ n. At (back n (gap t w (kind_of u c) (kind_of u d)))) e
            ∙ (ap (λ k. At (back (hi s d) (gap t w k (kind_of u d)))) (kinds s u below c) ∙ ap (λ k. At (back (hi s d) (gap t w (kind_of s c) k))) (kinds s u below d)))
      ]

  late_kept : (c d : Cand) → ¬ (CanPrecede t w u c d) → Hinders ch c d ⊎ ¬ (CanPrecede t w s c d)
  late_kept c d h =
      elim (arrival_kept c d) [
        | inl r ↦ inl (raised r)
        | inr a ↦ elim (hi_same d) [
          | inl l ↦ inl (lowered l)
          | inr e ↦ elim (ordered_same d c) [
            | inl o ↦ inl (turned o)
            | inr o ↦ inr (λ k. h (record {
              in_time = subst (λ z. arrival t w u c d ≤ˢ At z) (sym e) (subst (λ z. z ≤ˢ At (hi s d)) (sym a) k.in_time);
              free = o ∙ k.free;
            }))
          ]
        ]
      ]

  need_back : (x p : ℕ) → has_need u x p ≡ true → has_need s x p ≡ true
  need_back x p h = sym (same_need s u below x p) ∙ h

  listed_back : (x p : ℕ) (c : Cand) → IsListed u x p c → IsListed s x p c
  listed_back x p c h = record { need = need_back x p h.need; listed = Part-has c (parts s u below x p) h.listed }

  deletes_back : (d p : ℕ) → Deletes t (kind_of u (Tok d)) p → Deletes t (kind_of s (Tok d)) p
  deletes_back d p h = subst (λ k. Deletes t k p) (kinds s u below (Tok d)) h

  clash_back : (c d : Cand) → Clash t (kind_of u c) (kind_of u d) → Clash t (kind_of s c) (kind_of s d)
  clash_back c d h = subst (λ k. Clash t k (kind_of s d)) (kinds s u below c) (subst (λ k. Clash t (kind_of u c) k) (kinds s u below d) h)

  back1 : (x y : ℕ) (v : Span) → IsStep1 t w u x y v → (Raises ch (Tok x) ⊎ Posts ch (Tok x) (Tok y)) ⊎ IsStep1 t w s x y v
  back1 x y v h =
      elim (ordered_same (Tok x) (Tok y)) [
        | inl p ↦ inl (inr p)
        | inr o ↦ elim (arrival_kept (Tok x) (Tok y)) [
          | inl r ↦ inl (inl r)
          | inr e ↦ inr (record { order = sym o ∙ h.order; limit = subst (λ z. v ≤ˢ z) e h.limit; moment = h.moment })
        ]
      ]

  back2 : (x y : ℕ) (v : Span) → subject_of ch ≢ Tok x → IsStep2 t w u x y v → Lowers ch (Tok y) ⊎ IsStep2 t w s x y v
  back2 x y v n h =
      elim (ordered_same (Tok x) (Tok y)) [
        | inl p ↦ absurd (n (posts_subject ch (Tok x) (Tok y) p))
        | inr o ↦ elim (deadline_kept (Tok x) (Tok y)) [
          | inl r ↦ inl r
          | inr e ↦ inr (record { order = sym o ∙ h.order; limit = subst (λ z. z ≤ˢ v) e h.limit })
        ]
      ]

  back3 : (x y : ℕ) → subject_of ch ≢ Tok x → IsStep3 t w u x y → Raises ch (Tok y) ⊎ IsStep3 t w s x y
  back3 x y n h =
      elim (late_kept (Tok y) (Tok x) h.late) [
        | inl r ↦ inl (only_raised ch (Tok y) (Tok x) n r)
        | inr e ↦ inr (record { different = h.different; clash = clash_back (Tok x) (Tok y) h.clash; late = e })
      ]

  back4 : (x p : ℕ) (v : Span) → subject_of ch ≢ Tok x → IsStep4 t w u x p v → ((c : Cand) × RaisesListed u ch x p c) ⊎ IsStep4 t w s x p v
  back4 x p v n h =
      elim (list_same x p) [
        | inl r ↦ absurd (n (takes_subject ch x p r))
        | inr e ↦ elim (all_or (λ c. Raises ch c) (λ c. v ≤ˢ arrival t w u c (Tok x)) (λ c. v ≤ˢ arrival t w s c (Tok x)) (cands u x p)
            (λ c m k. elim (arrival_kept c (Tok x)) [ inl r ↦ inl r | inr a ↦ inr (subst (λ z. v ≤ˢ z) a k) ]) h.limit) [
              | inl k ↦ inl (k.0, record { listed = k.1; raises = k.2 })
              | inr k ↦ inr (record { need = need_back x p h.need; limit = subst (λ (l : List Cand). All (λ c. v ≤ˢ arrival t w s c (Tok x)) l) e k; moment = h.moment })
            ]
      ]

  back5 : (x p : ℕ) (c : Cand) → subject_of ch ≢ Tok x → IsStep5 t w u x p c → Raises ch c ⊎ IsStep5 t w s x p c
  back5 x p c n h =
      elim (late_kept c (Tok x) h.late) [
        | inl r ↦ inl (only_raised ch c (Tok x) n r)
        | inr e ↦ inr (record { listed = listed_back x p c h.listed; late = e })
      ]

  back6 : (x p : ℕ) → IsStep6 u x p → Takes ch x p ⊎ IsStep6 s x p
  back6 x p h =
      elim (list_same x p) [
        | inl r ↦ inl r
        | inr e ↦ inr (record { need = need_back x p h.need; one = (h.one.0, sym e ∙ h.one.1) })
      ]

  back7 : (x p a : ℕ) → IsStep7 u x p a → Shortens ch (Out a) ⊎ IsStep7 s x p a
  back7 x p a h =
      elim (lo_same (Out a)) [
        | inl r ↦ inl (inl r)
        | inr e ↦ elim (hi_same (Out a)) [
          | inl r ↦ inl (inr r)
          | inr k ↦ inr (record {
            listed = listed_back x p (Out a) h.listed;
            shut = subst (λ z. At z <ˢ lo s (Out a)) k (subst (λ z. At (hi u (Out a)) <ˢ z) e h.shut);
          })
        ]
      ]

  back8 : (x p : ℕ) (c : Cand) (d : ℕ) → subject_of ch ≢ Tok x → IsStep8 t w u x p c d →
      (Hinders ch (Tok d) c ⊎ (Lowers ch (Tok d) ⊎ Posts ch (Tok d) (Tok x))) ⊎ IsStep8 t w s x p c d
  back8 x p c d n h =
      elim (late_kept (Tok d) c h.not_ahead) [
        | inl r ↦ inl (inl r)
        | inr e ↦ elim (late_kept (Tok x) (Tok d) h.not_after) [
          | inl r ↦ inl (inr (not_raised ch (Tok x) (Tok d) n r))
          | inr k ↦ inr (record {
            listed = listed_back x p c h.listed;
            deletes = deletes_back d p h.deletes;
            other = h.other;
            different = h.different;
            not_ahead = e;
            not_after = k;
          })
        ]
      ]

  threat_back : (x p d y : ℕ) → cands u x p ≡ cands s x p → IsThreatOf t u x p d y → IsThreatOf t s x p d y
  threat_back x p d y e h = record { need = need_back x p h.need; one = sym e ∙ h.one; deletes = deletes_back d p h.deletes; other = h.other; different = h.different }

  back9_after : (x p d : ℕ) → subject_of ch ≢ Tok x → IsStep9After t w u x p d → Hinders ch (Tok d) (Tok (only (cands u x p))) ⊎ IsStep9After t w s x p d
  back9_after x p d n h =
      elim (list_same x p) [
        | inl r ↦ absurd (n (takes_subject ch x p r))
        | inr e ↦ elim (late_kept (Tok d) (Tok h.0) h.2) [
          | inl r ↦ inl (subst (λ z. Hinders ch (Tok d) (Tok z)) (sym (ap (λ l. only l) h.1.one)) r)
          | inr k ↦ inr (h.0, threat_back x p d h.0 e h.1, k)
        ]
      ]

  back9_ahead : (x p d : ℕ) → subject_of ch ≢ Tok d → IsStep9Ahead t w u x p d → (Takes ch x p ⊎ Raises ch (Tok x)) ⊎ IsStep9Ahead t w s x p d
  back9_ahead x p d n h =
      elim (list_same x p) [
        | inl r ↦ inl (inl r)
        | inr e ↦ elim (late_kept (Tok x) (Tok d) h.2) [
          | inl r ↦ inl (inr (only_raised ch (Tok x) (Tok d) n r))
          | inr k ↦ inr (h.0, threat_back x p d h.0 e h.1, k)
        ]
      ]

  outside_back : (x p a y : ℕ) → cands u x p ≡ cands s x p → IsOutsideThreat t u x p a y → IsOutsideThreat t s x p a y
  outside_back x p a y e h = record { need = need_back x p h.need; one = sym e ∙ h.one; deletes = h.deletes }

  after_back : (x a : ℕ) (v : Span) → ComesAfter t w u x a v → Raises ch (Tok x) ⊎ ComesAfter t w s x a v
  after_back x a v h =
      elim (arrival_kept (Tok x) (Out a)) [
        | inl r ↦ inl r
        | inr e ↦ inr (record { limit = subst (λ z. v ≤ˢ z) e h.limit; moment = h.moment })
      ]

  ahead_back : (a y : ℕ) (v : Span) → ComesAhead t w u a y v → Lowers ch (Tok y) ⊎ ComesAhead t w s a y v
  ahead_back a y v h = elim (deadline_kept (Out a) (Tok y)) [ inl r ↦ inl r | inr e ↦ inr (subst (λ z. z ≤ˢ v) e h) ]

  back11_after : (x p a : ℕ) (v : Span) → subject_of ch ≢ Out a → IsStep11After t w u x p a v →
      (Takes ch x p ⊎ (Raises ch (Tok x) ⊎ Lowers ch (Tok (only (cands u x p))))) ⊎ IsStep11After t w s x p a v
  back11_after x p a v n h =
      elim (list_same x p) [
        | inl r ↦ inl (inl r)
        | inr e ↦ elim (late_kept (Out a) (Tok h.0) h.2) [
          | inl r ↦ inl (inr (inr (subst (λ z. Lowers ch (Tok z)) (sym (ap (λ l. only l) h.1.one)) (only_lowered ch a (Tok h.0) n r))))
          | inr k ↦ elim (after_back x a v h.3) [
            | inl r ↦ inl (inr (inl r))
            | inr m ↦ inr (h.0, outside_back x p a h.0 e h.1, k, m)
          ]
        ]
      ]

  back11_ahead : (x p a : ℕ) (v : Span) → subject_of ch ≢ Out a → IsStep11Ahead t w u x p a v →
      (Takes ch x p ⊎ (Raises ch (Tok x) ⊎ Lowers ch (Tok (only (cands u x p))))) ⊎ IsStep11Ahead t w s x p a v
  back11_ahead x p a v n h =
      elim (list_same x p) [
        | inl r ↦ inl (inl r)
        | inr e ↦ elim (late_kept (Tok x) (Out a) h.2) [
          | inl r ↦ inl (inr (inl (only_raised ch (Tok x) (Out a) n r)))
          | inr k ↦ elim (ahead_back a h.0 v h.3) [
            | inl r ↦ inl (inr (inr (subst (λ z. Lowers ch (Tok z)) (sym (ap (λ l. only l) h.1.one)) r)))
            | inr m ↦ inr (h.0, outside_back x p a h.0 e h.1, k, m)
          ]
        ]
      ]

  back12_after : (x a : ℕ) (v : Span) → subject_of ch ≢ Out a → IsStep12After t w u x a v → Shortens ch (Tok x) ⊎ IsStep12After t w s x a v
  back12_after x a v n h =
      elim (late_kept (Out a) (Tok x) h.late) [
        | inl r ↦ inl (inr (only_lowered ch a (Tok x) n r))
        | inr k ↦ elim (after_back x a v h.after) [
          | inl r ↦ inl (inl r)
          | inr m ↦ inr (record { clash = clash_back (Tok x) (Out a) h.clash; late = k; after = m })
        ]
      ]

  back12_ahead : (x a : ℕ) (v : Span) → subject_of ch ≢ Out a → IsStep12Ahead t w u x a v → Shortens ch (Tok x) ⊎ IsStep12Ahead t w s x a v
  back12_ahead x a v n h =
      elim (late_kept (Tok x) (Out a) h.late) [
        | inl r ↦ inl (inl (only_raised ch (Tok x) (Out a) n r))
        | inr k ↦ elim (ahead_back a x v h.ahead) [
          | inl r ↦ inl (inr r)
          | inr m ↦ inr (record { clash = clash_back (Tok x) (Out a) h.clash; late = k; ahead = m })
        ]
      ]

  -- rule 10: what adds the atom
  adder_back : (z p : ℕ) (v : Span) (a : ℕ) → z < length u.tokens → IsBeforeToken t w a p v (token_at u z) →
      RaisesAdder t u ch p z ⊎ IsBeforeToken t w a p v (token_at s z)
  adder_back z p v a l h =
      elim (arrival_kept (Tok z) (Out a)) [
        | inl r ↦ elim (in_or_not p (adds_of t (kind_of u (Tok z)))) [
          | inl m ↦ inl (record { there = l; adds = m; raises = r })
          | inr m ↦ inr (λ k. absurd (m (subst (λ j. Adds t j p) (sym (kinds s u below (Tok z))) k)))
        ]
        | inr e ↦ inr (λ k. subst (λ g. v ≤ˢ g) e (h (subst (λ j. Adds t j p) (sym (kinds s u below (Tok z))) k)))
      ]

  adders_back : (a p : ℕ) (v : Span) → IsBeforeTokens t w u a p v → ((z : ℕ) × RaisesAdder t u ch p z) ⊎ IsBeforeTokens t w s a p v
  adders_back a p v h =
      let same : length s.tokens ≡ length u.tokens = length_all_zip TokenBelow s.tokens u.tokens below.tokens in
      elim (each_below (λ z. RaisesAdder t u ch p z) (λ z. IsBeforeToken t w a p v (token_at s z)) (length u.tokens)
      (λ z l. adder_back z p v a l (subst (λ (y : Token). IsBeforeToken t w a p v y) (sym (unwrap_or-slice_get u.tokens z no_token)) (h z no_token l)))) [
        | inl k ↦ inl k
        | inr k ↦ inr (λ z d l. subst (λ (y : Token). IsBeforeToken t w a p v y) (unwrap_or-slice_get s.tokens z no_token ∙ get_or_default s.tokens z no_token d l)
            (k z (subst (λ n. z < n) same l)))
      ]

  out_back : (o p a : ℕ) (v : Span) → o < length t.actions → IsBeforeOut t w u a p v o → LosesAdder t u ch p o ⊎ IsBeforeOut t w s a p v o
  out_back o p a v l h =
      elim (in_or_not p (nth_action t o).add) [
        | inl m ↦ elim (lo_same (Out o)) [
          | inl r ↦ inl (record { there = l; adds = m; loses = inl r })
          | inr e ↦ elim (le_cases (lo u (Out o)) (At (hi u (Out o)))) [
            | inl open_here ↦ inr (λ adds live. subst (λ z. v ≤ˢ (z +ˢ gap t w (Act o) (Act a))) e (h adds open_here))
            | inr shut ↦ elim (hi_same (Out o)) [
              | inl r ↦ inl (record { there = l; adds = m; loses = inr (r, shut) })
              | inr k ↦ inr (λ adds live. subst (λ z. v ≤ˢ (z +ˢ gap t w (Act o) (Act a))) e
                  (h adds (subst (λ z. lo u (Out o) ≤ˢ At z) (sym k) (subst (λ z. z ≤ˢ At (hi s (Out o))) (sym e) live))))
            ]
          ]
        ]
        | inr m ↦ inr (λ adds live. absurd (m adds))
      ]

  outs_back : (a p : ℕ) (v : Span) → IsBeforeOuts t w u a p v → ((o : ℕ) × LosesAdder t u ch p o) ⊎ IsBeforeOuts t w s a p v
  outs_back a p v h = each_below (λ o. LosesAdder t u ch p o) (λ o. IsBeforeOut t w s a p v o) (length t.actions) (λ o l. out_back o p a v l (h o l))

  back10 : (a p : ℕ) (v : Span) → IsStep10 t w u a p v →
      (((z : ℕ) × RaisesAdder t u ch p z) ⊎ ((o : ℕ) × LosesAdder t u ch p o)) ⊎ IsStep10 t w s a p v
  back10 a p v h =
      elim (adders_back a p v h.tokens) [
        | inl r ↦ inl (inl r)
        | inr k ↦ elim (outs_back a p v h.outs) [
          | inl r ↦ inl (inr r)
          | inr m ↦ inr (record { need = h.need; tokens = k; outs = m; moment = h.moment })
        ]
      ]

  -- rule 13: a candidate beside another
  exclude_back : (p q : ℕ) (c d : Cand) → Exclude t w u p q c d →
      (Clash t (kind_of u c) (kind_of u d) × (Hinders ch c d ⊎ Hinders ch d c)) ⊎ Exclude t w s p q c d
  exclude_back p q c d (inl h) =
      elim (late_kept c d h.not_first) [
        | inl r ↦ inl (h.clash, inl r)
        | inr k ↦ elim (late_kept d c h.not_last) [
          | inl r ↦ inl (h.clash, inr r)
          | inr m ↦ inr (inl (record { clash = clash_back c d h.clash; not_first = k; not_last = m }))
        ]
      ]
  exclude_back p q c d (inr h) =
      inr (inr (record {
        first = subst (λ k. Deletes t k q) (kinds s u below c) h.first;
        second = subst (λ k. Deletes t k p) (kinds s u below d) h.second;
      }))

  back13 : (x p : ℕ) (c : Cand) (q : ℕ) → subject_of ch ≢ Tok x → IsStep13 t w u x p c q → ((d : Cand) × Parts t u ch x q c d) ⊎ IsStep13 t w s x p c q
  back13 x p c q n h =
      elim (list_same x q) [
        | inl r ↦ absurd (n (takes_subject ch x q r))
        | inr e ↦ elim (all_or (λ d. Clash t (kind_of u c) (kind_of u d) × (Hinders ch c d ⊎ Hinders ch d c))
            (IsImpossibleBeside t w u p q c) (IsImpossibleBeside t w s p q c) (cands u x q)
            (λ d m k. elim (exclude_back p q c d k.exclude) [ inl r ↦ inl r | inr j ↦ inr (record { other = k.other; exclude = j }) ]) h.none.none) [
              | inl k ↦ inl (k.0, record { listed = k.1; clash = k.2.0; hinders = k.2.1 })
              | inr k ↦ inr (record {
                listed = listed_back x p c h.listed;
                second = record { need = need_back x q h.second.need; different = h.second.different };
                none = record { none = subst (λ (l : List Cand). All (IsImpossibleBeside t w s p q c) l) e k };
              })
            ]
      ]

  allowed_back : (step : Step) → Allowed t w u step → subject_of ch ≢ subject_of (change_of u step) → Touches t u ch step ⊎ Allowed t w s step
  allowed_back (R1 x y v) h n = back1 x y v h
  allowed_back (R2 x y v) h n = back2 x y v n h
  allowed_back (R3 x y) h n = back3 x y n h
  allowed_back (R4 x p v) h n = back4 x p v n h
  allowed_back (R5 x p c) h n = back5 x p c n h
  allowed_back (R6 x p) h n = back6 x p h
  allowed_back (R7 x p a) h n = back7 x p a h
  allowed_back (R8 x p c d) h n = back8 x p c d n h
  allowed_back (R9After x p d) h n = back9_after x p d n h
  allowed_back (R9Ahead x p d) h n = back9_ahead x p d n h
  allowed_back (R10 a p v) h n = back10 a p v h
  allowed_back (R11After x p a v) h n = back11_after x p a v n h
  allowed_back (R11Ahead x p a v) h n = back11_ahead x p a v n h
  allowed_back (R12After x a v) h n = back12_after x a v n h
  allowed_back (R12Ahead x a v) h n = back12_ahead x a v n h
  allowed_back (R13 x p c q) h n = back13 x p c q n h

  -- a step that is legal after the change and lands elsewhere is touched, or was legal before and changes the same
  pub gained : (step : Step) → IsLive s → IsLegal t w u step → subject_of ch ≢ subject_of (change_of u step) →
      Touches t u ch step ⊎ (IsLegal t w s step × (change_of u step ≡ change_of s step))
  gained step live h n =
      elim (allowed_back step h.allowed n) [
        | inl r ↦ inl r
        | inr k ↦ (let e = same_change t w s u below h.live step k in
            inr (record { live = live; allowed = k; moves = subst (λ z. Moves s z) e (moves_above s u below (change_of u step) h.moves) }, e))
      ]

-- a change of the sheet
gained_by : (t : TaskShape) (w : Tables) (s : Sheet) (ch : Change) → Moves s ch → (step : Step) → IsLive s → IsLegal t w (changed s ch) step →
    subject_of ch ≢ subject_of (change_of (changed s ch) step) → Touches t (changed s ch) ch step ⊎ (IsLegal t w s step × (change_of (changed s ch) step ≡ change_of s step))
gained_by t w s ch moves step live h n = gained t w s (changed s ch) ch (down s ch moves) (lo_kept s ch) (hi_kept s ch) (list_kept s ch) (ordered_kept s ch) step live h n

-- the change of a step is the same after it
same_after : (s : Sheet) (step : Step) → change_of (narrowed s step) step ≡ change_of s step
same_after s (R1 x y v) = refl
same_after s (R2 x y v) = refl
same_after s (R3 x y) = refl
same_after s (R4 x p v) = refl
same_after s (R5 x p c) = refl
same_after s (R6 x p) = refl
same_after s (R7 x p a) = refl
same_after s (R8 x p c d) = refl
same_after s (R9After x p d) = refl
same_after s (R9Ahead x p d) = refl
same_after s (R10 a p v) = refl
same_after s (R11After x p a v) = refl
same_after s (R11Ahead x p a v) = refl
same_after s (R12After x a v) = refl
same_after s (R12Ahead x a v) = refl
same_after s (R13 x p c q) = refl

asleep_here : (rules : List ℕ) (t : TaskShape) (w : Tables) (s : Sheet) (step : Step) (c : Cand) → IsLegal t w s step → subject_of (change_of s step) ≢ c →
    IsAsleep rules t w (narrowed s step) (change_of s step) c → IsClosedAt rules t w s c → IsClosedAt rules t w (narrowed s step) c
asleep_here rules t w s step c legal n asleep closed other o h lands =
    elim (gained_by t w s (change_of s step) legal.moves other legal.live h (λ k. n (k ∙ lands))) [
      | inl r ↦ asleep other (record { rule = o; legal = h; lands = lands; touched = r })
      | inr k ↦ closed other o k.0 (ap (λ z. subject_of z) (sym k.1) ∙ lands)
    ]

pub asleep_stays_closed : AsleepStaysClosed
asleep_stays_closed rules t w u step c n asleep s f legal e closed =
    let go : subject_of (change_of (narrowed s step) step) ≢ c → IsAsleep rules t w (narrowed s step) (change_of (narrowed s step) step) c → IsClosedAt rules t w (narrowed s step) c =
    λ m a. asleep_here rules t w s step c legal (subst (λ (z : Change). subject_of z ≢ c) (same_after s step) m) (subst (λ (z : Change). IsAsleep rules t w (narrowed s step) z c) (same_after s step) a) closed in
    subst (λ (z : Sheet). IsClosedAt rules t w z c) (sym e)
    (go (subst (λ (z : Sheet). subject_of (change_of z step) ≢ c) e n) (subst (λ (z : Sheet). IsAsleep rules t w z (change_of z step) c) e asleep))

pub both_stay_closed : BothStayClosed
both_stay_closed xs ys t w u step c h k s f legal e closed other o l lands =
    elim (or_cases (is_of xs other) (is_of ys other) (sym (is_of_both xs ys other) ∙ o)) [
      | inl m ↦ h s f legal e (λ z r a b. closed z (is_of_both xs ys z ∙ or_left (is_of xs z) (is_of ys z) r) a b) other m l lands
      | inr m ↦ k s f legal e (λ z r a b. closed z (is_of_both xs ys z ∙ or_right (is_of xs z) (is_of ys z) r) a b) other m l lands
    ]

pub asleep_with : (rules : List ℕ) (t : TaskShape) (w : Tables) (u : Sheet) (step : Step) (c : Cand) (ch : Change) → ch ≡ change_of u step → subject_of ch ≢ c →
    IsAsleep rules t w u ch c → StaysClosed rules t w u step c
asleep_with rules t w u step c ch e n a =
    asleep_stays_closed rules t w u step c (subst (λ (z : Change). subject_of z ≢ c) e n) (subst (λ (z : Change). IsAsleep rules t w u z c) e a)

-- a test of two is a test of one
pub same_match : (c d : Cand) (r : Bool) → r ≡ same c d → MatchBool r (c ≡ d) (c ≢ d)
same_match c d true e = same_is c d (sym e)
same_match c d false e = λ k. both_ways (same c d) (sym e) (subst (λ z. same c z ≡ true) k (same_self c))

-- whom the table does not name stays closed
pub unrelated_stays_closed : UnrelatedStaysClosed
unrelated_stays_closed rules t w u step c f n none = asleep_stays_closed rules t w u step c n (λ other h. none (wakes_by_table rules t w u (change_of u step) c other f n h))

pub unrelated_with : (rules : List ℕ) (t : TaskShape) (w : Tables) (u : Sheet) (step : Step) (c : Cand) (ch : Change) → ch ≡ change_of u step → IsFormed t u → subject_of ch ≢ c →
    (CanWake t u ch c → ⊥) → StaysClosed rules t w u step c
unrelated_with rules t w u step c ch e f n none =
    unrelated_stays_closed rules t w u step c f (subst (λ (z : Change). subject_of z ≢ c) e n) (λ k. none (subst (λ (z : Change). CanWake t u z c) (sym e) k))
