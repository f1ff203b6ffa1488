-- whom a change can wake is found through the atoms
use Rattle.std.proofs.Common.{◌≡◌, ℕ, ◌<◌, List, All, length, true, Option, Contains, slice_index_or, refl, sym, ◌∙◌, ap, subst, arith, inl, inr, ◌⊎◌}
use Rattle.cpt_task.specs.Shape.{TaskShape}
use Rattle.cpt_tables.specs.declared.tables.Tables.{Tables}
use Rattle.cpt_task.specs.declared.span.Span.{Span}
use Rattle.cpt_task.specs.declared.span.Span.TheVariants.{At, Never}
use Rattle.cpt_sheet.specs.declared.data.Cand.{Cand}
use Rattle.cpt_sheet.specs.declared.data.Cand.TheVariants.{Tok, Out}
use Rattle.cpt_sheet.specs.declared.data.Change.{Change}
use Rattle.cpt_sheet.specs.declared.data.Change.TheVariants.{Raise, Lower, Take, Post}
use Rattle.cpt_sheet.specs.declared.data.Kind.{Kind}
use Rattle.cpt_sheet.specs.declared.data.Kind.TheVariants.{Start, End, Act}
use Rattle.cpt_sheet.specs.declared.data.Sheet.{Sheet}
use Rattle.cpt_sheet.specs.declared.data.Step.{Step}
use Rattle.cpt_sheet.specs.Formed.{CanAdd, IsFormed}
use Rattle.cpt_sheet.specs.Live.{IsOpen, IsShut}
use Rattle.cpt_sheet.specs.declared.data.Interval.{Interval}
use Rattle.cpt_tables.specs.Spans.{◌≤ˢ◌, ◌<ˢ◌}
use Rattle.cpt_sheet.specs.Roles.{Adds, Clash, Deletes, adds_of, deletes_of, needs_of}
use Rattle.cpt_sheet.specs.View.{cands, has_need, kind_of, span_of}
use Rattle.cpt_calculus.specs.Rules.{IsToken, only}
use Rattle.cpt_calculus.proofs.Reading.{deleter_there, in_list, listed_in, need_there, one_only}
use Rattle.cpt_steps.specs.Landing.{IsThere}
use Rattle.cpt_waking.specs.Waking.{CanWake, Feeds, Helps, LoweredWakesOut, RaisedWakesOut}
use Rattle.cpt_waking.specs.Waking.LoweredWakesOut.{clash as lowered_clash, loses}
use Rattle.cpt_waking.specs.Waking.RaisedWakesOut.{helps, clash as raised_clash, harmed}
use Rattle.cpt_index.specs.Lists.{IsConsumer, IsDeleter, Lists}
use Rattle.cpt_index.proofs.NeedLemmas.{needs_listed}
use Rattle.cpt_agenda.specs.declared.asked.Use.{Use}
use Rattle.cpt_agenda.specs.declared.asked.Use.TheVariants.{Needed, Deleted, Added}
use Rattle.cpt_agenda.specs.Agendas.{AgendaShape}
use Rattle.cpt_agenda.proofs.AskedLemmas.{asked_then}
use Rattle.cpt_agenda.specs.Asked.{AreAsked, IsActionBelow, IsAround, IsListed, IsTaker, IsTakerOf, IsTokenBelow, IsUser, IsUserOf, StirredByBring, StirredByJoin, StirredByOrder, WokenBy, WokenByTake, WokenFrom, spot_of}
use Rattle.cpt_agenda.specs.Asked.IsAround.{deletes_need, deletes_add, needs_deleted, adds_deleted}

-- an interval with a moment is not without one
pub not_shut : (i j : Interval) → i ≡ j → IsOpen i → IsShut j → ⊥
not_shut i j e o h = go j.lo (subst (λ (k : Interval). IsOpen k) e o) h
  where
    go : (l : Span) → l ≤ˢ At j.hi → At j.hi <ˢ l → ⊥
    go (At n) h k = omega arith
    go Never h k = absurd h

-- who uses an atom is there
pub user_there : (t : TaskShape) (s : Sheet) (how : Use) (p : ℕ) (c : Cand) → IsUser t s how p c → IsThere t s c
user_there t s Needed p (Tok x) h = absurd h
user_there t s Needed p (Out a) h = h.0
user_there t s Deleted p (Tok x) h = absurd h
user_there t s Deleted p (Out a) h = h.0
user_there t s Added p (Tok x) h = h.0
user_there t s Added p (Out a) h = h.0

pub users_there : (t : TaskShape) (s : Sheet) (how : Use) (p : ℕ) (l : List Cand) → Lists (IsUser t s how p) l → All (IsThere t s) l
users_there t s how p l h k d lt = user_there t s how p (slice_index_or l k d) (h.sound k d lt)

pub deleters_there : (t : TaskShape) (s : Sheet) (p : ℕ) (l : List ℕ) → Lists (IsDeleter t s p) l → All (λ x. x < length s.tokens) l
deleters_there t s p l h k d lt = deleter_there t s (slice_index_or l k d) p (in_list p (deletes_of t (kind_of s (Tok (slice_index_or l k d)))) (h.sound k d lt))

pub takers_there : (s : Sheet) (p : ℕ) (l : List ℕ) → Lists (IsConsumer s p) l → All (λ x. x < length s.tokens) l
takers_there s p l h k d lt = need_there s (slice_index_or l k d) p (h.sound k d lt)

pub taker_listed : (s : Sheet) (p : ℕ) (l : List ℕ) → Lists (IsConsumer s p) l → (c : Cand) → IsTaker s p c → IsListed l c
taker_listed s p l h (Tok x) n = h.complete x n
taker_listed s p l h (Out a) n = absurd n

-- who interferes is found through what is deleted
pub clash_around : (t : TaskShape) (s : Sheet) (k : Kind) (a : ℕ) → Clash t k (Act a) → IsAround t s k (Out a)
clash_around t s Start a h = absurd h
clash_around t s End a h = absurd h
clash_around t s (Act o) a h =
    elim h.interfere.interfere [
      | inl e ↦ elim e [
        | inl w ↦ needs_deleted (record { atom = w.0; listed = w.1; holds = (h.second, w.2) })
        | inr w ↦ adds_deleted (record { atom = w.0; listed = w.1; holds = (h.second, w.2) })
      ]
      | inr e ↦ elim e [
        | inl w ↦ deletes_need (record { atom = w.0; listed = w.2; holds = (h.second, w.1) })
        | inr w ↦ deletes_add (record { atom = w.0; listed = w.2; holds = (h.second, w.1) })
      ]
    ]

module _ (t : TaskShape) (s : Sheet) (f : IsFormed t s) where
  needed : (x p : ℕ) → has_need s x p ≡ true → Contains (needs_of t (kind_of s (Tok x))) p
  needed x p h = (needs_listed t s x (needs_of t (kind_of s (Tok x))) f (need_there s x p h) refl).complete p h

  -- who lists a candidate needs what it adds
  feeds_taker : (c : Cand) (k : Kind) (xs : List ℕ) (x : ℕ) → k ≡ kind_of s c → xs ≡ adds_of t k → Feeds s c x → IsTakerOf s xs (Tok x)
  feeds_taker c k xs x e g w = record { atom = w.0; listed = subst (λ l. Contains l w.0) (sym g) (subst (λ z. Adds t z w.0) (sym e) (added c (f.supply x w.0 c w.2))); holds = w.1 }
    where
      added : (c : Cand) → CanAdd t s x w.0 c → Adds t (kind_of s c) w.0
      added (Tok y) h = h.2
      added (Out a) h = h.1

  pub raised_token : (z : ℕ) (k : Kind) (xs : List ℕ) → k ≡ kind_of s (Tok z) → xs ≡ adds_of t k → (d : Cand) → WokenBy t s (Raise (Tok z) Never) d →
      (IsTokenBelow (length s.tokens) d ⊎ IsAround t s k d) ⊎ IsUserOf t s Needed xs d
  raised_token z k xs e g (Tok y) h = inl (inl h.0)
  raised_token z k xs e g (Out a) h = go h.1
    where
      go : RaisedWakesOut t s z a → (IsTokenBelow (length s.tokens) (Out a) ⊎ IsAround t s k (Out a)) ⊎ IsUserOf t s Needed xs (Out a)
      go (helps w) = inr (record { atom = w.0; listed = subst (λ l. Contains l w.0) (sym g) (subst (λ j. Adds t j w.0) (sym e) w.2); holds = (h.0, w.1) })
      go (raised_clash w) = inl (inr (clash_around t s k a (subst (λ j. Clash t j (Act a)) (sym e) w)))
      go (harmed w) = inl (inr (deletes_need (record { atom = w.0; listed = subst (λ j. Contains (needs_of t j) w.0) (sym e) (needed z w.0 w.1); holds = (h.0, w.2) })))

  pub lowered_token : (z : ℕ) (k : Kind) → k ≡ kind_of s (Tok z) → (d : Cand) → WokenBy t s (Lower (Tok z) Never) d → IsTokenBelow (length s.tokens) d ⊎ IsAround t s k d
  lowered_token z k e (Tok y) h = inl h.0
  lowered_token z k e (Out a) h = go h.1
    where
      go : LoweredWakesOut t s z a → IsTokenBelow (length s.tokens) (Out a) ⊎ IsAround t s k (Out a)
      go (lowered_clash w) = inr (clash_around t s k a (subst (λ j. Clash t j (Act a)) (sym e) w))
      go (loses w) = inr (deletes_add (record { atom = w.0; listed = subst (λ j. Adds t j w.0) (sym e) w.1; holds = (h.0, w.2) }))

  pub raised_action : (o : ℕ) (xs : List ℕ) → xs ≡ adds_of t (Act o) → (d : Cand) → WokenBy t s (Raise (Out o) Never) d → IsTakerOf s xs d ⊎ IsUserOf t s Needed xs d
  raised_action o xs g (Tok y) h = inl (feeds_taker (Out o) (Act o) xs y refl g h.1)
  raised_action o xs g (Out a) h = let w : Helps t (Act o) a = h.1 in inr (record { atom = w.0; listed = subst (λ l. Contains l w.0) (sym g) w.2; holds = (h.0, w.1) })

  -- an outside action without a moment wakes whom it would wake by its lo
  pub lowered_shut : (o : ℕ) (d : Cand) → WokenBy t s (Lower (Out o) Never) d → WokenBy t s (Raise (Out o) Never) d
  lowered_shut o (Tok y) h = h
  lowered_shut o (Out a) h = (h.0, h.1.1)

  pub lowered_action : (o : ℕ) (xs : List ℕ) → xs ≡ adds_of t (Act o) → (IsShut (span_of s (Out o)) → ⊥) → (d : Cand) → WokenBy t s (Lower (Out o) Never) d → IsTakerOf s xs d
  lowered_action o xs g n (Tok y) h = feeds_taker (Out o) (Act o) xs y refl g h.1
  lowered_action o xs g n (Out a) h = absurd (n h.1.0)

  pub taken : (x p y : ℕ) (l : List ℕ) → IsToken (cands s x p) y → Lists (IsDeleter t s p) l → (d : Cand) → WokenByTake t s x p d → ((d ≡ Tok y) ⊎ IsListed l d) ⊎ IsUser t s Deleted p d
  taken x p y l e lists d h = elim h.1.whom [ inl k ↦ inl (inl (sym k ∙ ap Tok (one_only s x p y e))) | inr k ↦ go d h.0 k ]
    where
      go : (d : Cand) → IsThere t s d → Deletes t (kind_of s d) p → ((d ≡ Tok y) ⊎ IsListed l d) ⊎ IsUser t s Deleted p d
      go (Tok z) there k = inl (inr (lists.complete z (listed_in p (deletes_of t (kind_of s (Tok z))) k)))
      go (Out a) there k = inr (there, k)

  pub not_taken : (x p : ℕ) → ((y : ℕ) → IsToken (cands s x p) y → ⊥) → (d : Cand) → WokenByTake t s x p d → ⊥
  not_taken x p none d h = none (only (cands s x p)) h.1.one

  pub joined : (x p : ℕ) (d : Cand) → StirredByJoin t s x p d → (d ≡ Tok x) ⊎ WokenByTake t s x p d
  joined x p d h = elim h.1 [ inl e ↦ inl (sym e) | inr w ↦ inr (h.0, w) ]

  pub ordered_by : (x y : ℕ) (k : Kind) (xs : List ℕ) → k ≡ kind_of s (Tok x) → xs ≡ adds_of t k → (d : Cand) → StirredByOrder t s x y d →
      ((d ≡ Tok x) ⊎ (d ≡ Tok y)) ⊎ IsTakerOf s xs d
  ordered_by x y k xs e g (Tok z) h =
      elim h [
        | inl i ↦ inl (inl (ap Tok (sym i)))
        | inr v ↦ elim v [ inl i ↦ inl (inr (ap Tok (sym i))) | inr w ↦ inr (feeds_taker (Tok x) k xs z e g w) ]
      ]
  ordered_by x y k xs e g (Out a) h = absurd h

  pub brought_for : (p a : ℕ) (d : Cand) → StirredByBring t s p a d → (IsTokenBelow (length s.tokens) d ⊎ IsAround t s (Act a) d) ⊎ IsUser t s Deleted p d
  brought_for p a (Tok z) h = inl (inl h)
  brought_for p a (Out o) h = elim h.1 [ inl c ↦ inl (inr (clash_around t s (Act a) o c)) | inr d ↦ inr (h.0, d) ]

  pub woken_from : (ch : Change) (c : Cand) → IsThere t s c → CanWake t s ch c → WokenFrom t s (spot_of ch) c
  woken_from (Raise (Tok z) v) (Tok y) l w = (l, w)
  woken_from (Raise (Tok z) v) (Out a) l w = (l, w)
  woken_from (Raise (Out o) v) (Tok y) l w = (l, w)
  woken_from (Raise (Out o) v) (Out a) l w = (l, w)
  woken_from (Lower (Tok z) v) (Tok y) l w = (l, w)
  woken_from (Lower (Tok z) v) (Out a) l w = (l, w)
  woken_from (Lower (Out o) v) (Tok y) l w = (l, w)
  woken_from (Lower (Out o) v) (Out a) l w = (l, w)
  woken_from (Take x p d) c l w = (l, w)
  woken_from (Post x y) (Tok z) l w = l
  woken_from (Post x y) (Out a) l w = absurd w

pub there_as : (t : TaskShape) (s : Sheet) (c : Cand) → IsThere t s c → IsTokenBelow (length s.tokens) c ⊎ IsActionBelow (length t.actions) c
there_as t s (Tok x) l = inl l
there_as t s (Out a) l = inr l

-- what surrounds a kind is found by four rounds over atoms
module _ (rules : List ℕ) (t : TaskShape) (b : Tables) (s : Sheet) (cause : Option Step) (k : Kind) (ns xs ds : List ℕ) (a0 a1 a2 a3 a4 : AgendaShape) where
  pub around_all : ns ≡ needs_of t k → xs ≡ adds_of t k → ds ≡ deletes_of t k → AreAsked rules t b s cause (IsUserOf t s Deleted ns) a0 a1 → AreAsked rules t b s cause (IsUserOf t s Deleted xs) a1 a2 →
      AreAsked rules t b s cause (IsUserOf t s Needed ds) a2 a3 → AreAsked rules t b s cause (IsUserOf t s Added ds) a3 a4 → AreAsked rules t b s cause (IsAround t s k) a0 a4
  around_all e f g h1 h2 h3 h4 =
      let p12 = asked_then rules t b s cause (IsUserOf t s Deleted ns) (IsUserOf t s Deleted xs) (λ d. IsUserOf t s Deleted ns d ⊎ IsUserOf t s Deleted xs d) a0 a1 a2 (λ d r. r) h1 h2 in
      let p34 = asked_then rules t b s cause (IsUserOf t s Needed ds) (IsUserOf t s Added ds) (λ d. IsUserOf t s Needed ds d ⊎ IsUserOf t s Added ds d) a2 a3 a4 (λ d r. r) h3 h4 in
      asked_then rules t b s cause (λ d. IsUserOf t s Deleted ns d ⊎ IsUserOf t s Deleted xs d) (λ d. IsUserOf t s Needed ds d ⊎ IsUserOf t s Added ds d) (IsAround t s k) a0 a2 a4 each p12 p34
    where
      each : (d : Cand) → IsAround t s k d → (IsUserOf t s Deleted ns d ⊎ IsUserOf t s Deleted xs d) ⊎ (IsUserOf t s Needed ds d ⊎ IsUserOf t s Added ds d)
      each d (deletes_need w) = inl (inl (subst (λ l. IsUserOf t s Deleted l d) (sym e) w))
      each d (deletes_add w) = inl (inr (subst (λ l. IsUserOf t s Deleted l d) (sym f) w))
      each d (needs_deleted w) = inr (inl (subst (λ l. IsUserOf t s Needed l d) (sym g) w))
      each d (adds_deleted w) = inr (inr (subst (λ l. IsUserOf t s Added l d) (sym g) w))
