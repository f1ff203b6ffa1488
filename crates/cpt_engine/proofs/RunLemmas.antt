-- steps until no one has any
use Rattle.std.proofs.Common.{Some, None, length-set, ◌≡◌, ◌≢◌, ℕ, suc, ◌+◌, ◌*◌, ◌≤◌, ◌<◌, List, [], ◌∷◌, ◌++◌, Bool, true, false, ◌||◌, length, refl, sym, ◌∙◌, ap, subst, arith, inl, inr, ◌⊎◌, append_assoc, take, length-append}
use Rattle.std.proofs.lemmas.Bool.{cases_Bool, or_left, or_right, or_cases}
use Rattle.std.proofs.lemmas.List.{same_from_push}
use Rattle.std.proofs.lemmas.List.Elements.{length_all_zip}
use Rattle.std.proofs.Math.Nat.{suc-mul, mul-le-mul_right}
use Rattle.std.proofs.Math.Seq.{take-append_seam}
use Rattle.cpt_sheet.specs.declared.data.Decision.{Decision}
use Rattle.cpt_calculus.specs.Decisions.{Fits, applied}
use Rattle.cpt_calculus.proofs.ApplyFormed.{applied_formed}
use Rattle.cpt_store.proofs.DeathLemmas.{live_after}
use Rattle.cpt_store.proofs.HeldLemmas.{tokens_applied}
use Rattle.cpt_task.specs.Shape.{TaskShape}
use Rattle.cpt_tables.specs.declared.tables.Tables.{Tables}
use Rattle.cpt_sheet.specs.declared.data.Cand.{Cand}
use Rattle.cpt_sheet.specs.declared.data.Cand.TheVariants.{Tok, Out}
use Rattle.cpt_sheet.specs.declared.data.Sheet.{Sheet}
use Rattle.cpt_sheet.specs.declared.data.Step.{Step}
use Rattle.cpt_sheet.specs.View.{has, same}
use Rattle.cpt_sheet.specs.Below.{TokenBelow}
use Rattle.cpt_sheet.specs.Formed.{IsFormed}
use Rattle.cpt_sheet.specs.Live.{IsLive}
use Rattle.cpt_calculus.specs.Rules.{IsLegal, change_of, narrowed}
use Rattle.cpt_calculus.specs.Closing.{IsClosed}
use Rattle.cpt_calculus.proofs.Confluence.{down}
use Rattle.cpt_calculus.proofs.Keeps.{step_formed}
use Rattle.cpt_calculus.proofs.Parts.{same_is, same_self}
use Rattle.cpt_steps.specs.Room.{room}
use Rattle.cpt_steps.specs.Landing.{subject_of, IsThere, IsClosedAt}
use Rattle.cpt_waking.specs.Waking.{CanWake, StaysClosed, IsSettled}
use Rattle.cpt_waking.proofs.GainLemmas.{unrelated_stays_closed}
use Rattle.cpt_steps.proofs.LandingLemmas.{closed_where_all, same_change}
use Rattle.cpt_steps.proofs.RunLemmas.{tight_runs_append}
use Rattle.cpt_waking.proofs.SettleLemmas.{step_settles}
use Rattle.cpt_waking.proofs.DecisionLemmas.{decision_wakes}
use Rattle.cpt_waking.proofs.BringLemmas.{bring_wakes}
use Rattle.cpt_calculus.proofs.Reading.{cand_there, tok_is}
use Rattle.cpt_sheet.specs.declared.data.Change.TheVariants.{Take, Post}
use Rattle.cpt_sheet.specs.declared.data.Decision.TheVariants.{Join, Bring, Before}
use Rattle.cpt_steps.proofs.RoomLemmas.{steps_lessen}
use Rattle.cpt_store.specs.Deaths.{IsLiveAt}
use Rattle.cpt_store.specs.Proposals.{IsProposed}
use Rattle.cpt_store.specs.Stores.{Mark, KeepsMarks}
use Rattle.cpt_store.specs.Stores.KeepsMarks.{same as as_before, newest}
use Rattle.cpt_agenda.specs.Agendas.{AgendaShape, IsNext}
use Rattle.cpt_agenda.specs.Asked.{AreAsked, AreThere, CanAsk, IsAsked, IsWoken, NamesTokens, StirredBy}
use Rattle.cpt_sheet.specs.Gaps.{FitsTask}
use Rattle.cpt_store.specs.Stores.{StoreShape, IsBack, CanNarrow}
use Rattle.cpt_engine.specs.Running.{HasLed, HasGrown, HasMark, IsAfter, IsRunning, IsOn, IsOff, work}

-- who is stirred only where the table names it stays closed
stays : (rules : List ℕ) (t : TaskShape) (b : Tables) (u : Sheet) (step : Step) (c : Cand) → IsFormed t u → subject_of (change_of u step) ≢ c →
    (CanWake t u (change_of u step) c → StaysClosed rules t b u step c) → StaysClosed rules t b u step c
stays rules t b u step c f ne h s fs legal same closed next rule leg lands =
    unrelated_stays_closed rules t b u step c f ne (λ w. h w s fs legal same closed next rule leg lands) s fs legal same closed next rule leg lands

same_count : (t : TaskShape) (b : Tables) (s : Sheet) (step : Step) → IsLegal t b s step → length s.tokens ≡ length (narrowed s step).tokens
same_count t b s step legal = length_all_zip TokenBelow s.tokens (narrowed s step).tokens (down s (change_of s step) legal.moves).tokens

there_after : (t : TaskShape) (s u : Sheet) (c : Cand) → length s.tokens ≡ length u.tokens → IsThere t s c → IsThere t u c
there_after t s u (Tok x) e l = omega arith
there_after t s u (Out x) e l = l

there_before : (t : TaskShape) (s u : Sheet) (c : Cand) → length s.tokens ≡ length u.tokens → IsThere t u c → IsThere t s c
there_before t s u (Tok x) e l = omega arith
there_before t s u (Out x) e l = l

module _ (rules : List ℕ) (t : TaskShape) (b : Tables) (s : Sheet) (step : Step) (c : Cand) (old new : AgendaShape) where
  pub running_on : IsRunning rules t b s old (c ∷ old.waiting) → IsLive s → IsProposed rules t b s c step → IsLive (narrowed s step) →
      IsWoken rules t b (narrowed s step) step old new → IsOn rules t b c s (narrowed s step) old new
  running_on r live p after w = record {
    live = after;
    running = record {
      fits = r.fits;
      formed = step_formed t b s step r.formed p.legal;
      few = (let e = count in let l = r.few in omega arith);
      tokens = (let e = count in let l = r.tokens in let k = w.keeps.tokens in omega arith);
      acts = (let l = r.acts in let k = w.keeps.acts in omega arith);
      within = w.within r.within;
      there = record { there = λ d h. there_in d h };
      settled = step_settles rules t b s step (λ d. has d (c ∷ old.waiting)) (λ d. has d (c ∷ new.waiting)) r.formed p.legal r.settled keep each;
    };
    less = (let l = w.within r.within in let k = w.keeps.room in let m = falls in more m);
    falls = falls;
  }
    where
      count : length s.tokens ≡ length (narrowed s step).tokens
      count = same_count t b s step p.legal

      falls : room (narrowed s step) < room s
      falls = steps_lessen t b s step r.formed p.legal

      more : room (narrowed s step) < room s → work (narrowed s step) new.room (c ∷ new.waiting) ≤ work s old.room (c ∷ old.waiting)
      more m =
          let l = w.within r.within in
          let k = w.keeps.room in
          let e : suc (room (narrowed s step)) * (old.room + 1) ≤ room s * (old.room + 1) = mul-le-mul_right (old.room + 1) m in
          let f = suc-mul (room (narrowed s step)) (old.room + 1) in
          let g : room (narrowed s step) * (new.room + 1) ≡ room (narrowed s step) * (old.room + 1) = ap (λ n. room (narrowed s step) * (n + 1)) k in
          omega arith

      old_there : AreThere t (narrowed s step) old.waiting
      old_there = record { there = λ d h. there_after t s (narrowed s step) d count (r.there.there d (or_right (same c d) (has d old.waiting) h)) }

      there_in : (d : Cand) → has d (c ∷ new.waiting) ≡ true → IsThere t (narrowed s step) d
      there_in d h =
          elim (or_cases (same c d) (has d new.waiting) h) [
            | inl e ↦ there_after t s (narrowed s step) d count (r.there.there d (or_left (same c d) (has d old.waiting) e))
            | inr e ↦ (w.there old_there).there d e
          ]

      keep : (d : Cand) → has d (c ∷ old.waiting) ≡ true → has d (c ∷ new.waiting) ≡ true
      keep d h =
          elim (or_cases (same c d) (has d old.waiting) h) [
            | inl e ↦ or_left (same c d) (has d new.waiting) e
            | inr e ↦ or_right (same c d) (has d new.waiting) (w.keeps.kept d e)
          ]

      away : (d : Cand) → same c d ≡ false → subject_of (change_of (narrowed s step) step) ≢ d
      away d e k =
          let f : c ≡ d = sym p.lands ∙ (ap (λ ch. subject_of ch) (sym (same_change s step)) ∙ k) in
          let g : same c d ≡ true = subst (λ z. same c z ≡ true) f (same_self c) in
          cc

      each : (d : Cand) → IsThere t (narrowed s step) d → (has d (c ∷ new.waiting) ≡ true) ⊎ StaysClosed rules t b (narrowed s step) step d
      each d there =
          elim (cases_Bool (has d (c ∷ new.waiting))) [
            | inl e ↦ inl e
            | inr e ↦ inr (stays rules t b (narrowed s step) step d (step_formed t b s step r.formed p.legal) (away d (first_part e)) (λ k. asked e (w.woken d there k)))
          ]
        where
          first_part : (same c d || has d new.waiting) ≡ false → same c d ≡ false
          first_part h = parts (same c d) (has d new.waiting) h
            where
              parts : (x y : Bool) → (x || y) ≡ false → x ≡ false
              parts true y h = h
              parts false y h = refl

          asked : (same c d || has d new.waiting) ≡ false → IsAsked rules t b (narrowed s step) (Some step) new d → StaysClosed rules t b (narrowed s step) step d
          asked h a =
              elim a [
                | inl e ↦ absurd (let x : (same c d || has d new.waiting) ≡ true = or_right (same c d) (has d new.waiting) e in cc)
                | inr e ↦ e
              ]

append_nil : (xs : List Step) → xs ++ [] ≡ xs
append_nil [] = refl
append_nil (x ∷ xs) = ap (λ z. x ∷ z) (append_nil xs)

pub led_none : (rules : List ℕ) (t : TaskShape) (b : Tables) (s : Sheet) (xs : List Step) → IsFormed t s → HasLed rules t b s s xs xs
led_none rules t b s xs f = record { steps = []; all = sym (append_nil xs); leads = refl; formed = f; tokens = refl }

pub led_one : (rules : List ℕ) (t : TaskShape) (b : Tables) (s : Sheet) (c : Cand) (step : Step) (xs : List Step) → IsFormed t s → IsProposed rules t b s c step → HasLed rules t b s (narrowed s step) xs (xs ++ step ∷ [])
led_one rules t b s c step xs f p = record { steps = step ∷ []; all = refl; leads = (p.rule, p.legal, p.tight, refl); formed = step_formed t b s step f p.legal; tokens = sym (same_count t b s step p.legal) }

-- the same with the sheet and the steps as they are
pub led_step : (rules : List ℕ) (t : TaskShape) (b : Tables) (s u : Sheet) (c : Cand) (step : Step) (xs ys : List Step) → IsFormed t s → IsProposed rules t b s c step → u ≡ narrowed s step → ys ≡ xs ++ step ∷ [] →
    HasLed rules t b s u xs ys
led_step rules t b s u c step xs ys f p e g =
    subst (λ z. HasLed rules t b s z xs ys) (sym e) (subst (λ z. HasLed rules t b s (narrowed s step) xs z) (sym g) (led_one rules t b s c step xs f p))

pub can_narrow : (s : StoreShape) (t : TaskShape) (b : Tables) (step : Step) → s.task ≡ t → FitsTask t b → IsFormed t s.sheet → IsLegal t b s.sheet step → CanNarrow s step
can_narrow s t b step e fits formed legal = record {
  tables = b;
  fits = subst (λ (z : TaskShape). FitsTask z b) (sym e) fits;
  formed = subst (λ (z : TaskShape). IsFormed z s.sheet) (sym e) formed;
  legal = subst (λ (z : TaskShape). IsLegal z b s.sheet step) (sym e) legal;
}

pub formed_step : (t : TaskShape) (b : Tables) (s u : Sheet) (step : Step) → IsFormed t s → IsLegal t b s step → u ≡ narrowed s step → IsFormed t u
formed_step t b s u step f l e = subst (λ z. IsFormed t z) (sym e) (step_formed t b s step f l)

-- after a step subjects may be asked
pub can_ask : (t : TaskShape) (b : Tables) (h g : StoreShape) (step : Step) (a : AgendaShape) → g.task ≡ t → FitsTask t b → IsFormed t h.sheet → IsLegal t b h.sheet step → g.sheet ≡ narrowed h.sheet step →
    IsLive g.sheet → length h.sheet.tokens ≤ a.tokens → length t.actions ≤ a.acts → CanAsk t b g a
can_ask t b h g step a e fit f legal i live n m = record {
  lent = record { task = e; fits = fit; formed = formed_step t b h.sheet g.sheet step f legal i };
  live = live;
  tokens = (let k = same_count t b h.sheet step legal in let j = ap (λ (z : Sheet). length z.tokens) i in omega arith);
  acts = m;
}

-- a step kills a live sheet only where it lands
pub live_step : (rules : List ℕ) (t : TaskShape) (b : Tables) (s u : Sheet) (step : Step) (c : Cand) → u ≡ narrowed s step → IsLive s → IsProposed rules t b s c step → IsLiveAt u c → IsLive u
live_step rules t b s u step c e live p h =
    subst (λ (z : Sheet). IsLive z) (sym e)
    (live_after s (change_of s step) live (subst (λ (k : Cand). IsLiveAt (narrowed s step) k) (sym p.lands) (subst (λ (z : Sheet). IsLiveAt z c) e h)))

pub on_step : (rules : List ℕ) (t : TaskShape) (b : Tables) (s u : Sheet) (step : Step) (c : Cand) (old new : AgendaShape) → u ≡ narrowed s step → IsRunning rules t b s old (c ∷ old.waiting) → IsLive s →
    IsProposed rules t b s c step → IsLive u → IsWoken rules t b u step old new → IsOn rules t b c s u old new
on_step rules t b s u step c old new e r live p after w =
    subst (λ z. IsOn rules t b c s z old new) (sym e)
    (running_on rules t b s step c old new r live p (subst (λ z. IsLive z) e after) (subst (λ z. IsWoken rules t b z step old new) e w))

pub led_trans : (rules : List ℕ) (t : TaskShape) (b : Tables) (s u v : Sheet) (xs ys zs : List Step) → HasLed rules t b s u xs ys → HasLed rules t b u v ys zs → HasLed rules t b s v xs zs
led_trans rules t b s u v xs ys zs h k = record {
  steps = h.steps ++ k.steps;
  all = k.all ∙ (ap (λ z. z ++ k.steps) h.all ∙ append_assoc xs h.steps k.steps);
  leads = tight_runs_append rules t b s u v h.steps k.steps h.leads k.leads;
  formed = k.formed;
  tokens = k.tokens ∙ h.tokens;
}

pub grown_none : (xs : List Step) → HasGrown xs xs
grown_none xs = record { steps = []; all = sym (append_nil xs) }

pub grown_led : (rules : List ℕ) (t : TaskShape) (b : Tables) (s u : Sheet) (xs ys : List Step) → HasLed rules t b s u xs ys → HasGrown xs ys
grown_led rules t b s u xs ys h = record { steps = h.steps; all = h.all }

pub grown_trans : (xs ys zs : List Step) → HasGrown xs ys → HasGrown ys zs → HasGrown xs zs
grown_trans xs ys zs h k = record { steps = h.steps ++ k.steps; all = k.all ∙ (ap (λ z. z ++ k.steps) h.all ∙ append_assoc xs h.steps k.steps) }

-- marks that are kept twice
snoc_same : (ms ns : List Mark) (m n : Mark) → ms ++ m ∷ [] ≡ ns ++ n ∷ [] → (ms ≡ ns) × (m ≡ n)
snoc_same ms ns m n e = same_from_push ms ns m n e

pub marks_trans : (ls ms ns : List Mark) → KeepsMarks ls ms → KeepsMarks ms ns → KeepsMarks ls ns
marks_trans ls ms ns (as_before e) k = subst (λ z. KeepsMarks z ns) e k
marks_trans ls ms ns (newest xs s m n e f) (as_before g) = newest xs s m n e (g ∙ f)
marks_trans ls ms ns (newest xs s m n e f) (newest ys u k l g h) =
    let p = snoc_same xs ys (record { sheet = s; written = n }) (record { sheet = u; written = k }) (sym f ∙ g) in
    let a : s ≡ u = ap (λ (z : Mark). z.sheet) p.1 in
    newest xs s m l e (h ∙ ap (λ (z : List Mark). z ++ record { sheet = u; written = l } ∷ []) (sym p.0) ∙ ap (λ (z : Sheet). xs ++ record { sheet = z; written = l } ∷ []) (sym a))

-- a subject without a step is settled
pub off : (rules : List ℕ) (t : TaskShape) (b : Tables) (s : Sheet) (c : Cand) (a : AgendaShape) (most : ℕ) → IsRunning rules t b s a (c ∷ a.waiting) → IsLive s →
    IsClosedAt rules t b s c → work s a.room (c ∷ a.waiting) ≤ most → IsOff rules t b s a most
off rules t b s c a most r live closed l = record {
  live = live;
  running = record {
    fits = r.fits;
    formed = r.formed;
    few = r.few;
    tokens = r.tokens;
    acts = r.acts;
    within = r.within;
    there = record { there = λ d h. r.there.there d (or_right (same c d) (has d a.waiting) h) };
    settled = λ d there. elim (r.settled d there) [
      | inl e ↦ elim (or_cases (same c d) (has d a.waiting) e) [
        | inl k ↦ inr (subst (λ z. IsClosedAt rules t b s z) (same_is c d k) closed)
        | inr k ↦ inl k
      ]
      | inr k ↦ inr k
    ];
  };
  less = omega arith;
}

-- the first that waits is taken off
pub running_next : (rules : List ℕ) (t : TaskShape) (b : Tables) (s : Sheet) (c : Cand) (old new : AgendaShape) → IsRunning rules t b s old old.waiting → IsNext c old new → IsRunning rules t b s new (c ∷ new.waiting)
running_next rules t b s c old new r n = record {
  fits = r.fits;
  formed = r.formed;
  few = r.few;
  tokens = (let l = r.tokens in let k = n.tokens in omega arith);
  acts = (let l = r.acts in let k = n.acts in omega arith);
  within = (let l = r.within in let k = ap (λ (q : List Cand). length q) n.waiting in let m = n.room in omega arith);
  there = subst (λ q. AreThere t s q) n.waiting r.there;
  settled = subst (λ q. IsSettled rules t b s (λ d. has d q)) n.waiting r.settled;
}

pub work_next : (s : Sheet) (c : Cand) (old new : AgendaShape) → IsNext c old new → work s new.room (c ∷ new.waiting) ≡ work s old.room old.waiting
work_next s c old new n =
    let e : room s * (new.room + 1) ≡ room s * (old.room + 1) = ap (λ k. room s * (k + 1)) n.room in
    let f = ap (λ (q : List Cand). length q) n.waiting in
    omega arith

-- where no one waits the sheet is closed
pub closed_idle : (rules : List ℕ) (t : TaskShape) (b : Tables) (s : Sheet) (a : AgendaShape) → a.waiting ≡ [] → IsRunning rules t b s a a.waiting → IsClosed rules t b s
closed_idle rules t b s a e r =
    closed_where_all rules t b s r.formed
    (λ c there. elim (r.settled c there) [
      | inl k ↦ absurd (let f : has c a.waiting ≡ false = ap (λ q. has c q) e in cc)
      | inr k ↦ k
    ])

-- at first all wait
pub filled_running : (rules : List ℕ) (t : TaskShape) (b : Tables) (s : Sheet) (old new : AgendaShape) → FitsTask t b → IsFormed t s → length s.tokens ≤ 4200000000 → length s.tokens ≤ old.tokens → length t.actions ≤ old.acts →
    old.waiting ≡ [] → AreAsked rules t b s None (IsThere t s) old new → IsRunning rules t b s new new.waiting
filled_running rules t b s old new fit f few tokens acts idle h = record {
  fits = fit;
  formed = f;
  few = few;
  tokens = (let k = h.keeps.tokens in omega arith);
  acts = (let k = h.keeps.acts in omega arith);
  within = h.within (let k = ap (λ (q : List Cand). length q) idle in omega arith);
  there = record { there = λ d w. elim (h.only d w) [ inl k ↦ k | inr k ↦ absurd (let e : has d old.waiting ≡ false = ap (λ q. has d q) idle in cc) ] };
  settled = λ c there. elim (h.asked c there) [ inl e ↦ inl e | inr e ↦ absurd e ];
}

-- whom a decision does not stir has no step
stirred_closed : (rules : List ℕ) (t : TaskShape) (b : Tables) (s : Sheet) (d : Decision) (c : Cand) → IsFormed t s → IsLive s → IsClosed rules t b s → Fits s d → IsThere t (applied t s d) c →
    (StirredBy t (applied t s d) d c → ⊥) → IsClosedAt rules t b (applied t s d) c
stirred_closed rules t b s (Join x p y) c f live closed fits there none =
    decision_wakes rules t b s (Join x p y) (Take x p (Tok y)) c f live fits (refl, refl) (λ e. none (there, inl e)) (λ w. none (there, inr w)) (λ step r l lands. closed step r l)
stirred_closed rules t b s (Before x y) (Tok z) f live closed fits there none =
    decision_wakes rules t b s (Before x y) (Post x y) (Tok z) f live fits (refl, refl) (λ e. none (inl (tok_is x z e))) (λ w. none (inr w)) (λ step r l lands. closed step r l)
stirred_closed rules t b s (Before x y) (Out a) f live closed fits there none =
    decision_wakes rules t b s (Before x y) (Post x y) (Out a) f live fits (refl, refl) (λ e. cc) (λ w. w) (λ step r l lands. closed step r l)
stirred_closed rules t b s (Bring x p a) (Tok z) f live closed fits there none = absurd (none there)
stirred_closed rules t b s (Bring x p a) (Out o) f live closed fits there none =
    bring_wakes rules t b s x p a o f live fits (λ k. none (there, inl k)) (λ k. none (there, inr k)) (λ step r l lands. closed step r l)

-- after a decision those wait whom it stirs
pub stirred_running : (rules : List ℕ) (t : TaskShape) (b : Tables) (d : Decision) (u : Sheet) (old new : AgendaShape) → IsAfter rules t b d u → FitsTask t b → IsFormed t u → length u.tokens ≤ 4200000000 →
    length u.tokens ≤ old.tokens → length t.actions ≤ old.acts → old.waiting ≡ [] → AreAsked rules t b u None (StirredBy t u d) old new → IsRunning rules t b u new new.waiting
stirred_running rules t b d u old new after fit f few tokens acts idle h = record {
  fits = fit;
  formed = f;
  few = few;
  tokens = (let k = h.keeps.tokens in omega arith);
  acts = (let k = h.keeps.acts in omega arith);
  within = h.within (let k = ap (λ (q : List Cand). length q) idle in omega arith);
  there = record { there = λ c w. elim (h.only c w) [ inl k ↦ k | inr k ↦ absurd (let e : has c old.waiting ≡ false = ap (λ q. has c q) idle in cc) ] };
  settled = λ c there. elim (cases_Bool (has c new.waiting)) [ inl e ↦ inl e | inr e ↦ inr (closed_at c there (λ w. waits c e (h.asked c w))) ];
}
  where
    closed_at : (c : Cand) → IsThere t u c → (StirredBy t u d c → ⊥) → IsClosedAt rules t b u c
    closed_at =
        subst (λ (z : Sheet). (c : Cand) → IsThere t z c → (StirredBy t z d c → ⊥) → IsClosedAt rules t b z c) (sym after.after)
        (λ c. stirred_closed rules t b after.before d c after.formed after.live after.closed after.fits)

    waits : (c : Cand) → has c new.waiting ≡ false → IsAsked rules t b u None new c → ⊥
    waits c e a = elim a [ inl k ↦ absurd (cc) | inr k ↦ k ]

-- the tokens that a decision names are there after it
pub names_after : (t : TaskShape) (s u : Sheet) (d : Decision) → u ≡ applied t s d → Fits s d → IsFormed t s → NamesTokens u d
names_after t s u d e fits f = subst (λ (z : Sheet). NamesTokens z d) (sym e) (go d fits)
  where
    go : (d : Decision) → Fits s d → NamesTokens (applied t s d) d
    go (Join x p y) h = let l = cand_there s x p (Tok y) h in let k : length (applied t s (Join x p y)).tokens ≡ length s.tokens = length-set s.tokens x _ in omega arith
    go (Before x y) h = (h.first, h.second)
    go (Bring x p a) h = tt

-- after a mark the newest mark has the sheet
pub has_mark : (s : Sheet) (old ms ns : List Mark) → KeepsMarks (old ++ record { sheet = s; written = 0 } ∷ []) ms → KeepsMarks ms ns → HasMark s old ns
has_mark s old ms ns h k = go (marks_trans (old ++ record { sheet = s; written = 0 } ∷ []) ms ns h k)
  where
    go : KeepsMarks (old ++ record { sheet = s; written = 0 } ∷ []) ns → HasMark s old ns
    go (as_before e) = record { written = 0; marks = e }
    go (newest xs u m n e f) =
        let p = same_from_push old xs (record { sheet = s; written = 0 }) (record { sheet = u; written = m }) e in
        let a : u ≡ s = sym (ap (λ (z : Mark). z.sheet) p.1) in
        record { written = n; marks = f ∙ (ap (λ (z : List Mark). z ++ record { sheet = u; written = n } ∷ []) (sym p.0) ∙ ap (λ (z : Sheet). old ++ record { sheet = z; written = n } ∷ []) a) }

pub mark_count : (s : Sheet) (old ns : List Mark) (n : ℕ) → HasMark s old ns → n ≡ length old → n + 1 ≡ length ns
mark_count s old ns n h e =
    let k = ap (λ (z : List Mark). length z) h.marks in
    let m = length-append old (record { sheet = s; written = h.written } ∷ []) in
    omega arith

pub back_marks : (s : Sheet) (old : List Mark) (x y : StoreShape) (m n : ℕ) → HasMark s old x.marks → IsBack x y m n → y.marks ≡ old
back_marks s old x y m n h k = (same_from_push y.marks old k.mark (record { sheet = s; written = h.written }) (sym k.marks ∙ h.marks)).0

pub back_sheet : (s : Sheet) (old : List Mark) (x y : StoreShape) (m n : ℕ) → HasMark s old x.marks → IsBack x y m n → y.sheet ≡ s
back_sheet s old x y m n h k = k.sheet ∙ ap (λ (z : Mark). z.sheet) (same_from_push y.marks old k.mark (record { sheet = s; written = h.written }) (sym k.marks ∙ h.marks)).1

pub grown_back : (xs ys : List Step) (n : ℕ) → HasGrown xs ys → n ≡ length xs → take n ys ≡ xs
grown_back xs ys n h e = ap (λ z. take n z) h.all ∙ (ap (λ z. take z (xs ++ h.steps)) e ∙ take-append_seam xs h.steps)

pub applied_is : (t : TaskShape) (u v s : Sheet) (d : Decision) → u ≡ applied t v d → v ≡ s → u ≡ applied t s d
applied_is t u v s d e f = e ∙ ap (λ (z : Sheet). applied t z d) f

pub formed_applied : (t : TaskShape) (u s : Sheet) (d : Decision) → u ≡ applied t s d → Fits s d → IsFormed t s → IsFormed t u
formed_applied t u s d e fit f = subst (λ (z : Sheet). IsFormed t z) (sym e) (applied_formed t s d fit f)

pub count_applied : (t : TaskShape) (u s : Sheet) (d : Decision) (n : ℕ) → u ≡ applied t s d → length s.tokens + 1 ≤ n → length u.tokens ≤ n
count_applied t u s d n e l = let k = tokens_applied t s d in let m = ap (λ (z : Sheet). length z.tokens) e in omega arith

pub led_from : (rules : List ℕ) (t : TaskShape) (b : Tables) (s s' u : Sheet) (xs ys : List Step) → s ≡ s' → HasLed rules t b s u xs ys → HasLed rules t b s' u xs ys
led_from rules t b s s' u xs ys e h = subst (λ (z : Sheet). HasLed rules t b z u xs ys) e h

pub marks_from : (ls ls' ms : List Mark) → ls ≡ ls' → KeepsMarks ls ms → KeepsMarks ls' ms
marks_from ls ls' ms e h = subst (λ (z : List Mark). KeepsMarks z ms) e h
