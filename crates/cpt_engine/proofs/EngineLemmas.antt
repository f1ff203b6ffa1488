-- what always holds of an engine
use Rattle.std.proofs.Common.{◌≡◌, ℕ, ◌+◌, ◌-◌, ◌≤◌, ◌<◌, List, [], ◌∷◌, ◌++◌, length, take, Option, Some, None, refl, sym, ◌∙◌, ap, subst, arith, length-append}
use Rattle.std.proofs.lemmas.List.{same_from_push}
use Rattle.std.proofs.Math.Seq.{take-append_seam, get_or-append_seam}
use Rattle.std.proofs.Common.{get_or, drop, length-drop}
use Rattle.cpt_task.specs.Shape.{TaskShape}
use Rattle.cpt_tables.specs.declared.tables.Tables.{Tables}
use Rattle.cpt_sheet.specs.declared.data.Sheet.{Sheet}
use Rattle.cpt_sheet.specs.declared.data.Step.{Step}
use Rattle.cpt_sheet.specs.declared.data.Decision.{Decision}
use Rattle.cpt_sheet.specs.Formed.{IsFormed}
use Rattle.cpt_sheet.specs.Gaps.{FitsTask}
use Rattle.cpt_calculus.specs.Closing.{ClosesTo, IsClosed, IsFresh}
use Rattle.cpt_calculus.specs.Closing.IsFresh.{at_root, decided}
use Rattle.cpt_calculus.specs.Decisions.{Fits, applied}
use Rattle.cpt_calculus.specs.Root.{root_of}
use Rattle.cpt_calculus.proofs.ApplyFormed.{applied_formed}
use Rattle.cpt_calculus.proofs.Confluence.{closes_live, closes_dead}
use Rattle.cpt_steps.specs.Tight.{RunsTight}
use Rattle.cpt_steps.proofs.RunLemmas.{tight_runs_lead}
use Rattle.cpt_store.specs.Stores.{Mark, StoreShape, IsBack}
use Rattle.cpt_store.proofs.HeldLemmas.{tokens_applied}
use Rattle.cpt_engine.specs.declared.state.State.{State}
use Rattle.cpt_engine.specs.declared.state.State.TheVariants.{Alive, Dead}
use Rattle.cpt_engine.specs.Engines.HasPast.{none, more}
use Rattle.cpt_engine.specs.Engines.IsBeginning.{here, after}
use Rattle.cpt_engine.specs.Engines.{EngineShape, IsOutcome, IsReached, HasPast, Stands, IsRetracted, IsDecided, RetractionsGiveBack}
use Rattle.cpt_engine.specs.Running.{HasLed, HasGrown, HasMark, IsSettledAs}

outcome_of : (state : State) (rules : List ℕ) (t : TaskShape) (b : Tables) (bound : ℕ) (ds : List Decision) (s u : Sheet) (steps : List Step) →
    ((r : Option Sheet) → ClosesTo rules t b s r → IsFresh rules t b bound ds r) → IsFormed t s → RunsTight rules t b s steps u → IsSettledAs state rules t b u → IsOutcome state rules t b bound ds u
outcome_of Alive rules t b bound ds s u steps fresh f l h = (h.0, fresh (Some u) (closes_live rules t b steps s u f (tight_runs_lead rules t b s u steps l) h.0 h.1))
outcome_of Dead rules t b bound ds s u steps fresh f l h = (h, fresh None (closes_dead rules t b steps s u (tight_runs_lead rules t b s u steps l) h))

pub stands_open : (rules : List ℕ) (e : EngineShape) → FitsTask e.task e.tables → e.bound ≤ 1000000 → IsFormed e.task (root_of e.task e.tables e.bound) → e.decisions ≡ [] → e.starts ≡ [] → e.marks ≡ [] →
    HasLed rules e.task e.tables (root_of e.task e.tables e.bound) e.sheet [] e.all_steps → IsSettledAs e.state rules e.task e.tables e.sheet → Stands rules e
stands_open rules e fit limit f ds starts marks led h = record {
  fits = fit;
  limit = limit;
  past = [];
  now = led.steps;
  all = led.all;
  history = none e.decisions e.starts [] e.marks ds starts refl marks;
  reached = record {
    from = root_of e.task e.tables e.bound;
    begins = here ds refl;
    leads = led.leads;
    formed = led.formed;
    few = (let k : length e.sheet.tokens ≡ 2 = led.tokens in omega arith);
    outcome = outcome_of e.state rules e.task e.tables e.bound e.decisions (root_of e.task e.tables e.bound) e.sheet led.steps
        (λ r c. subst (λ z. IsFresh rules e.task e.tables e.bound z r) (sym ds) (at_root r c)) f led.leads h;
  };
}

pub stands_decided : (rules : List ℕ) (e : EngineShape) (d : Decision) (ds : List Decision) (ns : List ℕ) (xs : List Step) (u : Sheet) (ms : List Mark) (state : State) (k : ℕ) → Stands rules e → e.state ≡ Alive →
    Fits e.sheet d → length e.sheet.tokens < 4200000000 → ds ≡ e.decisions ++ d ∷ [] → ns ≡ e.starts ++ length e.all_steps ∷ [] → HasMark e.sheet e.marks ms →
    HasLed rules e.task e.tables (applied e.task e.sheet d) u e.all_steps xs → IsSettledAs state rules e.task e.tables u →
    Stands rules (record { task = e.task; tables = e.tables; bound = e.bound; decisions = ds; starts = ns; all_steps = xs; sheet = u; marks = ms; state = state; used = k })
stands_decided rules e d ds ns xs u ms state k h alive fits few eds ens mark led settled = record {
  fits = h.fits;
  limit = h.limit;
  past = e.all_steps;
  now = led.steps;
  all = led.all;
  history = more ds ns e.all_steps ms e.decisions d e.starts h.past h.now e.marks (record { sheet = e.sheet; written = mark.written }) eds ens h.all mark.marks h.history live fits;
  reached = record {
    from = applied e.task e.sheet d;
    begins = after e.decisions d e.sheet eds live.outcome.1 fits refl;
    leads = led.leads;
    formed = led.formed;
    few = (let a = tokens_applied e.task e.sheet d in let c = led.tokens in omega arith);
    outcome = outcome_of state rules e.task e.tables e.bound ds (applied e.task e.sheet d) u led.steps
        (λ r c. subst (λ z. IsFresh rules e.task e.tables e.bound z r) (sym eds) (decided e.decisions e.sheet d r live.outcome.1 fits c)) (applied_formed e.task e.sheet d fits h.reached.formed) led.leads settled;
  };
}
  where
    live : IsReached Alive rules e.task e.tables e.bound e.decisions h.now e.sheet
    live = subst (λ z. IsReached z rules e.task e.tables e.bound e.decisions h.now e.sheet) alive h.reached

empty : {A : Type 0} (xs : List A) (x : A) → [] ≡ xs ++ x ∷ [] → ⊥
empty [] x e = cc
empty (y ∷ ys) x e = cc

-- the newest decision, with what was before it
pub record IsLast (rules : List ℕ) (t : TaskShape) (b : Tables) (bound : ℕ) (ds : List Decision) (ns : List ℕ) (start : ℕ) (past : List Step) (marks : List Mark) : Type 0 where
  pub front : List Decision
  pub decision : Decision
  pub earlier : List Step
  pub steps : List Step
  pub lower : List Mark
  pub mark : Mark
  pub ds_is : ds ≡ front ++ decision ∷ []
  pub start_is : start ≡ length past
  pub past_is : past ≡ earlier ++ steps
  pub marks_is : marks ≡ lower ++ mark ∷ []
  pub history : HasPast rules t b bound front ns earlier lower
  pub reached : IsReached Alive rules t b bound front steps mark.sheet

pub last_of : (rules : List ℕ) (t : TaskShape) (b : Tables) (bound : ℕ) (ds : List Decision) (starts ns : List ℕ) (start : ℕ) (past : List Step) (marks : List Mark) →
    HasPast rules t b bound ds starts past marks → starts ≡ ns ++ start ∷ [] → IsLast rules t b bound ds ns start past marks
last_of rules t b bound ds starts ns start past marks (none es ss ps ms a c d f) e = absurd (empty ns start (sym c ∙ e))
last_of rules t b bound ds starts ns start past marks (more fs ss ps ms es d os before steps ls m a c f g h r fit) e =
    let p = same_from_push ns os start (length past) (sym e ∙ c) in
    record {
      front = es;
      decision = d;
      earlier = before;
      steps = steps;
      lower = ls;
      mark = m;
      ds_is = a;
      start_is = p.1;
      past_is = f;
      marks_is = g;
      history = subst (λ z. HasPast rules t b bound es z before ls) (sym p.0) h;
      reached = r;
    }

pub counts : (rules : List ℕ) (t : TaskShape) (b : Tables) (bound : ℕ) (ds : List Decision) (starts : List ℕ) (past : List Step) (marks : List Mark) → HasPast rules t b bound ds starts past marks →
    length starts ≡ length marks
counts rules t b bound ds starts past marks (none es ss ps ms a c d f) = ap (λ (z : List ℕ). length z) c ∙ sym (ap (λ (z : List Mark). length z) f)
counts rules t b bound ds starts past marks (more fs ss ps ms es d os before steps ls m a c f g h r fit) =
    let k = counts rules t b bound es os before ls h in
    let x = ap (λ (z : List ℕ). length z) c in
    let y = ap (λ (z : List Mark). length z) g in
    let v = length-append os (length past ∷ []) in
    let w = length-append ls (m ∷ []) in
    omega arith

pub count_marks : (rules : List ℕ) (e : EngineShape) (ns : List ℕ) (start n : ℕ) → Stands rules e → e.starts ≡ ns ++ start ∷ [] → n ≡ length ns → n + 1 ≡ length e.marks
count_marks rules e ns start n h q l =
    let k = counts rules e.task e.tables e.bound e.decisions e.starts h.past e.marks h.history in
    let x = ap (λ (z : List ℕ). length z) q in
    let v = length-append ns (start ∷ []) in
    omega arith

module _ (rules : List ℕ) (e : EngineShape) (ns : List ℕ) (start : ℕ) (ds : List Decision) (xs : List Step) (x y : StoreShape) (m n : ℕ) (h : Stands rules e) (q : e.starts ≡ ns ++ start ∷ []) where
  last : IsLast rules e.task e.tables e.bound e.decisions ns start h.past e.marks
  last = last_of rules e.task e.tables e.bound e.decisions e.starts ns start h.past e.marks h.history q

  fronts : ds ≡ take (length e.decisions - 1) e.decisions → ds ≡ last.front
  fronts r =
      let a = ap (λ (z : List Decision). length z) last.ds_is in
      let c = length-append last.front (last.decision ∷ []) in
      let k : length e.decisions - 1 ≡ length last.front = omega arith in
      r ∙ (ap (λ z. take z e.decisions) k ∙ (ap (λ z. take (length last.front) z) last.ds_is ∙ take-append_seam last.front (last.decision ∷ [])))

  backs : xs ≡ take start e.all_steps → xs ≡ last.earlier ++ last.steps
  backs r = r ∙ (ap (λ z. take z e.all_steps) last.start_is ∙ (ap (λ z. take (length h.past) z) h.all ∙ (take-append_seam h.past h.now ∙ last.past_is)))

  pub stands_retracted : ds ≡ take (length e.decisions - 1) e.decisions → xs ≡ take start e.all_steps → x.marks ≡ e.marks → IsBack x y m n →
      Stands rules (record { task = e.task; tables = e.tables; bound = e.bound; decisions = ds; starts = ns; all_steps = xs; sheet = y.sheet; marks = y.marks; state = Alive; used = e.used })
  stands_retracted r z k back =
      let p = same_from_push y.marks last.lower back.mark last.mark (sym back.marks ∙ (k ∙ last.marks_is)) in
      let s : y.sheet ≡ last.mark.sheet = back.sheet ∙ ap (λ (w : Mark). w.sheet) p.1 in
      record {
        fits = h.fits;
        limit = h.limit;
        past = last.earlier;
        now = last.steps;
        all = backs z;
        history = subst (λ w. HasPast rules e.task e.tables e.bound w ns last.earlier y.marks) (sym (fronts r))
            (subst (λ w. HasPast rules e.task e.tables e.bound last.front ns last.earlier w) (sym p.0) last.history);
        reached = subst (λ w. IsReached Alive rules e.task e.tables e.bound w last.steps y.sheet) (sym (fronts r))
            (subst (λ w. IsReached Alive rules e.task e.tables e.bound last.front last.steps w) (sym s) last.reached);
      }

  pub retracted : ds ≡ take (length e.decisions - 1) e.decisions → xs ≡ take start e.all_steps → x.marks ≡ e.marks → IsBack x y m n →
      IsRetracted e (record { task = e.task; tables = e.tables; bound = e.bound; decisions = ds; starts = ns; all_steps = xs; sheet = y.sheet; marks = y.marks; state = Alive; used = e.used }) m n
  retracted r z k back = record {
    decision = last.decision;
    start = start;
    mark = back.mark;
    task = refl;
    tables = refl;
    bound = refl;
    decisions = last.ds_is ∙ ap (λ w. w ++ last.decision ∷ []) (sym (fronts r));
    starts = q;
    marks = sym k ∙ back.marks;
    sheet = back.sheet;
    state = refl;
    used = refl;
    steps = z;
    ticks = back.ticks;
  }

pub none_standing : (rules : List ℕ) (e : EngineShape) → Stands rules e → e.starts ≡ [] → e.decisions ≡ []
none_standing rules e h q = go e.decisions e.starts h.past e.marks h.history q
  where
    go : (ds : List Decision) (ns : List ℕ) (past : List Step) (ms : List Mark) → HasPast rules e.task e.tables e.bound ds ns past ms → ns ≡ [] → ds ≡ []
    go ds ns past ms (none es ss ps ls a c d f) k = a
    go ds ns past ms (more fs ss ps ks es d os before steps ls m a c f g i r fit) k = absurd (empty os (length past) (sym k ∙ c))

nothing : (xs : List ℕ) → length xs ≡ 0 → xs ≡ []
nothing [] e = refl
nothing (x ∷ xs) e = absurd (omega arith)

append_nothing : (xs : List ℕ) → xs ++ [] ≡ xs
append_nothing [] = refl
append_nothing (x ∷ xs) = ap (λ z. x ∷ z) (append_nothing xs)

pub no_starts : (xs ys : List ℕ) (n : ℕ) → xs ≡ ys ++ [] → n ≡ 0 → n ≡ length xs → (xs ≡ []) × (ys ≡ xs)
no_starts xs ys n e z l = (nothing xs (omega arith), sym (e ∙ append_nothing ys))

pub unchanged : (e f : EngineShape) (ns : List ℕ) → e ≡ f → ns ≡ e.starts → (let z : EngineShape = record e { starts = ns } in z) ≡ f
unchanged e f ns g h = ap (λ (k : List ℕ). let z : EngineShape = record e { starts = k } in z) h ∙ g

pub mark_from : (s u : Sheet) (ms os ns : List Mark) → s ≡ u → ms ≡ os → HasMark s ms ns → HasMark u os ns
mark_from s u ms os ns e f h = subst (λ (z : Sheet). HasMark z os ns) e (subst (λ (z : List Mark). HasMark s z ns) f h)

pub led_applied : (rules : List ℕ) (t : TaskShape) (b : Tables) (s v u : Sheet) (d : Decision) (xs ys : List Step) → s ≡ v → HasLed rules t b (applied t s d) u xs ys → HasLed rules t b (applied t v d) u xs ys
led_applied rules t b s v u d xs ys e h = subst (λ (z : Sheet). HasLed rules t b (applied t z d) u xs ys) e h

pub retracted_of : (rules : List ℕ) (e f : EngineShape) (ns : List ℕ) (start : ℕ) (ds : List Decision) (xs : List Step) (x y : StoreShape) (m n : ℕ) → Stands rules e → e.starts ≡ ns ++ start ∷ [] → e ≡ f →
    ds ≡ take (length e.decisions - 1) e.decisions → xs ≡ take start e.all_steps → x.marks ≡ e.marks → IsBack x y m n →
    IsRetracted f (record { task = e.task; tables = e.tables; bound = e.bound; decisions = ds; starts = ns; all_steps = xs; sheet = y.sheet; marks = y.marks; state = Alive; used = e.used }) m n
retracted_of rules e f ns start ds xs x y m n h q same r z k back =
    subst (λ (w : EngineShape). IsRetracted w (record { task = e.task; tables = e.tables; bound = e.bound; decisions = ds; starts = ns; all_steps = xs; sheet = y.sheet; marks = y.marks; state = Alive; used = e.used }) m n) same
    (retracted rules e ns start ds xs x y m n h q r z k back)

start_is : (rules : List ℕ) (t : TaskShape) (b : Tables) (bound : ℕ) (ds : List Decision) (starts : List ℕ) (past : List Step) (marks : List Mark) → HasPast rules t b bound ds starts past marks →
    get_or starts (length starts - 1) 0 ≡ length past
start_is rules t b bound ds starts past marks (none es ss ps ms a c d f) = ap (λ (z : List ℕ). get_or z (length z - 1) 0) c ∙ sym (ap (λ (z : List Step). length z) d)
start_is rules t b bound ds starts past marks (more fs ss ps ms es d os before steps ls m a c f g h r fit) =
    let k : length (os ++ length past ∷ []) - 1 ≡ length os = let e = length-append os (length past ∷ []) in omega arith in
    ap (λ (z : List ℕ). get_or z (length z - 1) 0) c ∙ (ap (λ (n : ℕ). get_or (os ++ length past ∷ []) n 0) k ∙ get_or-append_seam os (length past) [] 0)

drop_seam : (xs ys : List Step) → drop (length xs) (xs ++ ys) ≡ ys
drop_seam [] ys = refl
drop_seam (x ∷ xs) ys = drop_seam xs ys

pub start_within : (rules : List ℕ) (e : EngineShape) (n : ℕ) → Stands rules e → n ≡ get_or e.starts (length e.starts - 1) 0 → n ≤ length e.all_steps
start_within rules e n h q =
    let k = start_is rules e.task e.tables e.bound e.decisions e.starts h.past e.marks h.history in
    let a = ap (λ (z : List Step). length z) h.all in
    let c = length-append h.past h.now in
    omega arith

pub newest_steps : (rules : List ℕ) (e f : EngineShape) (n : ℕ) (ss : List Step) → Stands rules e → e ≡ f → n ≡ get_or e.starts (length e.starts - 1) 0 → ss ≡ drop n e.all_steps →
    IsReached f.state rules f.task f.tables f.bound f.decisions ss f.sheet
newest_steps rules e f n ss h same q r =
    let k = q ∙ start_is rules e.task e.tables e.bound e.decisions e.starts h.past e.marks h.history in
    let s : ss ≡ h.now = r ∙ (ap (λ z. drop z e.all_steps) k ∙ (ap (λ z. drop (length h.past) z) h.all ∙ drop_seam h.past h.now)) in
    subst (λ (w : EngineShape). IsReached w.state rules w.task w.tables w.bound w.decisions ss w.sheet) same
    (subst (λ z. IsReached e.state rules e.task e.tables e.bound e.decisions z e.sheet) (sym s) h.reached)

take_full : (xs : List Step) → take (length xs) xs ≡ xs
take_full [] = refl
take_full (x ∷ xs) = ap (λ z. x ∷ z) (take_full xs)

pub rest_of : (n : ℕ) (xs ys : List Step) → xs ≡ ys → take (length xs - n) (drop n xs) ≡ drop n ys
rest_of n xs ys e = subst (λ (z : List Step). take (length xs - n) (drop n xs) ≡ drop n z) e (subst (λ k. take k (drop n xs) ≡ drop n xs) (length-drop n xs) (take_full (drop n xs)))

pub give_back : RetractionsGiveBack
give_back e f g d s m n alive h k =
    let p = same_from_push e.decisions g.decisions d k.decision (sym h.decisions ∙ k.decisions) in
    let q = same_from_push e.starts g.starts (length e.all_steps) k.start (sym h.starts ∙ k.starts) in
    let r = same_from_push e.marks g.marks (record { sheet = e.sheet; written = h.marks.written }) k.mark (sym h.marks.marks ∙ k.marks) in
    record {
      task = k.task ∙ h.task;
      tables = k.tables ∙ h.tables;
      at_bound = k.bound ∙ h.bound;
      decisions = sym p.0;
      starts = sym q.0;
      steps = k.steps ∙ (ap (λ z. take z f.all_steps) (sym q.1) ∙ (ap (λ z. take (length e.all_steps) z) h.steps.all ∙ take-append_seam e.all_steps h.steps.steps));
      sheet = k.sheet ∙ sym (ap (λ (z : Mark). z.sheet) r.1);
      marks = sym r.0;
      state = k.state ∙ sym alive;
    }

-- the sheet computed afresh is closed
closed_fresh : (rules : List ℕ) (t : TaskShape) (b : Tables) (bound : ℕ) (ds : List Decision) (r : Option Sheet) (u : Sheet) → IsFresh rules t b bound ds r → r ≡ Some u → IsClosed rules t b u
closed_fresh rules t b bound ds r u (at_root o c) e = (let k : ClosesTo rules t b (root_of t b bound) (Some u) = subst (λ z. ClosesTo rules t b (root_of t b bound) z) e c in k.end.closed)
closed_fresh rules t b bound ds r u (decided es s d o f fit c) e = (let k : ClosesTo rules t b (applied t s d) (Some u) = subst (λ z. ClosesTo rules t b (applied t s d) z) e c in k.end.closed)

-- the sheet of an engine that is alive is live and closed
pub stands_closed : (rules : List ℕ) (e : EngineShape) → Stands rules e → e.state ≡ Alive → IsSettledAs Alive rules e.task e.tables e.sheet
stands_closed rules e h alive =
    let live : IsOutcome Alive rules e.task e.tables e.bound e.decisions e.sheet = subst (λ z. IsOutcome z rules e.task e.tables e.bound e.decisions e.sheet) alive h.reached.outcome in
    (live.0, closed_fresh rules e.task e.tables e.bound e.decisions (Some e.sheet) e.sheet live.1 refl)

-- the parts of a decision
pub decided_parts : (e : EngineShape) (d : Decision) (ds : List Decision) (ns : List ℕ) (xs : List Step) (u : Sheet) (ms : List Mark) (state : State) (f : EngineShape) → e ≡ f →
    ds ≡ e.decisions ++ d ∷ [] → ns ≡ e.starts ++ length e.all_steps ∷ [] → HasMark e.sheet e.marks ms → HasGrown e.all_steps xs →
    IsDecided f d state (record { task = e.task; tables = e.tables; bound = e.bound; decisions = ds; starts = ns; all_steps = xs; sheet = u; marks = ms; state = state; used = e.used + 1 })
decided_parts e d ds ns xs u ms state f same a b c g =
    subst (λ (w : EngineShape). IsDecided w d state (record { task = e.task; tables = e.tables; bound = e.bound; decisions = ds; starts = ns; all_steps = xs; sheet = u; marks = ms; state = state; used = e.used + 1 })) same
    (record { task = refl; tables = refl; bound = refl; decisions = a; starts = b; steps = g; marks = c; state = refl; used = refl })

pub grown_of : (rules : List ℕ) (t : TaskShape) (b : Tables) (s u : Sheet) (xs ys : List Step) → HasLed rules t b s u xs ys → HasGrown xs ys
grown_of rules t b s u xs ys h = record { steps = h.steps; all = h.all }
