-- legal steps that end closed end in the same sheet
use Rattle.std.proofs.Common.{◌≡◌, ◌≢◌, ℕ, ◌≤◌, ◌<◌, List, [], ◌∷◌, Bool, true, false, ◌&&◌, ◌==◌, if◌then◌else◌, get_or, refl, sym, ◌∙◌, ap, subst, arith, inl, inr, Some, None, Option}
use Rattle.std.specs.List.{All, AllZip}
use Rattle.std.proofs.lemmas.Bool.{false_from_ne_true, true_from_ne_false, or_cases, or_right, and_parts, eqb-true}
use Rattle.std.proofs.lemmas.List.Elements.{AllZip-get_or, length_all_zip, All-contains}
use Rattle.cpt_task.specs.declared.span.Span.{Span}
use Rattle.cpt_task.specs.declared.span.Span.TheVariants.{At, Never}
use Rattle.cpt_task.specs.Shape.{TaskShape}
use Rattle.cpt_tables.specs.declared.tables.Tables.{Tables}
use Rattle.cpt_tables.specs.Spans.{◌≤ˢ◌, ◌<ˢ◌}
use Rattle.cpt_tables.proofs.SpanLemmas.{le_refl, le_trans, le_cases, le_antisym, lt_not_le}
use Rattle.cpt_sheet.specs.declared.data.Cand.{Cand}
use Rattle.cpt_sheet.specs.declared.data.Cand.TheVariants.{Tok, Out}
use Rattle.cpt_sheet.specs.declared.data.Kind.{Kind}
use Rattle.cpt_sheet.specs.declared.data.Interval.{Interval}
use Rattle.cpt_sheet.specs.declared.data.Need.{Need}
use Rattle.cpt_sheet.specs.declared.data.Token.{Token}
use Rattle.cpt_sheet.specs.declared.data.Sheet.{Sheet}
use Rattle.cpt_sheet.specs.declared.data.Step.{Step}
use Rattle.cpt_sheet.specs.declared.data.Change.{Change}
use Rattle.cpt_sheet.specs.declared.data.Change.TheVariants.{Raise, Lower, Take, Post}
use Rattle.cpt_sheet.specs.View.{lo, hi, span_of, before, has, list_for, token_at, no_token, no_span}
use Rattle.cpt_sheet.specs.Edits.{changed, with_span, with_token, without, revised, moment_or}
use Rattle.cpt_sheet.specs.Live.{IsLive, IsLiveToken, IsDead, IsDeadToken}
use Rattle.cpt_sheet.specs.Formed.{IsFormed}
use Rattle.cpt_sheet.specs.Below.{Part, IntervalBelow, NeedBelow, TokenBelow, IsBelowSheet}
use Rattle.cpt_calculus.specs.Rules.{Moves, change_of, narrowed}
use Rattle.cpt_calculus.specs.Closing.{Leads, IsClosed, ClosesTo}
use Rattle.cpt_calculus.proofs.Parts.{Part-trans, Part-without, Part-kept, Part-nil, Part-full, Part-length}
use Rattle.cpt_calculus.proofs.Zips.{zip_refl, zip_trans, zip_antisym, zip_set, zip_set_right}
use Rattle.cpt_calculus.proofs.Orders.{orders_same}
use Rattle.cpt_calculus.proofs.Below.{interval_refl, need_refl, token_refl, list_cons, token_below, span_below, order_posted}
use Rattle.cpt_calculus.proofs.Monotone.{step_mono, same_change}
use Rattle.cpt_calculus.proofs.Keeps.{step_formed}

pub Below-refl : (s : Sheet) → IsBelowSheet s s
Below-refl s = record {
  bound = refl;
  tokens = zip_refl TokenBelow token_refl s.tokens;
  outs = zip_refl IntervalBelow interval_refl s.outs;
  orders = λ x y h. h;
}

interval_trans : (i j k : Interval) → IntervalBelow i j → IntervalBelow j k → IntervalBelow i k
interval_trans i j k h l = (le_trans i.lo j.lo k.lo h.0 l.0, omega arith)

need_trans : (l m n : Need) → NeedBelow l m → NeedBelow m n → NeedBelow l n
need_trans l m n h k = (k.0 ∙ h.0, Part-trans k.1 h.1)

token_trans : (t u v : Token) → TokenBelow t u → TokenBelow u v → TokenBelow t v
token_trans t u v h k = (k.0 ∙ h.0, interval_trans t.span u.span v.span h.1 k.1, zip_trans NeedBelow need_trans t.lists u.lists v.lists h.2 k.2)

pub Below-trans : (a b c : Sheet) → IsBelowSheet a b → IsBelowSheet b c → IsBelowSheet a c
Below-trans a b c h k = record {
  bound = k.bound ∙ h.bound;
  tokens = zip_trans TokenBelow token_trans a.tokens b.tokens c.tokens h.tokens k.tokens;
  outs = zip_trans IntervalBelow interval_trans a.outs b.outs c.outs h.outs k.outs;
  orders = λ x y e. k.orders x y (h.orders x y e);
}

-- needs that lack a candidate in one list
needs_keep : (p : ℕ) (c : Cand) (ns ms : List Need) → AllZip NeedBelow ns ms → has c (list_for p ms) ≡ false → AllZip NeedBelow (revised p (without c) ns) ms
needs_keep p c [] [] h e = tt
needs_keep p c [] (m ∷ ms) h e = absurd h
needs_keep p c (n ∷ ns) [] h e = absurd h
needs_keep p c (n ∷ ns) (m ∷ ms) h e =
    go (n.atom == p) (subst (λ z. has c (if z == p then m.cands else list_for p ms) ≡ false) h.0.0 (subst (λ l. has c l ≡ false) (list_cons p m ms) e)) (λ k. needs_keep p c ns ms h.1 k)
  where
    go : (t : Bool) → has c (if t then m.cands else list_for p ms) ≡ false → (has c (list_for p ms) ≡ false → AllZip NeedBelow (revised p (without c) ns) ms) →
        AllZip NeedBelow (if t then (record n { cands = without c n.cands } ∷ ns) else (n ∷ revised p (without c) ns)) (m ∷ ms)
    go true k ih = ((h.0.0, Part-kept c h.0.1 k), h.1)
    go false k ih = (h.0, ih k)

needs_down : (p : ℕ) (c : Cand) (ns : List Need) → AllZip NeedBelow ns (revised p (without c) ns)
needs_down p c [] = tt
needs_down p c (n ∷ ns) =
    elim (n.atom == p) as (λ t. AllZip NeedBelow (n ∷ ns) (if t then (record n { cands = without c n.cands } ∷ ns) else (n ∷ revised p (without c) ns)))
    [ true ↦ ((refl, Part-without c n.cands), zip_refl NeedBelow need_refl ns) | false ↦ (need_refl n, needs_down p c ns) ]

-- a change that does not move b keeps b below
keep_token : (a b : Sheet) (x : ℕ) (t : Token) → IsBelowSheet a b → TokenBelow t (token_at b x) → IsBelowSheet (with_token a x t) b
keep_token a b x t h r = record { bound = h.bound; tokens = zip_set TokenBelow no_token t a.tokens b.tokens x h.tokens r; outs = h.outs; orders = h.orders }

keep_span : (a b : Sheet) (c : Cand) (i : Interval) → IsBelowSheet a b → IntervalBelow i (span_of b c) → IsBelowSheet (with_span a c i) b
keep_span a b (Tok x) i h r = let k = token_below a b h x in keep_token a b x (record (token_at a x) { span = i }) h (k.0, r, k.2)
keep_span a b (Out y) i h r = record { bound = h.bound; tokens = h.tokens; outs = zip_set IntervalBelow no_span i a.outs b.outs y h.outs r; orders = h.orders }

keep_low : (s : Sheet) (c : Cand) (v : Span) (n : ℕ) → hi s c ≤ n → ¬ (v <ˢ At (hi s c)) → hi s c ≤ moment_or v n
keep_low s c (At m) n le h = elim (le_cases (At (hi s c)) (At m)) [ inl k ↦ k | inr k ↦ absurd (h k) ]
keep_low s c Never n le h = le

pub keep : (a b : Sheet) (ch : Change) → IsBelowSheet a b → ¬ (Moves b ch) → IsBelowSheet (changed a ch) b
keep a b (Raise c v) h n =
    keep_span a b c (record (span_of a c) { lo = v }) h (elim (le_cases v (lo b c)) [ inl k ↦ k | inr k ↦ absurd (n k) ], (span_below a b h c).1)
keep a b (Lower c v) h n =
    keep_span a b c (record (span_of a c) { hi = moment_or v (hi a c) }) h ((span_below a b h c).0, keep_low b c v (hi a c) (span_below a b h c).1 n)
keep a b (Take x p c) h n =
    let k = token_below a b h x in
    keep_token a b x (record (token_at a x) { lists = revised p (without c) (token_at a x).lists }) h
    (k.0, k.1, needs_keep p c (token_at a x).lists (token_at b x).lists k.2 (false_from_ne_true _ n))
keep a b (Post x y) h n = record {
  bound = h.bound;
  tokens = h.tokens;
  outs = h.outs;
  orders = λ u v e. elim (or_cases ((x == u) && (y == v)) (before a u v) (sym (order_posted x y u v a.orders) ∙ e)) [
    | inl k ↦ let m = and_parts (x == u) (y == v) k in subst (λ z. before b z v ≡ true) (eqb-true x u m.0) (subst (λ z. before b x z ≡ true) (eqb-true y v m.1) (true_from_ne_false (before b x y) n))
    | inr k ↦ h.orders u v k
  ];
}

-- a change that moves a leads below a
down_token : (a : Sheet) (x : ℕ) (t : Token) → TokenBelow (token_at a x) t → IsBelowSheet a (with_token a x t)
down_token a x t r = record {
  bound = refl;
  tokens = zip_set_right TokenBelow no_token t a.tokens a.tokens x (zip_refl TokenBelow token_refl a.tokens) r;
  outs = zip_refl IntervalBelow interval_refl a.outs;
  orders = λ u v e. e;
}

down_span : (a : Sheet) (c : Cand) (i : Interval) → IntervalBelow (span_of a c) i → IsBelowSheet a (with_span a c i)
down_span a (Tok x) i r = down_token a x (record (token_at a x) { span = i }) (refl, r, zip_refl NeedBelow need_refl (token_at a x).lists)
down_span a (Out y) i r = record {
  bound = refl;
  tokens = zip_refl TokenBelow token_refl a.tokens;
  outs = zip_set_right IntervalBelow no_span i a.outs a.outs y (zip_refl IntervalBelow interval_refl a.outs) r;
  orders = λ u v e. e;
}

lt_le : (a b : Span) → a <ˢ b → a ≤ˢ b
lt_le a b h = elim (le_cases a b) [ inl k ↦ k | inr k ↦ lt_weak a b h ]
  where
    lt_weak : (a b : Span) → a <ˢ b → a ≤ˢ b
    lt_weak (At m) (At n) k = omega arith
    lt_weak (At m) Never k = tt
    lt_weak Never n k = absurd k

down_low : (s : Sheet) (c : Cand) (v : Span) → v <ˢ At (hi s c) → moment_or v (hi s c) ≤ hi s c
down_low s c (At m) h = omega arith
down_low s c Never h = omega arith

pub down : (a : Sheet) (ch : Change) → Moves a ch → IsBelowSheet a (changed a ch)
down a (Raise c v) m = down_span a c (record (span_of a c) { lo = v }) (lt_le (lo a c) v m, omega arith)
down a (Lower c v) m = down_span a c (record (span_of a c) { hi = moment_or v (hi a c) }) (le_refl (lo a c), down_low a c v m)
down a (Take x p c) m =
    down_token a x (record (token_at a x) { lists = revised p (without c) (token_at a x).lists })
    (refl, interval_refl (token_at a x).span, needs_down p c (token_at a x).lists)
down a (Post x y) m = record {
  bound = refl;
  tokens = zip_refl TokenBelow token_refl a.tokens;
  outs = zip_refl IntervalBelow interval_refl a.outs;
  orders = λ u v e. order_posted x y u v a.orders ∙ or_right ((x == u) && (y == v)) (before a u v) e;
}

-- what lies above a live sheet is live
needs_above : (ns ms : List Need) → AllZip NeedBelow ns ms → All (λ m. m.cands ≢ []) ms → All (λ n. n.cands ≢ []) ns
needs_above ns ms h l k d i e =
    let r : NeedBelow (get_or ns k d) (get_or ms k d) = AllZip-get_or NeedBelow ns ms k d d h i in
    l k d (subst (λ n. k < n) (length_all_zip NeedBelow ns ms h) i) (Part-nil (get_or ms k d).cands (subst (λ z. Part (get_or ms k d).cands z) e r.1))

pub live_above : (a b : Sheet) → IsBelowSheet a b → IsLive b → IsLive a
live_above a b h l k d i =
    let t = get_or a.tokens k d in let u = get_or b.tokens k d in
    let r : TokenBelow t u = AllZip-get_or TokenBelow a.tokens b.tokens k d d h.tokens i in
    let live : IsLiveToken u = l k d (subst (λ n. k < n) (length_all_zip TokenBelow a.tokens b.tokens h.tokens) i) in (
      le_trans t.span.lo u.span.lo (At t.span.hi) r.1.0 (le_trans u.span.lo (At u.span.hi) (At t.span.hi) live.0 r.1.1),
      needs_above t.lists u.lists r.2 live.1,
    )

dead_token : (z : Token) → IsDeadToken z → IsLiveToken z → ⊥
dead_token z (inl h) l = lt_not_le (At z.span.hi) z.span.lo h l.0
dead_token z (inr h) l = All-contains (λ n. n.cands ≢ []) z.lists h.0 l.1 h.1 h.2

-- a dead sheet is not live
pub dead_not_live : (s : Sheet) → IsDead s → IsLive s → ⊥
dead_not_live s h l = dead_token h.0 h.2 (All-contains IsLiveToken s.tokens h.0 l h.1)

-- sheets that lie below each other agree but for the list of orders
interval_same : (i j : Interval) → IntervalBelow i j → IntervalBelow j i → i ≡ j
interval_same i j h k = let e = le_antisym i.lo j.lo h.0 k.0 in let e' : i.hi ≡ j.hi = omega arith in
    let f : Span → ℕ → Interval = λ a b. record { lo = a; hi = b } in ap (λ a. f a i.hi) e ∙ ap (λ b. f j.lo b) e'

need_same : (n m : Need) → NeedBelow n m → NeedBelow m n → n ≡ m
need_same n m h k = let f : ℕ → List Cand → Need = λ a l. record { atom = a; cands = l } in ap (λ a. f a n.cands) k.0 ∙ ap (λ l. f m.atom l) (Part-full k.1 (Part-length h.1))

token_same : (t u : Token) → TokenBelow t u → TokenBelow u t → t ≡ u
token_same t u h k = let e = k.0 in let e' = interval_same t.span u.span h.1 k.1 in let e'' = zip_antisym NeedBelow need_same t.lists u.lists h.2 k.2 in
    let f : Kind → Interval → List Need → Token = λ a i l. record { kind = a; span = i; lists = l } in
    ap (λ a. f a t.span t.lists) e ∙ (ap (λ i. f u.kind i t.lists) e' ∙ ap (λ l. f u.kind u.span l) e'')

sheets_same : (a b : Sheet) → IsBelowSheet a b → IsBelowSheet b a → a.orders ≡ b.orders → a ≡ b
sheets_same a b h k o =
    let e = k.bound in
    let e' = zip_antisym TokenBelow token_same a.tokens b.tokens h.tokens k.tokens in
    let e'' = zip_antisym IntervalBelow interval_same a.outs b.outs h.outs k.outs in
    let f : ℕ → List Token → List Interval → List (ℕ × ℕ) → Sheet = λ n t i o. record { bound = n; tokens = t; outs = i; orders = o } in
    ap (λ n. f n a.tokens a.outs a.orders) e ∙ (ap (λ t. f b.bound t a.outs a.orders) e' ∙ (ap (λ i. f b.bound b.tokens i a.orders) e'' ∙ ap (λ r. f b.bound b.tokens b.outs r) o))

pub formed_same : (t : TaskShape) (a b : Sheet) → IsFormed t a → IsFormed t b → IsBelowSheet a b → IsBelowSheet b a → a ≡ b
formed_same t a b f g h k = sheets_same a b h k (orders_same a.orders b.orders f.increasing g.increasing h.orders k.orders)

module _ (rules : List ℕ) (t : TaskShape) (w : Tables) where
  -- each end below the start is below where the steps lead
  below_end : (b : Sheet) → IsLive b → IsClosed rules t w b → (steps : List Step) (s u : Sheet) → Leads rules t w s steps u → IsBelowSheet s b → IsBelowSheet u b
  below_end b live closed [] s u e h = subst (λ (z : Sheet). IsBelowSheet z b) (sym e) h
  below_end b live closed (step ∷ steps) s u (o, legal, rest) h =
      below_end b live closed steps (narrowed s step) u rest
      (keep s b (change_of s step) h
      (elim (step_mono t w s b h live step legal) [
        | inl k ↦ absurd (closed step o k)
        | inr n ↦ subst (λ ch. ¬ (Moves b ch)) (same_change t w s b h live step legal.allowed) n
      ]))

  leads_down : (steps : List Step) (s u : Sheet) → Leads rules t w s steps u → IsBelowSheet s u
  leads_down [] s u e = subst (λ (z : Sheet). IsBelowSheet s z) (sym e) (Below-refl s)
  leads_down (step ∷ steps) s u (o, legal, rest) = Below-trans s (narrowed s step) u (down s (change_of s step) legal.moves) (leads_down steps (narrowed s step) u rest)

  leads_formed : (steps : List Step) (s u : Sheet) → IsFormed t s → Leads rules t w s steps u → IsFormed t u
  leads_formed [] s u f e = subst (λ (z : Sheet). IsFormed t z) (sym e) f
  leads_formed (step ∷ steps) s u f (o, legal, rest) = leads_formed steps (narrowed s step) u (step_formed t w s step f legal) rest

  pub closes_live : (steps : List Step) (s u : Sheet) → IsFormed t s → Leads rules t w s steps u → IsLive u → IsClosed rules t w u → ClosesTo rules t w s (Some u)
  closes_live steps s u f h live closed = record {
    end = record { formed = leads_formed steps s u f h; below = leads_down steps s u h; live = live; closed = closed };
    greatest = λ v e. below_end v e.live e.closed steps s u h e.below;
  }

  pub closes_dead : (steps : List Step) (s u : Sheet) → Leads rules t w s steps u → IsDead u → ClosesTo rules t w s None
  closes_dead steps s u h dead = λ v e. dead_not_live u dead (live_above u v (below_end v e.live e.closed steps s u h e.below) e.live)

  pub one_end : (s : Sheet) (u v : Option Sheet) → ClosesTo rules t w s u → ClosesTo rules t w s v → u ≡ v
  one_end s (Some u) (Some v) h k = ap (λ z. Some z) (formed_same t u v h.end.formed k.end.formed (h.greatest v k.end) (k.greatest u h.end))
  one_end s (Some u) None h k = absurd (k u h.end)
  one_end s None (Some v) h k = absurd (h v k.end)
  one_end s None None h k = refl
