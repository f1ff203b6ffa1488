-- steps keep a sheet formed
use Rattle.std.proofs.Common.{◌≡◌, ◌≢◌, ℕ, ◌≤◌, ◌<◌, List, [], ◌∷◌, Bool, true, false, ◌&&◌, ◌==◌, if◌then◌else◌, zero, suc, lit≤, length, map, refl, sym, ◌∙◌, ap, subst, arith, inl, inr}
use Rattle.std.proofs.lemmas.Bool.{cases_lt, or_cases, or_right, and_parts, eqb-true}
use Rattle.cpt_task.specs.declared.span.Span.{Span}
use Rattle.cpt_task.specs.declared.span.Span.TheVariants.{At, Never}
use Rattle.cpt_task.specs.Shape.{TaskShape}
use Rattle.cpt_tables.specs.declared.tables.Tables.{Tables}
use Rattle.cpt_tables.specs.Spans.{◌<ˢ◌, IsBelow}
use Rattle.cpt_sheet.specs.declared.data.Cand.{Cand}
use Rattle.cpt_sheet.specs.declared.data.Cand.TheVariants.{Tok, Out}
use Rattle.cpt_sheet.specs.declared.data.Kind.{Kind}
use Rattle.cpt_sheet.specs.declared.data.Kind.TheVariants.{Start, End, Act}
use Rattle.cpt_sheet.specs.declared.data.Interval.{Interval}
use Rattle.cpt_sheet.specs.declared.data.Need.{Need}
use Rattle.cpt_sheet.specs.declared.data.Sheet.{Sheet}
use Rattle.cpt_sheet.specs.declared.data.Step.{Step}
use Rattle.cpt_sheet.specs.declared.data.Step.TheVariants.{R1, R2, R3, R4, R5, R6, R7, R8, R9After, R9Ahead, R10, R11After, R11Ahead, R12After, R12Ahead, R13}
use Rattle.cpt_sheet.specs.Roles.{Adds, Deletes, Clash, needs_of}
use Rattle.cpt_sheet.specs.View.{token_at, no_token, lo, hi, span_of, kind_of, cands, has_need, before, has, has_order, list_for, same}
use Rattle.cpt_sheet.specs.Edits.{with_span, with_list, with_posted, without, revised, with_order, changed, moment_or}
use Rattle.cpt_sheet.specs.Formed.{IsFormed, IsActionOf, CanAdd, IsAscending, IsIncreasing, IsPlaced}
use Rattle.cpt_sheet.proofs.FormedLemmas.{at_past, lo_below}
use Rattle.cpt_tables.proofs.SpanLemmas.{below_more}
use Rattle.cpt_sheet.specs.declared.data.Change.TheVariants.{Raise, Lower, Take}
use Rattle.cpt_sheet.specs.declared.data.Token.{Token}
use Rattle.cpt_calculus.specs.Rules.{IsToken, IsThreatOf, only, Allowed, Moves, IsLegal, change_of, narrowed}
use Rattle.cpt_calculus.proofs.Orders.{increasing_with}
use Rattle.cpt_calculus.proofs.Reading.{need_there, nothing_in, one_listed}
use Rattle.cpt_calculus.proofs.Parts.{Part-has, Part-without}
use Rattle.cpt_calculus.proofs.Below.{order_posted}
use Rattle.cpt_calculus.proofs.Views.{span_with, kind_with_span, lists_with_span, tokens_with_span, outs_with_span, orders_with_span, bound_with_span, kind_with_list, span_with_list, atoms_with_list, cands_with_list, count_with}

-- who can add an atom is told by the kinds
can_add_along : (t : TaskShape) (s u : Sheet) (x p : ℕ) (c : Cand) → length u.tokens ≡ length s.tokens → ((y : ℕ) → kind_of u (Tok y) ≡ kind_of s (Tok y)) → CanAdd t s x p c → CanAdd t u x p c
can_add_along t s u x p (Tok y) n k h = (subst (λ m. y < m) (sym n) h.0, h.1, subst (λ z. Adds t z p) (sym (k y)) h.2)
can_add_along t s u x p (Out a) n k h = h

-- what a formed sheet shares with one that has the same kinds, preconditions and orders
module _ (t : TaskShape) (s u : Sheet) (f : IsFormed t s)
    (tokens : length u.tokens ≡ length s.tokens) (outs : length u.outs ≡ length s.outs) (bound : u.bound ≡ s.bound)
    (kinds : (y : ℕ) → kind_of u (Tok y) ≡ kind_of s (Tok y))
    (atoms : (y : ℕ) → map (λ (n : Need). n.atom) (token_at u y).lists ≡ map (λ (n : Need). n.atom) (token_at s y).lists)
    (fewer : (x p : ℕ) (c : Cand) → has c (cands u x p) ≡ true → has c (cands s x p) ≡ true)
    (ascending : (x p : ℕ) → IsAscending (cands u x p))
    (within : (c : Cand) → hi u c ≤ u.bound)
    (outs_below : (a : ℕ) → IsBelow 2000000000000000 (lo u (Out a)))
    (tokens_below : (x : ℕ) → IsBelow 4000000000000000 (lo u (Tok x)))
    (more : (x y : ℕ) → before s x y ≡ true → before u x y ≡ true)
    (orders : (x y : ℕ) → before u x y ≡ true → IsPlaced s x y)
    (increasing : IsIncreasing u.orders) where
  placed : (x y : ℕ) → IsPlaced s x y → IsPlaced u x y
  placed x y h = record { first = subst (λ n. x < n) (sym tokens) h.first; second = subst (λ n. y < n) (sym tokens) h.second; different = h.different; forward = h.forward }

  pub formed_along : IsFormed t u
  formed_along = record {
    two = subst (λ n. 2 ≤ n) (sym tokens) f.two;
    start = kinds 0 ∙ f.start;
    end = kinds 1 ∙ f.end;
    actions = λ x h l. subst (λ k. IsActionOf t k) (sym (kinds x)) (f.actions x h (subst (λ n. x < n) tokens l));
    outs = outs ∙ f.outs;
    needs = λ x l. atoms x ∙ (f.needs x (subst (λ n. x < n) tokens l) ∙ ap (λ k. needs_of t k) (sym (kinds x)));
    supply = λ x p c h. can_add_along t s u x p c tokens kinds (f.supply x p c (fewer x p c h));
    ascending = ascending;
    bound = subst (λ n. n ≤ 1000000) (sym bound) f.bound;
    within = within;
    outs_below = outs_below;
    tokens_below = tokens_below;
    orders = λ x y h. placed x y (orders x y h);
    increasing = increasing;
    ends = more 0 1 f.ends;
    after_start = λ x h l. more 0 x (f.after_start x h (subst (λ n. x < n) tokens l));
    before_end = λ x h l. more x 1 (f.before_end x h (subst (λ n. x < n) tokens l));
  }

-- another interval that keeps within the bounds
pub record IsFit (s : Sheet) (c : Cand) (i : Interval) : Type 0 where
  pub out : (a : ℕ) → c ≡ Out a → IsBelow 2000000000000000 i.lo
  pub tok : IsBelow 4000000000000000 i.lo
  pub high : i.hi ≤ s.bound

pub span_formed : (t : TaskShape) (s : Sheet) (c : Cand) (i : Interval) → IsFormed t s → IsFit s c i → IsFormed t (with_span s c i)
span_formed t s c i f h =
    formed_along t s (with_span s c i) f (tokens_with_span s c i) (outs_with_span s c i) (bound_with_span s c i) (kind_with_span s c i)
    (λ y. ap (λ (l : List Need). map (λ (n : Need). n.atom) l) (lists_with_span s c i y))
    (λ x p d k. subst (λ (l : List Need). has d (list_for p l) ≡ true) (lists_with_span s c i x) k)
    (λ x p. subst (λ (l : List Need). IsAscending (list_for p l)) (sym (lists_with_span s c i x)) (f.ascending x p))
    (λ d. subst (λ n. hi (with_span s c i) d ≤ n) (sym (bound_with_span s c i))
    (elim (span_with s c d i) [ inl e ↦ subst (λ (z : Interval). z.hi ≤ s.bound) (sym e) (f.within d) | inr e ↦ subst (λ (z : Interval). z.hi ≤ s.bound) (sym e.1) h.high ]))
    (λ a. elim (span_with s c (Out a) i) [ inl e ↦ subst (λ (z : Interval). IsBelow 2000000000000000 z.lo) (sym e) (f.outs_below a) | inr e ↦ subst (λ (z : Interval). IsBelow 2000000000000000 z.lo) (sym e.1) (h.out a (sym e.0)) ])
    (λ x. elim (span_with s c (Tok x) i) [ inl e ↦ subst (λ (z : Interval). IsBelow 4000000000000000 z.lo) (sym e) (f.tokens_below x) | inr e ↦ subst (λ (z : Interval). IsBelow 4000000000000000 z.lo) (sym e.1) h.tok ])
    (λ x y k. subst (λ os. has_order x y os ≡ true) (sym (orders_with_span s c i)) k)
    (λ x y k. f.orders x y (subst (λ os. has_order x y os ≡ true) (orders_with_span s c i) k))
    (subst (λ os. IsIncreasing os) (sym (orders_with_span s c i)) f.increasing)

-- another list whose candidates were in the old one
pub list_formed : (t : TaskShape) (s : Sheet) (x p : ℕ) (g : List Cand → List Cand) → IsFormed t s →
    ((c : Cand) → has c (g (cands s x p)) ≡ true → has c (cands s x p) ≡ true) → IsAscending (g (cands s x p)) → IsFormed t (with_list s x p g)
list_formed t s x p g f fewer asc =
    formed_along t s (with_list s x p g) f (count_with s x (record (token_at s x) { lists = revised p g (token_at s x).lists })) refl refl (kind_with_list s x p g) (atoms_with_list s x p g)
    (λ y q c k. elim (cands_with_list s x p g y q) [
      | inl e ↦ subst (λ (l : List Cand). has c l ≡ true) e k
      | inr e ↦ subst (λ z. has c (cands s z q) ≡ true) (sym e.0) (subst (λ z. has c (cands s x z) ≡ true) (sym e.1)
          (fewer c (subst (λ z. has c (g (cands s x z)) ≡ true) e.1 (subst (λ z. has c (g (cands s z q)) ≡ true) e.0 (subst (λ (l : List Cand). has c l ≡ true) e.2 k)))))
    ])
    (λ y q. elim (cands_with_list s x p g y q) [
      | inl e ↦ subst (λ (l : List Cand). IsAscending l) (sym e) (f.ascending y q)
      | inr e ↦ subst (λ (l : List Cand). IsAscending l) (sym e.2) (subst (λ z. IsAscending (g (cands s z q))) (sym e.0) (subst (λ z. IsAscending (g (cands s x z))) (sym e.1) asc))
    ])
    (λ d. subst (λ (z : Interval). z.hi ≤ s.bound) (sym (span_with_list s x p g d)) (f.within d))
    (λ a. f.outs_below a)
    (λ y. subst (λ (z : Interval). IsBelow 4000000000000000 z.lo) (sym (span_with_list s x p g (Tok y))) (f.tokens_below y))
    (λ y z k. k)
    (λ y z k. f.orders y z k)
    f.increasing

ascending_without : (c : Cand) (cs : List Cand) → IsAscending cs → IsAscending (without c cs)
ascending_without c [] h = h
ascending_without c (d ∷ cs) h = go (same d c) (ascending_without c cs h.1)
  where
    go : (b : Bool) → IsAscending (without c cs) → IsAscending (if b then cs else d ∷ without c cs)
    go true ih = h.1
    go false ih = ((λ e k. h.0 e (Part-has e (Part-without c cs) k)), ih)

-- an order more
pub posted_formed : (t : TaskShape) (s : Sheet) (x y : ℕ) → IsFormed t s → IsPlaced s x y → IsFormed t (with_posted s x y)
posted_formed t s x y f h =
    formed_along t s (with_posted s x y) f refl refl refl (λ z. refl) (λ z. refl) (λ z q c k. k) f.ascending f.within f.outs_below f.tokens_below
    (λ u v k. order_posted x y u v s.orders ∙ or_right ((x == u) && (y == v)) (before s u v) k)
    (λ u v k. elim (or_cases ((x == u) && (y == v)) (before s u v) (sym (order_posted x y u v s.orders) ∙ k)) [
      | inl m ↦ (let e = and_parts (x == u) (y == v) m in subst (λ z. IsPlaced s z v) (eqb-true x u e.0) (subst (λ z. IsPlaced s x z) (eqb-true y v e.1) h))
      | inr m ↦ f.orders u v m
    ])
    (go (has_order x y s.orders) refl)
  where
    go : (b : Bool) → has_order x y s.orders ≡ b → IsIncreasing (if b then s.orders else with_order x y s.orders)
    go true e = f.increasing
    go false e = increasing_with x y s.orders e f.increasing

-- a kind that deletes an atom is an action's
deletes_act : (t : TaskShape) (k : Kind) (p : ℕ) → Deletes t k p → (a : ℕ) × (k ≡ Act a)
deletes_act t Start p h = absurd (nothing_in p h)
deletes_act t End p h = absurd (nothing_in p h)
deletes_act t (Act a) p h = (a, refl)

clash_first : (t : TaskShape) (j k : Kind) → Clash t j k → (a : ℕ) × (j ≡ Act a)
clash_first t (Act a) (Act b) h = (a, refl)
clash_first t (Act a) Start h = absurd h
clash_first t (Act a) End h = absurd h
clash_first t Start k h = absurd h
clash_first t End k h = absurd h

clash_second : (t : TaskShape) (j k : Kind) → Clash t j k → (a : ℕ) × (k ≡ Act a)
clash_second t (Act a) (Act b) h = (b, refl)
clash_second t (Act a) Start h = absurd h
clash_second t (Act a) End h = absurd h
clash_second t Start k h = absurd h
clash_second t End k h = absurd h

-- an action token is there, behind the start and the end
pub record IsActionToken (s : Sheet) (x : ℕ) : Type 0 where
  pub behind : 2 ≤ x
  pub there : x < length s.tokens

act_token : (t : TaskShape) (s : Sheet) (x a : ℕ) → IsFormed t s → kind_of s (Tok x) ≡ Act a → IsActionToken s x
act_token t s zero a f e = let k = f.start in cc
act_token t s (suc zero) a f e = let k = f.end in cc
act_token t s (suc (suc x)) a f e =
    elim (cases_lt (suc (suc x)) (length s.tokens)) [
      | inl l ↦ record { behind = omega arith; there = l }
      | inr m ↦ absurd (let k : no_token.kind ≡ Act a = subst (λ (z : Token). z.kind ≡ Act a) (at_past s.tokens no_token (suc (suc x)) m) e in cc)
    ]

deleting_token : (t : TaskShape) (s : Sheet) (d p : ℕ) → IsFormed t s → Deletes t (kind_of s (Tok d)) p → IsActionToken s d
deleting_token t s d p f h = let k = deletes_act t (kind_of s (Tok d)) p h in act_token t s d k.0 f k.1

end_adds_nothing : (t : TaskShape) (p : ℕ) → Adds t End p → ⊥
end_adds_nothing t p e = let l = e.1 in omega arith

adder_is_not_end : (t : TaskShape) (s : Sheet) (y p : ℕ) → IsFormed t s → Adds t (kind_of s (Tok y)) p → y ≢ 1
adder_is_not_end t s y p f h e = end_adds_nothing t p (subst (λ k. Adds t k p) f.end (subst (λ z. Adds t (kind_of s (Tok z)) p) e h))

low : (s : Sheet) (c : Cand) (v : Span) → v <ˢ At (hi s c) → moment_or v (hi s c) ≤ hi s c
low s c (At m) h = omega arith
low s c Never h = omega arith

module _ (t : TaskShape) (s : Sheet) (f : IsFormed t s) where
  raise_token : (x : ℕ) (v : Span) → IsBelow 4000000000000000 v → IsFormed t (changed s (Raise (Tok x) v))
  raise_token x v h = span_formed t s (Tok x) (record (span_of s (Tok x)) { lo = v }) f (record { out = λ a e. cc; tok = h; high = f.within (Tok x) })

  raise_out : (a : ℕ) (v : Span) → IsBelow 2000000000000000 v → IsFormed t (changed s (Raise (Out a) v))
  raise_out a v h = span_formed t s (Out a) (record (span_of s (Out a)) { lo = v }) f
      (record { out = λ b e. h; tok = below_more 2000000000000000 4000000000000000 v (lit≤ tt) h; high = f.within (Out a) })

  lower_any : (c : Cand) (v : Span) → v <ˢ At (hi s c) → IsFormed t (changed s (Lower c v))
  lower_any c v m = span_formed t s c (record (span_of s c) { hi = moment_or v (hi s c) }) f
      (record {
        out = λ a e. subst (λ z. IsBelow 2000000000000000 (lo s z)) (sym e) (f.outs_below a);
        tok = lo_below t s c f;
        high = (let l = low s c v m in let k = f.within c in omega arith);
      })

  take_any : (x p : ℕ) (c : Cand) → IsFormed t (changed s (Take x p c))
  take_any x p c = list_formed t s x p (without c) f (λ d k. Part-has d (Part-without c (cands s x p)) k) (ascending_without c (cands s x p) (f.ascending x p))

  pub place_clash : (x y : ℕ) → x ≢ y → Clash t (kind_of s (Tok x)) (kind_of s (Tok y)) → IsPlaced s x y
  place_clash x y n h =
      let j = clash_first t (kind_of s (Tok x)) (kind_of s (Tok y)) h in
      let k = clash_second t (kind_of s (Tok x)) (kind_of s (Tok y)) h in
      let a = act_token t s x j.0 f j.1 in
      let b = act_token t s y k.0 f k.1 in
      record { first = a.there; second = b.there; different = n; forward = λ e. let l = a.behind in let q = e.0 in omega arith }

  pub place_lone : (x p y : ℕ) → has_need s x p ≡ true → IsToken (cands s x p) y → IsPlaced s y x
  place_lone x p y n e =
      let c = f.supply x p (Tok y) (one_listed s x p y e) in
      record { first = c.0; second = need_there s x p n; different = c.1; forward = λ q. adder_is_not_end t s y p f c.2 q.0 }

  pub place_after : (x p d y : ℕ) → IsThreatOf t s x p d y → IsPlaced s x d
  place_after x p d y h =
      let a = deleting_token t s d p f h.deletes in
      record { first = need_there s x p h.need; second = a.there; different = λ e. h.other (sym e); forward = λ e. let l = a.behind in let q = e.1 in omega arith }

  pub place_ahead : (x p d y : ℕ) → IsThreatOf t s x p d y → IsPlaced s d y
  place_ahead x p d y h =
      let a = deleting_token t s d p f h.deletes in
      let c = f.supply x p (Tok y) (one_listed s x p y h.one) in
      record { first = a.there; second = c.0; different = h.different; forward = λ e. let l = a.behind in let q = e.0 in omega arith }

-- a legal step keeps a sheet formed
pub step_formed : (t : TaskShape) (w : Tables) (s : Sheet) (step : Step) → IsFormed t s → IsLegal t w s step → IsFormed t (narrowed s step)
step_formed t w s step f legal = go step legal.allowed legal.moves
  where
    go : (step : Step) → Allowed t w s step → Moves s (change_of s step) → IsFormed t (narrowed s step)
    go (R1 x y v) h m = raise_token t s f y v h.moment
    go (R2 x y v) h m = lower_any t s f (Tok x) v m
    go (R3 x y) h m = posted_formed t s x y f (place_clash t s f x y h.different h.clash)
    go (R4 x p v) h m = raise_token t s f x v h.moment
    go (R5 x p c) h m = take_any t s f x p c
    go (R6 x p) h m = posted_formed t s (only (cands s x p)) x f (subst (λ z. IsPlaced s z x) (sym (ap (λ l. only l) h.one.1)) (place_lone t s f x p h.one.0 h.need h.one.1))
    go (R7 x p a) h m = take_any t s f x p (Out a)
    go (R8 x p c d) h m = take_any t s f x p c
    go (R9After x p d) h m = posted_formed t s x d f (place_after t s f x p d h.0 h.1)
    go (R9Ahead x p d) h m = posted_formed t s d (only (cands s x p)) f (subst (λ z. IsPlaced s d z) (sym (ap (λ l. only l) h.1.one)) (place_ahead t s f x p d h.0 h.1))
    go (R10 a p v) h m = raise_out t s f a v h.moment
    go (R11After x p a v) h m = raise_out t s f a v h.3.moment
    go (R11Ahead x p a v) h m = lower_any t s f (Out a) v m
    go (R12After x a v) h m = raise_out t s f a v h.after.moment
    go (R12Ahead x a v) h m = lower_any t s f (Out a) v m
    go (R13 x p c q) h m = take_any t s f x p c
