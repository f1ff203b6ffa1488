-- the very values of the rows
use Rattle.std.proofs.Common.{◌≡◌, ℕ, ◌≤◌, ◌<◌, nat_lt, lit≤, List, [], ◌∷◌, Bool, true, false, if◌then◌else◌, length, get_or, All, refl, sym, ◌∙◌, ap, subst, arith, inl, inr}
use Rattle.std.specs.List.{AllByRecursion as ByRecursion}
use Rattle.std.proofs.lemmas.Bool.{cases_lt, ltb-true, or_left, or_right}
use Rattle.std.proofs.lemmas.Option.{unwrap_or-slice_get}
use Rattle.std.proofs.lemmas.List.{get_or_default}
use Rattle.std.proofs.lemmas.List.Elements.{recursion_from_All, All-from_recursion}
use Rattle.cpt_task.specs.declared.span.Span.{Span}
use Rattle.cpt_task.specs.declared.span.Span.TheVariants.{At, Never}
use Rattle.cpt_task.specs.Shape.{TaskShape, InBounds}
use Rattle.cpt_tables.specs.declared.tables.Tables.{Tables}
use Rattle.cpt_tables.specs.Spans.{◌≤ˢ◌, ◌+ˢ◌, span_min, IsBelow}
use Rattle.cpt_tables.specs.Shapes.{most_dist, set_span_of}
use Rattle.cpt_tables.specs.Admissible.{nth_action}
use Rattle.cpt_tables.proofs.SpanLemmas.{le_refl, le_trans, le_lt, le_antisym, le_cases, lt_not_le, min_le_left, min_le_right, below_add, below_more}
use Rattle.cpt_sheet.specs.declared.data.Cand.{Cand}
use Rattle.cpt_sheet.specs.declared.data.Cand.TheVariants.{Tok, Out}
use Rattle.cpt_sheet.specs.declared.data.Kind.{Kind}
use Rattle.cpt_sheet.specs.declared.data.Kind.TheVariants.{Start, End, Act}
use Rattle.cpt_sheet.specs.declared.data.Token.{Token}
use Rattle.cpt_sheet.specs.declared.data.Sheet.{Sheet}
use Rattle.cpt_sheet.specs.declared.data.Step.{Step}
use Rattle.cpt_sheet.specs.declared.data.Step.TheVariants.{R1, R2, R3, R4, R5, R6, R7, R8, R9After, R9Ahead, R10, R11After, R11Ahead, R12After, R12Ahead, R13}
use Rattle.cpt_sheet.specs.Roles.{needs_of, adds_of, Clash}
use Rattle.cpt_sheet.specs.View.{lo, hi, span_of, kind_of, cands, has, same, no_token}
use Rattle.cpt_sheet.specs.Gaps.{FitsTask, reach, gap, arrival, deadline}
use Rattle.cpt_sheet.specs.Live.{IsLive, IsOpen}
use Rattle.cpt_sheet.specs.Formed.{IsFormed}
use Rattle.cpt_sheet.proofs.GapLemmas.{needs_within, dist_below, set_below, dur_below}
use Rattle.cpt_sheet.proofs.FormedLemmas.{at_past}
use Rattle.cpt_calculus.specs.Rules.{only, IsLegal}
use Rattle.cpt_steps.specs.Tight.{with_value, IsGreatest, IsBeforeAll, IsBeforeAdders, IsTight, ArrivalsFit, GapsAreSmall, LiveArrivalsFit, TightValues, OneTightValue}
use Rattle.cpt_steps.proofs.LeastLemmas.{least_by, least_each, le_min, below_min, least_over, least_below, least_upto, upto_each, upto_over, upto_below, pick, under, over, below_pick}
use Rattle.cpt_calculus.proofs.Parts.{same_self}
pub use Rattle.cpt_calculus.proofs.Reading.{lt_le, in_or_not}
use Rattle.cpt_steps.proofs.LandingLemmas.{need_there, token_there}

-- how large a gap is at most
reach_small : (t : TaskShape) (b : Tables) (j : Kind) (ps : List ℕ) → FitsTask t b → InBounds t → All (λ p. p < length t.atoms) ps → IsBelow 1000000000100001 (reach t b j ps)
reach_small t b Start ps f i all = below_more 1000000000000000 1000000000100001 (set_span_of b.pairs ps) (lit≤ tt) (set_below t b ps f all)
reach_small t b End ps f i all = tt
reach_small t b (Act a) ps f i all = go (nat_lt a (length t.actions)) refl
  where
    go : (k : Bool) → nat_lt a (length t.actions) ≡ k → IsBelow 1000000000100001 (if k then At (nth_action t a).dur +ˢ most_dist b.dists a ps else Never)
    go true e =
        let l = ltb-true a (length t.actions) e in
        let d = dur_below t a i l in
        let k : (nth_action t a).dur < 100001 = omega arith in
        below_add 100001 1000000000000000 (At (nth_action t a).dur) (most_dist b.dists a ps) k (dist_below t b a ps f l all)
    go false e = tt

pub gap_small : (t : TaskShape) (b : Tables) (j k : Kind) → FitsTask t b → InBounds t → IsBelow 1000000000100001 (gap t b j k)
gap_small t b j Start f i = tt
gap_small t b j End f i = reach_small t b j (needs_of t End) f i (needs_within t End i)
gap_small t b j (Act c) f i = reach_small t b j (needs_of t (Act c)) f i (needs_within t (Act c) i)

at_most : (a : Span) (m n : ℕ) → a ≤ˢ At m → m < n → IsBelow n a
at_most (At a) m n h l = omega arith
at_most Never m n h l = absurd h

pub gaps_are_small : GapsAreSmall
gaps_are_small t b j k i f = gap_small t b j k f i

-- the step is legal with the very value of its row
abbrev IsLegalAtTight : TaskShape → Tables → Sheet → Step → Type 0
IsLegalAtTight t b s step = (w : Span) × IsLegal t b s (with_value step w) × IsTight t b s (with_value step w)

-- what is so of each that is listed
each_has : (P : Cand → Type 0) (cs : List Cand) → ((c : Cand) → has c cs ≡ true → P c) → ByRecursion P cs
each_has P [] h = tt
each_has P (c ∷ cs) h = (h c (or_left (same c c) (has c cs) (same_self c)), each_has P cs (λ d k. h d (or_right (same c d) (has d cs) k)))

module _ (t : TaskShape) (b : Tables) (s : Sheet) (i : InBounds t) (fits : FitsTask t b) (f : IsFormed t s) where
  -- from a source that has a moment
  open_arrival : (c d : Cand) → IsOpen (span_of s c) → IsBelow 2000000000000000 (arrival t b s c d)
  open_arrival c d h =
      let k = f.within c in
      let l = f.bound in
      let m : IsBelow 1000001 (lo s c) = at_most (lo s c) (hi s c) 1000001 h (omega arith) in
      below_more 1000000001100002 2000000000000000 (arrival t b s c d) (lit≤ tt) (below_add 1000001 1000000000100001 (lo s c) (gap t b (kind_of s c) (kind_of s d)) m (gap_small t b (kind_of s c) (kind_of s d) fits i))

  open_token : (x : ℕ) → IsLive s → x < length s.tokens → IsOpen (span_of s (Tok x))
  open_token x live l =
      subst (λ (z : Token). IsOpen z.span) (sym (unwrap_or-slice_get s.tokens x no_token)) (live x no_token l).0

  -- from a candidate, which may be an outside action without a moment
  out_arrival : (a : ℕ) (d : Cand) → IsBelow 4000000000000000 (arrival t b s (Out a) d)
  out_arrival a d =
      below_more 3000000000100001 4000000000000000 (arrival t b s (Out a) d) (lit≤ tt)
      (below_add 2000000000000000 1000000000100001 (lo s (Out a)) (gap t b (Act a) (kind_of s d)) (f.outs_below a) (gap_small t b (Act a) (kind_of s d) fits i))

  pub from_token : (x : ℕ) (d : Cand) → IsLive s → x < length s.tokens → IsBelow 2000000000000000 (arrival t b s (Tok x) d)
  from_token x d live l = open_arrival (Tok x) d (open_token x live l)

  pub more : (v : Span) → IsBelow 2000000000000000 v → IsBelow 4000000000000000 v
  more v h = below_more 2000000000000000 4000000000000000 v (lit≤ tt) h

  arrivals : IsLive s → ArrivalsFit t b s
  arrivals live = record { tokens = λ x d l. from_token x d live l; outs = λ a d h. open_arrival (Out a) d h; all = any }
    where
      any : (c d : Cand) → IsBelow 4000000000000000 (arrival t b s c d)
      any (Tok x) d =
          elim (cases_lt x (length s.tokens)) [
            | inl l ↦ more (arrival t b s (Tok x) d) (from_token x d live l)
            | inr m ↦ subst (λ (z : Token). IsBelow 4000000000000000 (z.span.lo +ˢ gap t b z.kind (kind_of s d))) (sym (at_past s.tokens no_token x m)) tt
          ]
      any (Out a) d = out_arrival a d

  tight1 : (x y : ℕ) (v : Span) → IsLegal t b s (R1 x y v) → IsLegalAtTight t b s (R1 x y v)
  tight1 x y v l = (
    arrival t b s (Tok x) (Tok y),
    record {
      live = l.live;
      allowed = record {
        order = l.allowed.order;
        limit = le_refl (arrival t b s (Tok x) (Tok y));
        moment = more (arrival t b s (Tok x) (Tok y)) (from_token x (Tok y) l.live (f.orders x y l.allowed.order).first);
      };
      moves = lt_le (lo s (Tok y)) v (arrival t b s (Tok x) (Tok y)) l.moves l.allowed.limit;
    },
    refl,
  )

  tight2 : (x y : ℕ) (v : Span) → IsLegal t b s (R2 x y v) → IsLegalAtTight t b s (R2 x y v)
  tight2 x y v l = (
    deadline t b s (Tok x) (Tok y),
    record {
      live = l.live;
      allowed = record { order = l.allowed.order; limit = le_refl (deadline t b s (Tok x) (Tok y)) };
      moves = le_lt (deadline t b s (Tok x) (Tok y)) v (At (hi s (Tok x))) l.allowed.limit l.moves;
    },
    refl,
  )

  -- rule 4
  cand_arrival : (x p : ℕ) (c : Cand) → IsLive s → has c (cands s x p) ≡ true → IsBelow 4000000000000000 (arrival t b s c (Tok x))
  cand_arrival x p (Tok y) live h = more (arrival t b s (Tok y) (Tok x)) (from_token y (Tok x) live (f.supply x p (Tok y) h).0)
  cand_arrival x p (Out a) live h = out_arrival a (Tok x)

  tight4 : (x p : ℕ) (v : Span) → IsLegal t b s (R4 x p v) → IsLegalAtTight t b s (R4 x p v)
  tight4 x p v l =
      let g : Cand → Span = λ c. arrival t b s c (Tok x) in
      let w : Span = least_by (λ c. arrival t b s c (Tok x)) (cands s x p) in
      let each : IsBeforeAll t b s x p (least_by (λ c. arrival t b s c (Tok x)) (cands s x p)) =
      All-from_recursion (λ c. least_by (λ c. arrival t b s c (Tok x)) (cands s x p) ≤ˢ arrival t b s c (Tok x)) (cands s x p)
      (least_each (λ c. arrival t b s c (Tok x)) (least_by (λ c. arrival t b s c (Tok x)) (cands s x p)) (cands s x p) (le_refl (least_by (λ c. arrival t b s c (Tok x)) (cands s x p)))) in
      let top : (u : Span) → IsBeforeAll t b s x p u → u ≤ˢ least_by (λ c. arrival t b s c (Tok x)) (cands s x p) =
      λ u h. least_over (λ c. arrival t b s c (Tok x)) u (cands s x p) (recursion_from_All (λ c. u ≤ˢ arrival t b s c (Tok x)) (cands s x p) h) in (
        least_by (λ c. arrival t b s c (Tok x)) (cands s x p),
        record {
          live = l.live;
          allowed = record {
            need = l.allowed.need;
            limit = each;
            moment = least_below 4000000000000000 (λ c. arrival t b s c (Tok x)) (cands s x p) (each_has (λ c. IsBelow 4000000000000000 (arrival t b s c (Tok x))) (cands s x p) (λ c h. cand_arrival x p c l.live h));
          };
          moves = lt_le (lo s (Tok x)) v (least_by (λ c. arrival t b s c (Tok x)) (cands s x p)) l.moves (top v l.allowed.limit);
        },
        record { holds = each; greatest = top },
      )

  -- rule 10
  abbrev of_token : ℕ → ℕ → Token → Span
  of_token a p z = pick (in_or_not p (adds_of t z.kind)) (z.span.lo +ˢ gap t b z.kind (Act a))

  abbrev of_out : ℕ → ℕ → ℕ → Span
  of_out a p o = pick (in_or_not p (nth_action t o).add) (pick (le_cases (lo s (Out o)) (At (hi s (Out o)))) (arrival t b s (Out o) (Out a)))

  abbrev least10 : ℕ → ℕ → Span
  least10 a p = span_min (least_by (of_token a p) s.tokens) (least_upto (of_out a p) (length t.actions))

  adders_under : (a p : ℕ) (v : Span) → v ≤ˢ least10 a p → IsBeforeAdders t b s a p v
  adders_under a p v h = record {
    tokens = λ k d l adds.
        under (in_or_not p (adds_of t (get_or s.tokens k d).kind)) v ((get_or s.tokens k d).span.lo +ˢ gap t b (get_or s.tokens k d).kind (Act a))
        (All-from_recursion (λ z. v ≤ˢ of_token a p z) s.tokens
        (least_each (of_token a p) v s.tokens
        (le_trans v (least10 a p) (least_by (of_token a p) s.tokens) h (min_le_left (least_by (of_token a p) s.tokens) (least_upto (of_out a p) (length t.actions))))) k d l)
        (λ n. n adds);
    outs = λ o l adds live.
        under (le_cases (lo s (Out o)) (At (hi s (Out o)))) v (arrival t b s (Out o) (Out a))
        (under (in_or_not p (nth_action t o).add) v (pick (le_cases (lo s (Out o)) (At (hi s (Out o)))) (arrival t b s (Out o) (Out a)))
        (upto_each (of_out a p) v (length t.actions)
        (le_trans v (least10 a p) (least_upto (of_out a p) (length t.actions)) h (min_le_right (least_by (of_token a p) s.tokens) (least_upto (of_out a p) (length t.actions)))) o l)
        (λ n. n adds))
        (λ shut. lt_not_le (At (hi s (Out o))) (lo s (Out o)) shut live);
  }

  adders_over : (a p : ℕ) (v : Span) → IsBeforeAdders t b s a p v → v ≤ˢ least10 a p
  adders_over a p v h =
      le_min v (least_by (of_token a p) s.tokens) (least_upto (of_out a p) (length t.actions))
      (least_over (of_token a p) v s.tokens
      (recursion_from_All (λ z. v ≤ˢ of_token a p z) s.tokens
      (λ k d l. over (in_or_not p (adds_of t (get_or s.tokens k d).kind)) v ((get_or s.tokens k d).span.lo +ˢ gap t b (get_or s.tokens k d).kind (Act a)) (λ adds. h.tokens k d l adds))))
      (upto_over (of_out a p) v (length t.actions)
      (λ o l. over (in_or_not p (nth_action t o).add) v (pick (le_cases (lo s (Out o)) (At (hi s (Out o)))) (arrival t b s (Out o) (Out a)))
      (λ adds. over (le_cases (lo s (Out o)) (At (hi s (Out o)))) v (arrival t b s (Out o) (Out a)) (λ live. h.outs o l adds live))))

  token_small : (a : ℕ) (z : Token) → IsOpen z.span → z.span.hi ≤ s.bound → IsBelow 2000000000000000 (z.span.lo +ˢ gap t b z.kind (Act a))
  token_small a z h m =
      let l = f.bound in
      let k : IsBelow 1000001 z.span.lo = at_most z.span.lo z.span.hi 1000001 h (omega arith) in
      below_more 1000000001100002 2000000000000000 (z.span.lo +ˢ gap t b z.kind (Act a)) (lit≤ tt) (below_add 1000001 1000000000100001 z.span.lo (gap t b z.kind (Act a)) k (gap_small t b z.kind (Act a) fits i))

  moment10 : (a p : ℕ) → IsLive s → IsBelow 2000000000000000 (least10 a p)
  moment10 a p live =
      below_min 2000000000000000 (least_by (of_token a p) s.tokens) (least_upto (of_out a p) (length t.actions))
      (least_below 2000000000000000 (of_token a p) s.tokens
      (recursion_from_All (λ z. IsBelow 2000000000000000 (of_token a p z)) s.tokens
      (λ k d l. below_pick 2000000000000000 (in_or_not p (adds_of t (get_or s.tokens k d).kind)) ((get_or s.tokens k d).span.lo +ˢ gap t b (get_or s.tokens k d).kind (Act a))
      (λ adds. token_small a (get_or s.tokens k d) (live k d l).0
      (subst (λ (z : Token). z.span.hi ≤ s.bound) (unwrap_or-slice_get s.tokens k no_token ∙ get_or_default s.tokens k no_token d l) (f.within (Tok k)))))))
      (upto_below 2000000000000000 (of_out a p) (length t.actions)
      (λ o l. below_pick 2000000000000000 (in_or_not p (nth_action t o).add) (pick (le_cases (lo s (Out o)) (At (hi s (Out o)))) (arrival t b s (Out o) (Out a)))
      (λ adds. below_pick 2000000000000000 (le_cases (lo s (Out o)) (At (hi s (Out o)))) (arrival t b s (Out o) (Out a)) (λ live. open_arrival (Out o) (Out a) live))))

  tight10 : (a p : ℕ) (v : Span) → IsLegal t b s (R10 a p v) → IsLegalAtTight t b s (R10 a p v)
  tight10 a p v l =
      let h = adders_under a p (least10 a p) (le_refl (least10 a p)) in (
        least10 a p,
        record {
          live = l.live;
          allowed = record { need = l.allowed.need; tokens = h.tokens; outs = h.outs; moment = moment10 a p l.live };
          moves = lt_le (lo s (Out a)) v (least10 a p) l.moves (adders_over a p v (record { tokens = l.allowed.tokens; outs = l.allowed.outs }));
        },
        record { holds = h; greatest = λ w k. adders_over a p w k },
      )

  -- rules 11 and 12
  tight11_after : (x p a : ℕ) (v : Span) → IsLegal t b s (R11After x p a v) → IsLegalAtTight t b s (R11After x p a v)
  tight11_after x p a v l = (
    arrival t b s (Tok x) (Out a),
    record {
      live = l.live;
      allowed = (
        l.allowed.0,
        l.allowed.1,
        l.allowed.2,
        record { limit = le_refl (arrival t b s (Tok x) (Out a)); moment = from_token x (Out a) l.live (need_there s x p l.allowed.1.need) },
      );
      moves = lt_le (lo s (Out a)) v (arrival t b s (Tok x) (Out a)) l.moves l.allowed.3.limit;
    },
    refl,
  )

  tight11_ahead : (x p a : ℕ) (v : Span) → IsLegal t b s (R11Ahead x p a v) → IsLegalAtTight t b s (R11Ahead x p a v)
  tight11_ahead x p a v l = (
    deadline t b s (Out a) (Tok l.allowed.0),
    record {
      live = l.live;
      allowed = (l.allowed.0, l.allowed.1, l.allowed.2, le_refl (deadline t b s (Out a) (Tok l.allowed.0)));
      moves = le_lt (deadline t b s (Out a) (Tok l.allowed.0)) v (At (hi s (Out a))) l.allowed.3 l.moves;
    },
    ap (λ z. deadline t b s (Out a) (Tok z)) (sym (ap (λ c. only c) l.allowed.1.one)),
  )

  tight12_after : (x a : ℕ) (v : Span) → IsLegal t b s (R12After x a v) → IsLegalAtTight t b s (R12After x a v)
  tight12_after x a v l = (
    arrival t b s (Tok x) (Out a),
    record {
      live = l.live;
      allowed = record {
        clash = l.allowed.clash;
        late = l.allowed.late;
        after = record { limit = le_refl (arrival t b s (Tok x) (Out a)); moment = from_token x (Out a) l.live (token_there (λ z. Clash t z.kind (Act a)) s x (λ k. k) l.allowed.clash) };
      };
      moves = lt_le (lo s (Out a)) v (arrival t b s (Tok x) (Out a)) l.moves l.allowed.after.limit;
    },
    refl,
  )

  tight12_ahead : (x a : ℕ) (v : Span) → IsLegal t b s (R12Ahead x a v) → IsLegalAtTight t b s (R12Ahead x a v)
  tight12_ahead x a v l = (
    deadline t b s (Out a) (Tok x),
    record {
      live = l.live;
      allowed = record { clash = l.allowed.clash; late = l.allowed.late; ahead = le_refl (deadline t b s (Out a) (Tok x)) };
      moves = le_lt (deadline t b s (Out a) (Tok x)) v (At (hi s (Out a))) l.allowed.ahead l.moves;
    },
    refl,
  )

  tight : (step : Step) → IsLegal t b s step → IsLegalAtTight t b s step
  tight (R1 x y v) l = tight1 x y v l
  tight (R2 x y v) l = tight2 x y v l
  tight (R3 x y) l = (Never, l, tt)
  tight (R4 x p v) l = tight4 x p v l
  tight (R5 x p c) l = (Never, l, tt)
  tight (R6 x p) l = (Never, l, tt)
  tight (R7 x p a) l = (Never, l, tt)
  tight (R8 x p c d) l = (Never, l, tt)
  tight (R9After x p d) l = (Never, l, tt)
  tight (R9Ahead x p d) l = (Never, l, tt)
  tight (R10 a p v) l = tight10 a p v l
  tight (R11After x p a v) l = tight11_after x p a v l
  tight (R11Ahead x p a v) l = tight11_ahead x p a v l
  tight (R12After x a v) l = tight12_after x a v l
  tight (R12Ahead x a v) l = tight12_ahead x a v l
  tight (R13 x p c q) l = (Never, l, tt)

pub live_arrivals_fit : LiveArrivalsFit
live_arrivals_fit t b s i fits f live = arrivals t b s i fits f live

pub tight_values : TightValues
tight_values t b s step i fits f legal = let h = tight t b s i fits f step legal in (h.0, h.2, h.1)

one_greatest : (L : Span → Type 0) (v w : Span) → IsGreatest L v → IsGreatest L w → v ≡ w
one_greatest L v w h k = le_antisym v w (k.greatest v h.holds) (h.greatest w k.holds)

pub one_tight_value : OneTightValue
one_tight_value t b s (R1 x y u) v w h k = ap (λ z. R1 x y z) (h ∙ sym k)
one_tight_value t b s (R2 x y u) v w h k = ap (λ z. R2 x y z) (h ∙ sym k)
one_tight_value t b s (R3 x y) v w h k = refl
one_tight_value t b s (R4 x p u) v w h k = ap (λ z. R4 x p z) (one_greatest (IsBeforeAll t b s x p) v w h k)
one_tight_value t b s (R5 x p c) v w h k = refl
one_tight_value t b s (R6 x p) v w h k = refl
one_tight_value t b s (R7 x p a) v w h k = refl
one_tight_value t b s (R8 x p c d) v w h k = refl
one_tight_value t b s (R9After x p d) v w h k = refl
one_tight_value t b s (R9Ahead x p d) v w h k = refl
one_tight_value t b s (R10 a p u) v w h k = ap (λ z. R10 a p z) (one_greatest (IsBeforeAdders t b s a p) v w h k)
one_tight_value t b s (R11After x p a u) v w h k = ap (λ z. R11After x p a z) (h ∙ sym k)
one_tight_value t b s (R11Ahead x p a u) v w h k = ap (λ z. R11Ahead x p a z) (h ∙ sym k)
one_tight_value t b s (R12After x a u) v w h k = ap (λ z. R12After x a z) (h ∙ sym k)
one_tight_value t b s (R12Ahead x a u) v w h k = ap (λ z. R12Ahead x a z) (h ∙ sym k)
one_tight_value t b s (R13 x p c q) v w h k = refl
