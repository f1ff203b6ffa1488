-- each legal step leaves less room
use Rattle.std.proofs.Common.{◌≡◌, ℕ, suc, zero, ◌≤◌, ◌<◌, List, [], ◌∷◌, Bool, true, false, ◌&&◌, ◌==◌, if◌then◌else◌, length, refl, sym, ◌∙◌, ap, subst, arith, inl, inr, length-set, sum_by}
use Rattle.std.proofs.lemmas.Bool.{cases_lt, or_right, both_ways, and_from, eq-eqb, or_left}
use Rattle.std.proofs.lemmas.List.Sums.{sum_by-set, sum_by-cons}
use Rattle.std.proofs.lemmas.Option.{unwrap_or-slice_get}
use Rattle.cpt_task.specs.declared.span.Span.{Span}
use Rattle.cpt_task.specs.declared.span.Span.TheVariants.{At, Never}
use Rattle.cpt_task.specs.Shape.{TaskShape}
use Rattle.cpt_tables.specs.Spans.{◌<ˢ◌, IsBelow}
use Rattle.cpt_sheet.specs.declared.data.Cand.{Cand}
use Rattle.cpt_sheet.specs.declared.data.Cand.TheVariants.{Tok, Out}
use Rattle.cpt_sheet.specs.declared.data.Interval.{Interval}
use Rattle.cpt_sheet.specs.declared.data.Need.{Need}
use Rattle.cpt_sheet.specs.declared.data.Token.{Token}
use Rattle.cpt_sheet.specs.declared.data.Sheet.{Sheet}
use Rattle.cpt_sheet.specs.declared.data.Change.TheVariants.{Raise, Lower, Take, Post}
use Rattle.cpt_sheet.specs.View.{lo, hi, span_of, token_at, no_token, no_span, has, list_for, before}
use Rattle.cpt_sheet.specs.Edits.{changed, with_span, with_token, without, revised, moment_or}
use Rattle.cpt_sheet.specs.Formed.{IsFormed}
use Rattle.cpt_sheet.proofs.FormedLemmas.{lo_below}
use Rattle.cpt_calculus.specs.Rules.{change_of}
use Rattle.cpt_calculus.proofs.Parts.{without_shorter}
use Rattle.cpt_calculus.proofs.Below.{list_cons, order_posted}
use Rattle.cpt_steps.specs.Landing.{IsThere}
use Rattle.cpt_steps.specs.Room.{span_room, interval_room, token_room, sum_below, order_room, orders_room, room, ChangesLessen, StepsLessen}
use Rattle.cpt_steps.proofs.LandingLemmas.{need_there, steps_can_be_made}

spans_fall : (n v : Span) → IsBelow 4000000000000000 n → n <ˢ v → span_room v < span_room n
spans_fall (At n) (At v) i h = omega arith
spans_fall (At n) Never i h = omega arith
spans_fall Never v i h = absurd h

needs_fall : (p : ℕ) (c : Cand) (ns : List Need) → has c (list_for p ns) ≡ true → sum_by (λ (n : Need). length n.cands) (revised p (without c) ns) < sum_by (λ (n : Need). length n.cands) ns
needs_fall p c [] h = cc
needs_fall p c (n ∷ ns) h = go (n.atom == p) (subst (λ (l : List Cand). has c l ≡ true) (list_cons p n ns) h) (λ k. needs_fall p c ns k)
  where
    go : (t : Bool) → has c (if t then n.cands else list_for p ns) ≡ true → (has c (list_for p ns) ≡ true → sum_by (λ (m : Need). length m.cands) (revised p (without c) ns) < sum_by (λ (m : Need). length m.cands) ns) →
        sum_by (λ (m : Need). length m.cands) (if t then (record n { cands = without c n.cands } ∷ ns) else (n ∷ revised p (without c) ns)) < sum_by (λ (m : Need). length m.cands) (n ∷ ns)
    go true k ih = let e = without_shorter c n.cands k in simp sum_by-cons (omega arith)
    go false k ih = let e = ih k in simp sum_by-cons (omega arith)

-- sums over numbers
pub sums_le : (f g : ℕ → ℕ) (n : ℕ) → ((k : ℕ) → k < n → f k ≤ g k) → sum_below f n ≤ sum_below g n
sums_le f g zero h = omega arith
sums_le f g (suc n) h = let e = sums_le f g n (λ k l. h k (omega arith)) in let k = h n (omega arith) in omega arith

sums_lt : (f g : ℕ → ℕ) (n j : ℕ) → ((k : ℕ) → k < n → f k ≤ g k) → j < n → f j < g j → sum_below f n < sum_below g n
sums_lt f g zero j h l m = absurd (omega arith)
sums_lt f g (suc n) j h l m =
    elim (cases_lt j n) [
      | inl i ↦ (let e = sums_lt f g n j (λ k r. h k (omega arith)) i m in let k = h n (omega arith) in omega arith)
      | inr i ↦ (let same : j ≡ n = omega arith in
          let e = sums_le f g n (λ k r. h k (omega arith)) in
          let k : f n < g n = subst (λ z. f z < g z) same m in omega arith)
    ]

module _ (s : Sheet) where
  token_falls : (x : ℕ) (t : Token) → x < length s.tokens → token_room t < token_room (token_at s x) → room (with_token s x t) < room s
  token_falls x t l h =
      let e = sum_by-set token_room s.tokens x t no_token l in
      let e' = ap token_room (unwrap_or-slice_get s.tokens x no_token) in
      let k : orders_room (with_token s x t) (length (with_token s x t).tokens) ≡ orders_room s (length s.tokens) = ap (λ n. orders_room s n) (length-set s.tokens x t) in
      omega arith

  span_falls : (t : TaskShape) (c : Cand) (i : Interval) → IsFormed t s → IsThere t s c → interval_room i < interval_room (span_of s c) → room (with_span s c i) < room s
  span_falls t (Tok x) i f l h = token_falls x (record (token_at s x) { span = i }) l (omega arith)
  span_falls t (Out a) i f l h =
      let k = f.outs in
      let m : a < length s.outs = omega arith in
      let e = sum_by-set interval_room s.outs a i no_span m in
      let e' = ap interval_room (unwrap_or-slice_get s.outs a no_span) in omega arith

  order_le : (x y u v : ℕ) → order_room (changed s (Post x y)) u v ≤ order_room s u v
  order_le x y u v = go (before s u v) (before (changed s (Post x y)) u v) refl refl
    where
      go : (b d : Bool) → before s u v ≡ b → before (changed s (Post x y)) u v ≡ d → (if d then 0 else 1) ≤ (if b then 0 else 1)
      go true true e k = omega arith
      go true false e k = absurd (both_ways (before (changed s (Post x y)) u v) k (order_posted x y u v s.orders ∙ or_right ((x == u) && (y == v)) (before s u v) e))
      go false true e k = omega arith
      go false false e k = omega arith

  order_lt : (x y : ℕ) → before s x y ≡ false → order_room (changed s (Post x y)) x y < order_room s x y
  order_lt x y h =
      let e : before (changed s (Post x y)) x y ≡ true = order_posted x y x y s.orders ∙ or_left ((x == x) && (y == y)) (before s x y) (and_from (x == x) (y == y) (eq-eqb x x refl) (eq-eqb y y refl)) in
      subst (λ b. (if b then 0 else 1) < order_room s x y) (sym e) (subst (λ (b : Bool). 0 < (if b then 0 else 1)) (sym h) (omega arith))

  pub orders_fall : (x y : ℕ) → x < length s.tokens → y < length s.tokens → before s x y ≡ false → orders_room (changed s (Post x y)) (length s.tokens) < orders_room s (length s.tokens)
  orders_fall x y i j h =
      let row : (u : ℕ) → sum_below (order_room (changed s (Post x y)) u) (length s.tokens) ≤ sum_below (order_room s u) (length s.tokens) =
      λ u. sums_le (order_room (changed s (Post x y)) u) (order_room s u) (length s.tokens) (λ v l. order_le x y u v) in
      let here : sum_below (order_room (changed s (Post x y)) x) (length s.tokens) < sum_below (order_room s x) (length s.tokens) =
      sums_lt (order_room (changed s (Post x y)) x) (order_room s x) (length s.tokens) y (λ v l. order_le x y x v) j (order_lt x y h) in
      sums_lt (λ u. sum_below (order_room (changed s (Post x y)) u) (length s.tokens)) (λ u. sum_below (order_room s u) (length s.tokens)) (length s.tokens) x (λ u l. row u) i here

  post_falls : (x y : ℕ) → x < length s.tokens → y < length s.tokens → before s x y ≡ false → room (changed s (Post x y)) < room s
  post_falls x y i j h = let all = orders_fall x y i j h in omega arith

  low : (c : Cand) (v : Span) → v <ˢ At (hi s c) → moment_or v (hi s c) < hi s c
  low c (At m) h = h
  low c Never h = absurd h

pub changes_lessen : ChangesLessen
changes_lessen t s (Raise c v) f h = span_falls s t c (record (span_of s c) { lo = v }) f h.0 (let e = spans_fall (lo s c) v (lo_below t s c f) h.1 in omega arith)
changes_lessen t s (Lower c v) f h = span_falls s t c (record (span_of s c) { hi = moment_or v (hi s c) }) f h.0 (let e = low s c v h.1 in omega arith)
changes_lessen t s (Take x p c) f h =
    token_falls s x (record (token_at s x) { lists = revised p (without c) (token_at s x).lists }) (need_there s x p h.0) (let e = needs_fall p c (token_at s x).lists h.1 in omega arith)
changes_lessen t s (Post x y) f h = post_falls s x y h.0.first h.0.second h.1

pub steps_lessen : StepsLessen
steps_lessen t b s step f legal = changes_lessen t s (change_of s step) f (steps_can_be_made t b s step f legal)
