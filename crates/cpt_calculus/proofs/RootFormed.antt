-- the root sheet is formed
use Rattle.std.proofs.Common.{◌≡◌, ℕ, zero, suc, ◌-◌, ◌≤◌, ◌<◌, [], ◌∷◌, Bool, true, false, ◌&&◌, ◌==◌, nat_le, if◌then◌else◌, length, map, slice_get, unwrap_or, refl, sym, subst, arith, lit≤, inl, inr, length-append}
use Rattle.std.proofs.Common.{Result, Ok, Err}
use Rattle.std.specs.Prelude.{IfOk, OnOk}
use Rattle.cpt_task.specs.declared.memory.Memory.{Memory}
use Rattle.std.proofs.lemmas.Bool.{or_cases, and_parts, eqb-true}
use Rattle.cpt_task.specs.declared.span.Span.{Span}
use Rattle.cpt_task.specs.declared.span.Span.TheVariants.{At, Never}
use Rattle.cpt_task.specs.Shape.{TaskShape, InBounds}
use Rattle.cpt_tables.specs.declared.tables.Tables.{Tables}
use Rattle.cpt_tables.specs.Spans.{IsBelow}
use Rattle.cpt_tables.specs.Shapes.{set_span_of}
use Rattle.cpt_tables.specs.Admissible.{nth_action}
use Rattle.cpt_tables.proofs.SpanLemmas.{below_more}
use Rattle.cpt_sheet.specs.declared.data.Cand.{Cand}
use Rattle.cpt_sheet.specs.declared.data.Cand.TheVariants.{Tok, Out}
use Rattle.cpt_sheet.specs.declared.data.Kind.TheVariants.{End, Act}
use Rattle.cpt_sheet.specs.declared.data.Interval.{Interval}
use Rattle.cpt_sheet.specs.declared.data.Sheet.{Sheet}
use Rattle.cpt_sheet.specs.Roles.{Adds, needs_of}
use Rattle.cpt_sheet.specs.View.{kind_of, token_at, no_span, has, before, cands, lo, hi}
use Rattle.cpt_sheet.specs.Gaps.{FitsTask, gap}
use Rattle.cpt_sheet.specs.Formed.{IsFormed, CanAdd, IsAscending}
use Rattle.cpt_sheet.proofs.GapLemmas.{set_below, needs_within}
use Rattle.cpt_calculus.specs.Root.{window, out_at_root, outs_at_root, bare_root, root_of}
use Rattle.cpt_calculus.proofs.Adders.{IsAdderIn, made_adder, made_ascending, atoms_made}
use Rattle.cpt_calculus.proofs.Snocs.{SnocAt, snoc_at}
use Rattle.cpt_calculus.proofs.Snocs.SnocAt.{old, newest, past}

outs_count : (t : TaskShape) (w : Tables) (b n : ℕ) → length (outs_at_root t w b n) ≡ n
outs_count t w b zero = refl
outs_count t w b (suc n) = let e = outs_count t w b n in let k = length-append (outs_at_root t w b n) (out_at_root t w b n ∷ []) in omega arith

-- an interval within the bounds of an outside action
pub record IsOutside (b : ℕ) (i : Interval) : Type 0 where
  pub low : IsBelow 2000000000000000 i.lo
  pub high : i.hi ≤ b

window_outside : (first left : Span) (b : ℕ) → IsBelow 1000000000000000 first → IsOutside b (window first left b)
window_outside first (At n) b h = go (nat_le n b)
  where
    go : (c : Bool) → IsOutside b (if c then record { lo = first; hi = b - n } else no_span)
    go true = record { low = below_more 1000000000000000 2000000000000000 first (lit≤ tt) h; high = omega arith }
    go false = record { low = tt; high = omega arith }
window_outside first Never b h = record { low = tt; high = omega arith }

module _ (t : TaskShape) (w : Tables) (b : ℕ) (bounds : InBounds t) (fits : FitsTask t w) where
  out_outside : (a : ℕ) → IsOutside b (out_at_root t w b a)
  out_outside a = window_outside (set_span_of w.pairs (nth_action t a).pre) (gap t w (Act a) End) b (set_below t w (nth_action t a).pre fits (needs_within t (Act a) bounds))

  outs_outside : (n a : ℕ) → IsOutside b (unwrap_or (slice_get (outs_at_root t w b n) a) no_span)
  outs_outside zero a = record { low = tt; high = omega arith }
  outs_outside (suc n) a = go (snoc_at (outs_at_root t w b n) (out_at_root t w b n) no_span a) (outs_outside n a)
    where
      go : SnocAt (outs_at_root t w b n) (out_at_root t w b n) no_span a (unwrap_or (slice_get (outs_at_root t w b (suc n)) a) no_span) →
          IsOutside b (unwrap_or (slice_get (outs_at_root t w b n) a) no_span) → IsOutside b (unwrap_or (slice_get (outs_at_root t w b (suc n)) a) no_span)
      go (old l e) ih = subst (λ z. IsOutside b z) (sym e) ih
      go (newest l e) ih = subst (λ z. IsOutside b z) (sym e) (out_outside n)
      go (past l e) ih = subst (λ z. IsOutside b z) (sym e) (record { low = tt; high = omega arith })

  end_adds : (p : ℕ) → Adds t End p → ⊥
  end_adds p e = let l = e.1 in omega arith

  can_add : (p : ℕ) (c : Cand) → IsAdderIn t (bare_root t w b) p c → CanAdd t (root_of t w b) 1 p c
  can_add p (Tok zero) h = (omega arith, (λ e. omega arith), h.1)
  can_add p (Tok (suc zero)) h = absurd (end_adds p h.1)
  can_add p (Tok (suc (suc y))) h = let l = h.0 in absurd (omega arith)
  can_add p (Out a) h = h

  only_order : (x y : ℕ) → before (root_of t w b) x y ≡ true → (0 ≡ x) × (1 ≡ y)
  only_order x y h =
      elim (or_cases ((0 == x) && (1 == y)) false h) [
        | inl k ↦ (let m = and_parts (0 == x) (1 == y) k in (eqb-true 0 x m.0, eqb-true 1 y m.1))
        | inr k ↦ cc
      ]

  supply : (x p : ℕ) (c : Cand) → has c (cands (root_of t w b) x p) ≡ true → CanAdd t (root_of t w b) x p c
  supply zero p c h = cc
  supply (suc zero) p c h = can_add p c (made_adder t (bare_root t w b) p t.goal c h)
  supply (suc (suc x)) p c h = cc

  ascending : (x p : ℕ) → IsAscending (cands (root_of t w b) x p)
  ascending zero p = tt
  ascending (suc zero) p = made_ascending t (bare_root t w b) p t.goal
  ascending (suc (suc x)) p = tt

  needs : (x : ℕ) → x < 2 → map (λ n. n.atom) (token_at (root_of t w b) x).lists ≡ needs_of t (kind_of (root_of t w b) (Tok x))
  needs zero h = refl
  needs (suc zero) h = atoms_made t (bare_root t w b) t.goal
  needs (suc (suc x)) h = absurd (omega arith)

  within : (c : Cand) → hi (root_of t w b) c ≤ b
  within (Tok zero) = omega arith
  within (Tok (suc zero)) = omega arith
  within (Tok (suc (suc x))) = omega arith
  within (Out a) = (outs_outside (length t.actions) a).high

  tokens_below : (x : ℕ) → IsBelow 4000000000000000 (lo (root_of t w b) (Tok x))
  tokens_below zero = lit≤ tt
  tokens_below (suc zero) = below_more 1000000000000000 4000000000000000 (set_span_of w.pairs t.goal) (lit≤ tt) (set_below t w t.goal fits bounds.goal)
  tokens_below (suc (suc x)) = tt

  pub root_formed : b ≤ 1000000 → IsFormed t (root_of t w b)
  root_formed le = record {
    two = lit≤ tt;
    start = refl;
    end = refl;
    actions = λ x h l. absurd (omega arith);
    outs = outs_count t w b (length t.actions);
    needs = needs;
    supply = supply;
    ascending = ascending;
    bound = le;
    within = within;
    outs_below = λ a. (outs_outside (length t.actions) a).low;
    tokens_below = tokens_below;
    orders = λ x y h. (let e = only_order x y h in let d = e.0 in let g = e.1 in
        record { first = omega arith; second = omega arith; different = λ k. omega arith; forward = λ k. (let m = k.0 in omega arith) });
    increasing = ((λ x y h. cc), tt);
    ends = refl;
    after_start = λ x h l. absurd (omega arith);
    before_end = λ x h l. absurd (omega arith);
  }

pub root_ok : (t : TaskShape) (w : Tables) (b : ℕ) (r : Result Sheet Memory) → IfOk r (λ s. s ≡ root_of t w b) → OnOk r (InBounds t) → FitsTask t w → b ≤ 1000000 → IfOk r (IsFormed t)
root_ok t w b (Ok s) e bounds fits le = subst (λ (z : Sheet). IsFormed t z) (sym e) (root_formed t w b bounds fits le)
root_ok t w b (Err x) e bounds fits le = e
