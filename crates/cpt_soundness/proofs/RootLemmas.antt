-- the root admits every valid plan within its bound
use Rattle.std.proofs.Common.{◌≡◌, ℕ, suc, zero, ◌-◌, ◌≤◌, ◌<◌, ◌==◌, ◌&&◌, List, [], ◌∷◌, map, Bool, true, false, if◌then◌else◌, length, get_or, Contains, refl, sym, ◌∙◌, subst, arith, inl, inr}
use Rattle.std.proofs.lemmas.Bool.{cases_lt, eqb-true, or_cases, and_parts, le-leb}
use Rattle.std.proofs.lemmas.List.{get_or_append_left, length-append}
use Rattle.std.proofs.Math.Seq.{get_or-append_seam}
use Rattle.std.proofs.lemmas.Option.{unwrap_or-slice_get}
use Rattle.cpt_task.specs.declared.plan.Occ.{Occ}
use Rattle.cpt_task.specs.declared.span.Span.{Span}
use Rattle.cpt_task.specs.declared.span.Span.TheVariants.{At, Never}
use Rattle.cpt_task.specs.Shape.{TaskShape}
use Rattle.cpt_task.specs.Timeline.{occurrence_at, makespan, IsValid}
use Rattle.cpt_tables.specs.declared.tables.Tables.{Tables}
use Rattle.cpt_tables.specs.Spans.{◌≤ˢ◌, ◌+ˢ◌}
use Rattle.cpt_tables.specs.Shapes.{set_span_of}
use Rattle.cpt_tables.specs.Admissible.{nth_action}
use Rattle.cpt_tables.proofs.SpanLemmas.{le_trans}
use Rattle.cpt_sheet.specs.declared.data.Cand.{Cand}
use Rattle.cpt_sheet.specs.declared.data.Cand.TheVariants.{Tok, Out}
use Rattle.cpt_sheet.specs.declared.data.Kind.TheVariants.{End, Act}
use Rattle.cpt_sheet.specs.declared.data.Interval.{Interval}
use Rattle.cpt_sheet.specs.Roles.{adds_of, Adds}
use Rattle.cpt_sheet.specs.Gaps.{gap}
use Rattle.cpt_sheet.specs.View.{no_span, span_of, lo, hi, kind_of, cands, has_need, before, has}
use Rattle.cpt_calculus.specs.Decisions.{need_for, adders}
use Rattle.cpt_calculus.specs.Root.{window, out_at_root, outs_at_root, bare_root, root_of}
use Rattle.cpt_calculus.specs.Plans.{Who, begins, ends, who, StandsFor, Supplies}
use Rattle.cpt_calculus.specs.Plans.Who.{finish, place}
use Rattle.cpt_soundness.specs.Acting.{IsAdmissible, kind_who, IsAhead}
use Rattle.cpt_soundness.specs.Laws.{RootAdmits}
use Rattle.cpt_soundness.proofs.PlanLemmas.{end_le, set_by, held, keeps_gaps, supplies_adds}
use Rattle.cpt_soundness.proofs.ActingLemmas.{atom_there}
use Rattle.cpt_soundness.proofs.AdderLemmas.{token_among, out_among, made_list}
use Rattle.cpt_calculus.proofs.Adders.{atoms_made}

pub count_outs : (t : TaskShape) (b : Tables) (m n : ℕ) → length (outs_at_root t b m n) ≡ n
count_outs t b m zero = refl
count_outs t b m (suc n) = let k = count_outs t b m n in length-append (outs_at_root t b m n) (out_at_root t b m n ∷ []) ∙ omega (arith, k)

pub outs_at : (t : TaskShape) (b : Tables) (m n a : ℕ) → a < n → get_or (outs_at_root t b m n) a no_span ≡ out_at_root t b m a
outs_at t b m zero a l = absurd (omega arith)
outs_at t b m (suc n) a l =
    let k = count_outs t b m n in
    elim (cases_lt a n) [
      | inl low ↦ get_or_append_left (outs_at_root t b m n) (out_at_root t b m n ∷ []) no_span a (omega (arith, low, k)) ∙ outs_at t b m n a low
      | inr high ↦ (let e : n ≡ a = omega (arith, l, high) in
          subst (λ z. get_or (outs_at_root t b m (suc n)) z no_span ≡ out_at_root t b m z) e
          (subst (λ z. get_or (outs_at_root t b m (suc n)) z no_span ≡ out_at_root t b m n) k (get_or-append_seam (outs_at_root t b m n) (out_at_root t b m n) [] no_span)))
    ]

-- who can begin after the first moment and leave the gap to the bound begins within the window
in_window : (first g : Span) (m begun : ℕ) → first ≤ˢ At begun → (At begun +ˢ g) ≤ˢ At m → ((window first g m).lo ≤ˢ At begun) × (begun ≤ (window first g m).hi)
in_window first (At n) m begun early late =
    subst (λ (c : Bool). let i : Interval = (if c then record { lo = first; hi = m - n } else no_span) in (i.lo ≤ˢ At begun) × (begun ≤ i.hi)) (sym (le-leb n m (omega (arith, late))))
    (early, omega (arith, late))
in_window first Never m begun early late = absurd late

module _ (t : TaskShape) (b : Tables) (m : ℕ) (plan : List Occ) (f : ℕ → ℕ) (ok : IsAdmissible t b) (valid : IsValid t plan) (short : makespan t plan ≤ m) where
  placed : (x a : ℕ) → x < length (root_of t b m).tokens → kind_of (root_of t b m) (Tok x) ≡ Act a → (f x < length plan) × ((occurrence_at plan (f x)).act ≡ a)
  placed zero a l e = cc
  placed (suc zero) a l e = cc
  placed (suc (suc x)) a l e = absurd (omega arith)

  apart : (x y : ℕ) → x < length (root_of t b m).tokens → y < length (root_of t b m).tokens → who f (root_of t b m) x ≡ who f (root_of t b m) y → x ≡ y
  apart zero zero l k e = refl
  apart zero (suc zero) l k e = cc
  apart zero (suc (suc y)) l k e = absurd (omega arith)
  apart (suc zero) zero l k e = cc
  apart (suc zero) (suc zero) l k e = refl
  apart (suc zero) (suc (suc y)) l k e = absurd (omega arith)
  apart (suc (suc x)) y l k e = absurd (omega arith)

  out_span : (a i : ℕ) → i < length plan → (occurrence_at plan i).act ≡ a →
      ((span_of (root_of t b m) (Out a)).lo ≤ˢ At (occurrence_at plan i).start) × ((occurrence_at plan i).start ≤ (span_of (root_of t b m) (Out a)).hi)
  out_span a i l e =
      let lt : (occurrence_at plan i).act < length t.actions = valid.of_task i (record { act = 0; start = 0 }) l in
      let e1 : span_of (root_of t b m) (Out a) ≡ out_at_root t b m a =
      unwrap_or-slice_get (outs_at_root t b m (length t.actions)) a no_span ∙ outs_at t b m (length t.actions) a (omega (arith, lt, e)) in
      let ahead : IsAhead t plan (place i) finish = record { different = λ k. cc; forward = λ k. (let k0 = k.0 in cc); first = end_le t plan i l } in
      subst (λ (z : Interval). (z.lo ≤ˢ At (occurrence_at plan i).start) × ((occurrence_at plan i).start ≤ z.hi)) (sym e1)
      (subst (λ z. ((out_at_root t b m z).lo ≤ˢ At (occurrence_at plan i).start) × ((occurrence_at plan i).start ≤ (out_at_root t b m z).hi)) e
      (in_window (set_span_of b.pairs (nth_action t (occurrence_at plan i).act).pre) (gap t b (Act (occurrence_at plan i).act) End) m (occurrence_at plan i).start
      (set_by t b plan ok valid (place i) l)
      (le_trans (At (occurrence_at plan i).start +ˢ gap t b (Act (occurrence_at plan i).act) End) (At (makespan t plan)) (At m) (keeps_gaps t b plan ok valid (place i) finish l tt ahead) short)))

  spans : (c : Cand) (w : Who) → StandsFor f plan (root_of t b m) c w → (lo (root_of t b m) c ≤ˢ At (begins t plan w)) × (begins t plan w ≤ hi (root_of t b m) c)
  spans (Tok zero) w k = subst (λ z. (At 0 ≤ˢ At (begins t plan z)) × (begins t plan z ≤ 0)) k.1 (omega arith, omega arith)
  spans (Tok (suc zero)) w k = subst (λ z. (set_span_of b.pairs t.goal ≤ˢ At (begins t plan z)) × (begins t plan z ≤ m)) k.1 (set_by t b plan ok valid finish tt, short)
  spans (Tok (suc (suc x))) w k = let l = k.0 in absurd (omega (arith, l))
  spans (Out a) w k =
      subst (λ z. (lo (root_of t b m) (Out a) ≤ˢ At (begins t plan z)) × (begins t plan z ≤ hi (root_of t b m) (Out a))) (sym k.1) (out_span a k.0 k.2.within k.2.action)

  orders : (x y : ℕ) → before (root_of t b m) x y ≡ true → ends t plan (who f (root_of t b m) x) ≤ begins t plan (who f (root_of t b m) y)
  orders x y e =
      elim (or_cases ((0 == x) && (1 == y)) false e) [
        | inl k ↦ (let q = and_parts (0 == x) (1 == y) k in
            subst (λ z. ends t plan (who f (root_of t b m) z) ≤ begins t plan (who f (root_of t b m) y)) (eqb-true 0 x q.0) (omega arith))
        | inr k ↦ cc
      ]

  -- the goal's lists have all that add
  goal_list : (p : ℕ) → has_need (root_of t b m) 1 p ≡ true → (c : Cand) (w : Who) → StandsFor f plan (root_of t b m) c w → Supplies t plan p (makespan t plan) w → Contains (adds_of t (kind_who plan w)) p →
      has c (adders t (bare_root t b m) p) ≡ true
  goal_list p n (Tok zero) w k sup adds = token_among t (bare_root t b m) p 0 (omega arith) (subst (λ z. Contains (adds_of t (kind_who plan z)) p) (sym k.1) adds)
  goal_list p n (Tok (suc zero)) w k sup adds = absurd (subst (λ z. Supplies t plan p (makespan t plan) z) (sym k.1) sup)
  goal_list p n (Tok (suc (suc x))) w k sup adds = let l = k.0 in absurd (omega (arith, l))
  goal_list p n (Out a) w k sup adds =
      let lt : (occurrence_at plan k.0).act < length t.actions = valid.of_task k.0 (record { act = 0; start = 0 }) k.2.within in
      let i = out_span a k.0 k.2.within k.2.action in
      let same_act : (occurrence_at plan k.0).act ≡ a = k.2.action in
      out_among t (bare_root t b m) p a (omega (arith, lt, same_act)) (le_trans (lo (root_of t b m) (Out a)) (At (occurrence_at plan k.0).start) (At (hi (root_of t b m) (Out a))) i.0 i.1)
      (subst (λ z. Adds t (Act z) p) k.2.action (subst (λ z. Contains (adds_of t (kind_who plan z)) p) k.1 adds))

  supplied : (x p : ℕ) → has_need (root_of t b m) x p ≡ true → (c : Cand) (w : Who) → StandsFor f plan (root_of t b m) c w →
      Supplies t plan p (begins t plan (who f (root_of t b m) x)) w → has c (cands (root_of t b m) x p) ≡ true
  supplied zero p n c w k sup = cc
  supplied (suc zero) p n c w k sup =
      let needed : Contains t.goal p = subst (λ ps. Contains ps p) (atoms_made t (bare_root t b m) t.goal) (atom_there p (map (need_for t (bare_root t b m)) t.goal) n) in
      subst (λ cs. has c cs ≡ true) (sym (made_list t (bare_root t b m) p t.goal n))
      (goal_list p n c w k sup (supplies_adds t plan ok.bounds valid p (makespan t plan) w (held t plan ok.bounds valid finish p tt needed) sup))
  supplied (suc (suc x)) p n c w k sup = cc

pub root_admits : RootAdmits
root_admits t b m plan f ok valid short = record {
  placed = placed t b m plan f ok valid short;
  apart = apart t b m plan f ok valid short;
  bound = short;
  spans = spans t b m plan f ok valid short;
  orders = orders t b m plan f ok valid short;
  supplied = supplied t b m plan f ok valid short;
}
