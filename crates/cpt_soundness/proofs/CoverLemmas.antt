-- each plan that a sheet with a flaw admits is admitted after one of the flaw's children
use Rattle.std.proofs.Common.{◌≡◌, ◌≢◌, ℕ, suc, ◌≤◌, ◌<◌, ◌==◌, ◌||◌, List, [], ◌∷◌, map, Bool, true, false, if◌then◌else◌, length, Contains, refl, sym, ◌∙◌, ap, subst, arith, inl, inr, ◌⊎◌}
use Rattle.std.proofs.lemmas.Bool.{cases_lt, or_cases, or_left, both_ways, ne_eqb, eq-eqb}
use Rattle.cpt_task.specs.declared.plan.Occ.{Occ}
use Rattle.cpt_task.specs.declared.span.Span.TheVariants.{At}
use Rattle.cpt_task.specs.Shape.{TaskShape}
use Rattle.cpt_task.specs.Timeline.{occurrence_at, IsValid}
use Rattle.cpt_tables.specs.declared.tables.Tables.{Tables}
use Rattle.cpt_tables.specs.Spans.{◌≤ˢ◌}
use Rattle.cpt_tables.specs.Admissible.{nth_action}
use Rattle.cpt_tables.proofs.SpanLemmas.{le_trans}
use Rattle.cpt_sheet.specs.declared.data.Cand.{Cand}
use Rattle.cpt_sheet.specs.declared.data.Cand.TheVariants.{Tok, Out}
use Rattle.cpt_sheet.specs.declared.data.Kind.{Kind}
use Rattle.cpt_sheet.specs.declared.data.Kind.TheVariants.{Start, End, Act}
use Rattle.cpt_sheet.specs.declared.data.Interval.{Interval}
use Rattle.cpt_sheet.specs.declared.data.Need.{Need}
use Rattle.cpt_sheet.specs.declared.data.Token.{Token}
use Rattle.cpt_sheet.specs.declared.data.Sheet.{Sheet}
use Rattle.cpt_sheet.specs.declared.data.Decision.{Decision}
use Rattle.cpt_sheet.specs.declared.data.Decision.TheVariants.{Join, Bring, Before}
use Rattle.cpt_sheet.specs.declared.data.Flaw.{Flaw}
use Rattle.cpt_sheet.specs.declared.data.Flaw.TheVariants.{Threat, OpenNeed, Clash}
use Rattle.cpt_sheet.specs.Roles.{needs_of, adds_of, Adds}
use Rattle.cpt_sheet.specs.View.{no_token, token_at, span_of, lo, hi, kind_of, cands, list_for, has_atom, has_need, before, has, same}
use Rattle.cpt_sheet.specs.Formed.{IsFormed}
use Rattle.cpt_sheet.proofs.FormedLemmas.{at_past}
use Rattle.cpt_calculus.specs.Rules.{only}
use Rattle.cpt_calculus.specs.Decisions.{applied, adders, need_for, beside}
use Rattle.cpt_calculus.specs.Flaws.{IsFlaw, IsThreat, IsClash, children, choice}
use Rattle.cpt_calculus.specs.Plans.{Who, begins, ends, who, who_of_kind, StandsFor, IsOutside, Supplies, Admits}
use Rattle.cpt_calculus.specs.Plans.Who.{begin, finish, place}
use Rattle.cpt_soundness.specs.Acting.{IsAdmissible, kind_who}
use Rattle.cpt_soundness.specs.Children.{with_place, AdmitsAfter, ChildrenCover}
use Rattle.cpt_soundness.proofs.PlanLemmas.{end_le, held, supplies_ahead, supplies_adds, supplies_one}
use Rattle.cpt_calculus.proofs.Parts.{same_is, same_self}
use Rattle.cpt_calculus.proofs.Below.{list_cons}
use Rattle.cpt_soundness.proofs.AdmitLemmas.{admit_list, admit_posted}
use Rattle.cpt_soundness.proofs.ActingLemmas as acting
use Rattle.cpt_soundness.proofs.ActingLemmas.{atom_there, clash_there, clash_there_last}
use Rattle.cpt_soundness.proofs.RuleLemmas as rules
use Rattle.cpt_soundness.proofs.AdderLemmas.{token_among, out_among, made_list}
use Rattle.cpt_calculus.proofs.Adders.{atoms_made}
use Rattle.cpt_calculus.proofs.Brings.{beside_new, beside_old, bring_count, bring_token, bring_kind, bring_span, bring_need, bring_cands, bring_orders}

-- a candidate of a list gives one of the choices
choice_there : (x p : ℕ) (c : Cand) (cs : List Cand) → has c cs ≡ true → Contains (map (choice x p) cs) (choice x p c)
choice_there x p c [] h = cc
choice_there x p c (d ∷ cs) h =
    elim (or_cases (same d c) (has c cs) h) [
      | inl e ↦ (0, omega arith, ap (choice x p) (same_is d c e))
      | inr e ↦ (let r = choice_there x p c cs e in (suc r.0, (let l = r.1 in omega (arith, l)), r.2))
    ]

-- an atom with a list that is not empty is a precondition
pub listed : (p : ℕ) (ns : List Need) → list_for p ns ≢ [] → has_atom p ns ≡ true
listed p [] ne = absurd (ne refl)
listed p (n ∷ ns) ne = go (n.atom == p) (λ e. ne (list_cons p n ns ∙ e)) (λ k. listed p ns k)
  where
    go : (c : Bool) → ((if c then n.cands else list_for p ns) ≢ []) → (list_for p ns ≢ [] → has_atom p ns ≡ true) → (c || has_atom p ns) ≡ true
    go true k ih = refl
    go false k ih = ih k

module _ (t : TaskShape) (b : Tables) (plan : List Occ) (ok : IsAdmissible t b) (valid : IsValid t plan) (f : ℕ → ℕ) (s : Sheet) (formed : IsFormed t s) (h : Admits t plan f s) where
  threat_covers : (x p d : ℕ) → IsThreat t s x p d → (c : Decision) × Contains (children s (Threat x p d)) c × AdmitsAfter t plan f s c
  threat_covers x p d k =
      let r = rules.threat_away t b plan ok valid f s formed h x p d k.0 k.1 in
      elim r.0 [
        | inl a ↦ (
          Before d (only (cands s x p)),
          (0, omega arith, refl),
          admit_posted t plan f s d (only (cands s x p)) h (subst (λ cs. ends t plan (who f s d) ≤ begins t plan (who f s (only cs))) (sym k.1.one) a.first),
        )
        | inr a ↦ (Before x d, (1, omega arith, refl), admit_posted t plan f s x d h a.first)
      ]

  clash_covers : (x y : ℕ) → IsClash t s x y → (c : Decision) × Contains (children s (Clash x y)) c × AdmitsAfter t plan f s c
  clash_covers x y k =
      let kx : StandsFor f plan s (Tok x) (who f s x) = (clash_there t s x (kind_of s (Tok y)) k.interfere, refl) in
      let ky : StandsFor f plan s (Tok y) (who f s y) = (clash_there_last t s y (kind_of s (Tok x)) k.interfere, refl) in
      let lt = k.ordered in
      elim (acting.clash_stands t b plan ok valid f s formed h (Tok x) (Tok y) (who f s x) (who f s y) kx ky (λ e. (let q = h.apart x y kx.0 ky.0 e in omega (arith, lt, q))) k.interfere) [
        | inl a ↦ (Before x y, (0, omega arith, refl), admit_posted t plan f s x y h a.first)
        | inr a ↦ (Before y x, (1, omega arith, refl), admit_posted t plan f s y x h a.first)
      ]

  -- the token that supplies joins
  join_covers : (x p y : ℕ) (w : Who) → StandsFor f plan s (Tok y) w → Supplies t plan p (begins t plan (who f s x)) w → Admits t plan f (applied t s (Join x p y))
  join_covers x p y w ky sup =
      admit_list t plan f s x p (λ cs. Tok y ∷ []) h
      (λ d v kd sd m. subst (λ z. has z (Tok y ∷ []) ≡ true)
      (acting.stands_one t b plan ok valid f s formed h (Tok y) d v (subst (λ z. StandsFor f plan s (Tok y) z) (supplies_one t plan p (begins t plan (who f s x)) w v sup sd) ky) kd)
      (or_left (same (Tok y) (Tok y)) false (same_self (Tok y))))

  module _ (x p a i : ℕ) (need : has_need s x p ≡ true) (out : IsOutside f plan s a i) (sup : Supplies t plan p (begins t plan (who f s x)) (place i)) where
    f_new : with_place f (length s.tokens) i (length s.tokens) ≡ i
    f_new = subst (λ (c : Bool). (if c then i else f (length s.tokens)) ≡ i) (sym (eq-eqb (length s.tokens) (length s.tokens) refl)) refl

    f_old : (y : ℕ) → y < length s.tokens → with_place f (length s.tokens) i y ≡ f y
    f_old y l = subst (λ (c : Bool). (if c then i else f y) ≡ f y) (sym (ne_eqb y (length s.tokens) (λ e. omega (arith, l, e)))) refl

    kind_new : kind_of (applied t s (Bring x p a)) (Tok (length s.tokens)) ≡ Act a
    kind_new = ap (λ (z : Token). z.kind) (bring_token t s x p a)

    who_new : who (with_place f (length s.tokens) i) (applied t s (Bring x p a)) (length s.tokens) ≡ place i
    who_new = ap (λ k. who_of_kind (with_place f (length s.tokens) i) (length s.tokens) k) kind_new ∙ ap place f_new

    who_of_old : (y : ℕ) (k : Kind) → y < length s.tokens → who_of_kind (with_place f (length s.tokens) i) y k ≡ who_of_kind f y k
    who_of_old y Start l = refl
    who_of_old y End l = refl
    who_of_old y (Act o) l = ap place (f_old y l)

    who_old : (y : ℕ) → y < length s.tokens → who (with_place f (length s.tokens) i) (applied t s (Bring x p a)) y ≡ who f s y
    who_old y l = ap (λ k. who_of_kind (with_place f (length s.tokens) i) y k) (bring_kind t s x p a y l) ∙ who_of_old y (kind_of s (Tok y)) l

    out_stands : StandsFor f plan s (Out a) (place i)
    out_stands = (i, refl, out)

    -- a token of the new sheet is the new one or an old one
    token_cases : (y : ℕ) → y < length (applied t s (Bring x p a)).tokens → (y ≡ length s.tokens) ⊎ (y < length s.tokens)
    token_cases y l =
        let k = bring_count t s x p a in
        elim (cases_lt y (length s.tokens)) [ inl m ↦ inr m | inr m ↦ inl (omega (arith, l, k, m)) ]

    -- who stands for someone now is the new token for the new place, or stood for him before
    stands_old : (c : Cand) (w : Who) → StandsFor (with_place f (length s.tokens) i) plan (applied t s (Bring x p a)) c w →
        ((c ≡ Tok (length s.tokens)) × (w ≡ place i)) ⊎ StandsFor f plan s c w
    stands_old (Tok y) w k =
        elim (token_cases y k.0) [
          | inl e ↦ inl (ap Tok e, sym k.1 ∙ (ap (λ z. who (with_place f (length s.tokens) i) (applied t s (Bring x p a)) z) e ∙ who_new))
          | inr l ↦ inr (l, sym (who_old y l) ∙ k.1)
        ]
    stands_old (Out o) w k =
        let n = bring_count t s x p a in
        inr (
          k.0,
          k.1,
          record {
            within = k.2.within;
            action = k.2.action;
            free = λ y l e. k.2.free y (omega (arith, l, n)) (who_old y l ∙ e);
          },
        )

    placed : (y o : ℕ) → y < length (applied t s (Bring x p a)).tokens → kind_of (applied t s (Bring x p a)) (Tok y) ≡ Act o →
        (with_place f (length s.tokens) i y < length plan) × ((occurrence_at plan (with_place f (length s.tokens) i y)).act ≡ o)
    placed y o l e =
        elim (token_cases y l) [
          | inl n ↦ (let q : Act a ≡ Act o = sym kind_new ∙ (ap (λ z. kind_of (applied t s (Bring x p a)) (Tok z)) (sym n) ∙ e) in
              let q' : a ≡ o = cc in
              subst (λ z. (z < length plan) × ((occurrence_at plan z).act ≡ o)) (sym (ap (λ z. with_place f (length s.tokens) i z) n ∙ f_new)) (out.within, out.action ∙ q'))
          | inr m ↦ subst (λ z. (z < length plan) × ((occurrence_at plan z).act ≡ o)) (sym (f_old y m)) (h.placed y o m (sym (bring_kind t s x p a y m) ∙ e))
        ]

    new_apart : (y z : ℕ) → y ≡ length s.tokens → z < length s.tokens →
        who (with_place f (length s.tokens) i) (applied t s (Bring x p a)) y ≡ who (with_place f (length s.tokens) i) (applied t s (Bring x p a)) z → ⊥
    new_apart y z e l k =
        out.free z l (sym (who_old z l) ∙ (sym k ∙ (ap (λ m. who (with_place f (length s.tokens) i) (applied t s (Bring x p a)) m) e ∙ who_new)))

    distinct : (y z : ℕ) → y < length (applied t s (Bring x p a)).tokens → z < length (applied t s (Bring x p a)).tokens →
        who (with_place f (length s.tokens) i) (applied t s (Bring x p a)) y ≡ who (with_place f (length s.tokens) i) (applied t s (Bring x p a)) z → y ≡ z
    distinct y z ly lz k =
        elim (token_cases y ly) [
          | inl e ↦ elim (token_cases z lz) [ inl g ↦ e ∙ sym g | inr g ↦ absurd (new_apart y z e g k) ]
          | inr e ↦ elim (token_cases z lz) [ inl g ↦ absurd (new_apart z y g e (sym k)) | inr g ↦ h.apart y z e g (sym (who_old y e) ∙ (k ∙ who_old z g)) ]
        ]

    spans : (c : Cand) (w : Who) → StandsFor (with_place f (length s.tokens) i) plan (applied t s (Bring x p a)) c w →
        (lo (applied t s (Bring x p a)) c ≤ˢ At (begins t plan w)) × (begins t plan w ≤ hi (applied t s (Bring x p a)) c)
    spans (Tok y) w k =
        elim (token_cases y k.0) [
          | inl e ↦ (let q : w ≡ place i = sym k.1 ∙ (ap (λ z. who (with_place f (length s.tokens) i) (applied t s (Bring x p a)) z) e ∙ who_new) in
              let g : span_of (applied t s (Bring x p a)) (Tok y) ≡ span_of s (Out a) = ap (λ z. span_of (applied t s (Bring x p a)) (Tok z)) e ∙ ap (λ (z : Token). z.span) (bring_token t s x p a) in
              subst (λ (j : Interval). (j.lo ≤ˢ At (begins t plan w)) × (begins t plan w ≤ j.hi)) (sym g)
              (subst (λ v. (lo s (Out a) ≤ˢ At (begins t plan v)) × (begins t plan v ≤ hi s (Out a))) (sym q) (h.spans (Out a) (place i) out_stands)))
          | inr l ↦ subst (λ (j : Interval). (j.lo ≤ˢ At (begins t plan w)) × (begins t plan w ≤ j.hi)) (sym (bring_span t s x p a y l)) (h.spans (Tok y) w (l, sym (who_old y l) ∙ k.1))
        ]
    spans (Out o) w k = elim (stands_old (Out o) w k) [ inl e ↦ (let e0 = e.0 in cc) | inr st ↦ h.spans (Out o) w st ]

    -- two for whom tokens of the new sheet stand
    between : (y z : ℕ) (v w : Who) → who (with_place f (length s.tokens) i) (applied t s (Bring x p a)) y ≡ v → who (with_place f (length s.tokens) i) (applied t s (Bring x p a)) z ≡ w →
        ends t plan v ≤ begins t plan w →
        ends t plan (who (with_place f (length s.tokens) i) (applied t s (Bring x p a)) y) ≤ begins t plan (who (with_place f (length s.tokens) i) (applied t s (Bring x p a)) z)
    between y z v w ey ez le = subst (λ u. ends t plan u ≤ begins t plan (who (with_place f (length s.tokens) i) (applied t s (Bring x p a)) z)) (sym ey) (subst (λ u. ends t plan v ≤ begins t plan u) (sym ez) le)

    who_new_at : (y : ℕ) → y ≡ length s.tokens → who (with_place f (length s.tokens) i) (applied t s (Bring x p a)) y ≡ place i
    who_new_at y e = ap (λ m. who (with_place f (length s.tokens) i) (applied t s (Bring x p a)) m) e ∙ who_new

    who_old_at : (y z : ℕ) → y ≡ z → z < length s.tokens → who (with_place f (length s.tokens) i) (applied t s (Bring x p a)) y ≡ who f s z
    who_old_at y z e l = ap (λ m. who (with_place f (length s.tokens) i) (applied t s (Bring x p a)) m) e ∙ who_old z l

    orders : (y z : ℕ) → before (applied t s (Bring x p a)) y z ≡ true →
        ends t plan (who (with_place f (length s.tokens) i) (applied t s (Bring x p a)) y) ≤ begins t plan (who (with_place f (length s.tokens) i) (applied t s (Bring x p a)) z)
    orders y z e = go (bring_orders t s x p a y z e)
      where
        lx : x < length s.tokens
        lx = acting.need_there t b plan ok valid f s formed h x p need

        go : (((y ≡ length s.tokens) × (z ≡ x)) ⊎ ((y ≡ length s.tokens) × (z ≡ 1))) ⊎ (((y ≡ 0) × (z ≡ length s.tokens)) ⊎ (before s y z ≡ true)) →
            ends t plan (who (with_place f (length s.tokens) i) (applied t s (Bring x p a)) y) ≤ begins t plan (who (with_place f (length s.tokens) i) (applied t s (Bring x p a)) z)
        go (inl (inl k)) = between y z (place i) (who f s x) (who_new_at y k.0) (who_old_at z x k.1 lx) (acting.need_ahead t b plan ok valid f s formed h x p (place i) need sup).first
        go (inl (inr k)) =
            let n = formed.two in
            between y z (place i) finish (who_new_at y k.0) (who_old_at z 1 k.1 (omega (arith, n)) ∙ acting.end_who t b plan ok valid f s formed h) (end_le t plan i out.within)
        go (inr (inl k)) =
            let n = formed.two in
            between y z begin (place i) (who_old_at y 0 k.0 (omega (arith, n)) ∙ acting.start_who t b plan ok valid f s formed h) (who_new_at z k.1) (omega arith)
        go (inr (inr k)) =
            let q = formed.orders y z k in
            between y z (who f s y) (who f s z) (who_old y q.first) (who_old z q.second) (h.orders y z k)

    -- the lists of the old tokens
    old_supplied : (y q : ℕ) → y < length s.tokens → has_need s y q ≡ true → (c : Cand) (w : Who) → StandsFor (with_place f (length s.tokens) i) plan (applied t s (Bring x p a)) c w →
        Supplies t plan q (begins t plan (who f s y)) w → has c (cands (applied t s (Bring x p a)) y q) ≡ true
    old_supplied y q l n c w k m =
        elim (bring_cands t s x p a y q l) [
          | inl e ↦ subst (λ cs. has c cs ≡ true) (sym e) (elim (stands_old c w k) [
            | inl new ↦ subst (λ z. has z (beside a (length s.tokens) (cands s y q)) ≡ true) (sym new.0)
                (beside_new a (length s.tokens) (cands s y q) (h.supplied y q n (Out a) (place i) out_stands (subst (λ z. Supplies t plan q (begins t plan (who f s y)) z) new.1 m)))
            | inr st ↦ beside_old a (length s.tokens) c (cands s y q) (h.supplied y q n c w st m)
          ])
          | inr e ↦ subst (λ cs. has c cs ≡ true) (sym e.2)
              (let sup' : Supplies t plan q (begins t plan (who f s y)) (place i) = subst (λ z. Supplies t plan z (begins t plan (who f s y)) (place i)) (sym e.1) (subst (λ z. Supplies t plan p (begins t plan (who f s z)) (place i)) (sym e.0) sup) in
              let is : w ≡ place i = supplies_one t plan q (begins t plan (who f s y)) w (place i) m sup' in
              elim (stands_old c w k) [
                | inl new ↦ subst (λ z. has z (Tok (length s.tokens) ∷ []) ≡ true) (sym new.0) (or_left (same (Tok (length s.tokens)) (Tok (length s.tokens))) false (same_self (Tok (length s.tokens))))
                | inr st ↦ absurd (not_out c (subst (λ z. StandsFor f plan s c z) is st) (subst (λ z. StandsFor (with_place f (length s.tokens) i) plan (applied t s (Bring x p a)) c z) is k))
              ])
        ]
      where
        not_out : (c : Cand) → StandsFor f plan s c (place i) → StandsFor (with_place f (length s.tokens) i) plan (applied t s (Bring x p a)) c (place i) → ⊥
        not_out (Tok z) st k = out.free z st.0 st.1
        not_out (Out o) st k =
            let n = bring_count t s x p a in
            k.2.free (length s.tokens) (omega (arith, n)) (who_new ∙ k.1)

    -- the lists of the new token
    new_supplied : (q : ℕ) → has_need (applied t s (Bring x p a)) (length s.tokens) q ≡ true → (c : Cand) (w : Who) → StandsFor (with_place f (length s.tokens) i) plan (applied t s (Bring x p a)) c w →
        Supplies t plan q (begins t plan (place i)) w → has c (cands (applied t s (Bring x p a)) (length s.tokens) q) ≡ true
    new_supplied q n c w k m =
        subst (λ cs. has c cs ≡ true) (sym (ap (λ (z : Token). list_for q z.lists) (bring_token t s x p a) ∙ made_list t s q (nth_action t a).pre made)) (go c (stands_old c w k))
      where
        made : has_atom q (map (need_for t s) (nth_action t a).pre) ≡ true
        made = sym (ap (λ (z : Token). has_atom q z.lists) (bring_token t s x p a)) ∙ n

        needed : Contains (needs_of t (kind_who plan (place i))) q
        needed =
            subst (λ z. Contains (nth_action t z).pre q) (sym out.action)
            (subst (λ ps. Contains ps q) (atoms_made t s (nth_action t a).pre) (atom_there q (map (need_for t s) (nth_action t a).pre) made))

        added : Contains (adds_of t (kind_who plan w)) q
        added = supplies_adds t plan ok.bounds valid q (begins t plan (place i)) w (held t plan ok.bounds valid (place i) q out.within needed) m

        among : (c : Cand) → StandsFor f plan s c w → has c (adders t s q) ≡ true
        among (Tok y) st = token_among t s q y st.0 (subst (λ z. Adds t z q) (acting.stands_is t b plan ok valid f s formed h (Tok y) w st).1 added)
        among (Out o) st =
            let lt : (occurrence_at plan st.0).act < length t.actions = valid.of_task st.0 (record { act = 0; start = 0 }) st.2.within in
            let same_act : (occurrence_at plan st.0).act ≡ o = st.2.action in
            let j = h.spans (Out o) w st in
            out_among t s q o (omega (arith, lt, same_act)) (le_trans (lo s (Out o)) (At (begins t plan w)) (At (hi s (Out o))) j.0 j.1)
            (subst (λ z. Adds t z q) (acting.stands_is t b plan ok valid f s formed h (Out o) w st).1 added)

        go : (c : Cand) → ((c ≡ Tok (length s.tokens)) × (w ≡ place i)) ⊎ StandsFor f plan s c w → has c (adders t s q) ≡ true
        go c (inl new) = absurd ((supplies_ahead t plan ok.bounds valid q w (place i) out.within needed m).different new.1)
        go c (inr st) = among c st

    supplied : (y q : ℕ) → has_need (applied t s (Bring x p a)) y q ≡ true → (c : Cand) (w : Who) → StandsFor (with_place f (length s.tokens) i) plan (applied t s (Bring x p a)) c w →
        Supplies t plan q (begins t plan (who (with_place f (length s.tokens) i) (applied t s (Bring x p a)) y)) w → has c (cands (applied t s (Bring x p a)) y q) ≡ true
    supplied y q n c w k m =
        elim (cases_lt y (length (applied t s (Bring x p a)).tokens)) [
          | inr past ↦ absurd (both_ways (has_need (applied t s (Bring x p a)) y q) (ap (λ (z : Token). has_atom q z.lists) (at_past (applied t s (Bring x p a)).tokens no_token y past)) n)
          | inl l ↦ elim (token_cases y l) [
            | inr low ↦ old_supplied y q low (sym (bring_need t s x p a y q low) ∙ n) c w k (subst (λ z. Supplies t plan q (begins t plan z) w) (who_old y low) m)
            | inl e ↦ subst (λ z. has c (cands (applied t s (Bring x p a)) z q) ≡ true) (sym e)
                (new_supplied q (subst (λ z. has_need (applied t s (Bring x p a)) z q ≡ true) e n) c w k (subst (λ z. Supplies t plan q (begins t plan z) w) (who_new_at y e) m))
          ]
        ]

    bring_covers : Admits t plan (with_place f (length s.tokens) i) (applied t s (Bring x p a))
    bring_covers = record { placed = placed; apart = distinct; bound = h.bound; spans = spans; orders = orders; supplied = supplied }

  open_covers : (x p : ℕ) → has_need s x p ≡ true → (c : Cand) (w : Who) → StandsFor f plan s c w → Supplies t plan p (begins t plan (who f s x)) w → AdmitsAfter t plan f s (choice x p c)
  open_covers x p n (Tok y) w k sup = join_covers x p y w k sup
  open_covers x p n (Out a) w k sup = (k.0, bring_covers x p a k.0 n k.2 (subst (λ z. Supplies t plan p (begins t plan (who f s x)) z) k.1 sup))

  covers : (flaw : Flaw) → IsFlaw t s flaw → (d : Decision) × Contains (children s flaw) d × AdmitsAfter t plan f s d
  covers (Threat x p d) k = threat_covers x p d k
  covers (OpenNeed x p) k =
      let n = listed p (token_at s x).lists k.0 in
      let q = acting.named t b plan ok valid f s formed h x p n in
      (choice x p q.0, choice_there x p q.0 (cands s x p) q.4, open_covers x p n q.0 q.1 q.2 q.3)
  covers (Clash x y) k = clash_covers x y k

pub children_cover : ChildrenCover
children_cover t b s flaw plan f ok formed stands valid h = covers t b plan ok valid f s formed h flaw stands
