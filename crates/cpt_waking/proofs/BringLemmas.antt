-- which outside actions a new token does not wake
use Rattle.std.proofs.Common.{◌≡◌, ℕ, ◌<◌, ◌==◌, nat_eq, List, [], ◌∷◌, length, map, Bool, true, false, if◌then◌else◌, refl, sym, ◌∙◌, ap, subst, inl, inr, arith}
use Rattle.std.proofs.lemmas.Bool.{cases_lt, or_cases, or_left, or_right, eqb-true, eq-eqb}
use Rattle.std.proofs.lemmas.Option.{unwrap_or-slice_get}
use Rattle.std.proofs.lemmas.List.{get_or_default}
use Rattle.std.proofs.lemmas.Map.Views.{Contains-from_any}
use Rattle.cpt_task.specs.declared.span.Span.{Span}
use Rattle.cpt_task.specs.declared.span.Span.TheVariants.{At}
use Rattle.cpt_task.specs.Shape.{TaskShape}
use Rattle.cpt_task.specs.Timeline.{is_in}
use Rattle.cpt_tables.specs.declared.tables.Tables.{Tables}
use Rattle.cpt_tables.specs.Spans.{◌≤ˢ◌, ◌+ˢ◌}
use Rattle.cpt_tables.specs.Admissible.{nth_action}
use Rattle.cpt_sheet.specs.declared.data.Cand.{Cand}
use Rattle.cpt_sheet.specs.declared.data.Cand.TheVariants.{Tok, Out}
use Rattle.cpt_sheet.specs.declared.data.Interval.{Interval}
use Rattle.cpt_sheet.specs.declared.data.Kind.TheVariants.{Act}
use Rattle.cpt_sheet.specs.declared.data.Token.{Token}
use Rattle.cpt_sheet.specs.declared.data.Sheet.{Sheet}
use Rattle.cpt_sheet.specs.declared.data.Step.{Step}
use Rattle.cpt_sheet.specs.declared.data.Step.TheVariants.{R10, R11After, R11Ahead, R12After, R12Ahead}
use Rattle.cpt_sheet.specs.declared.data.Decision.TheVariants.{Bring}
use Rattle.cpt_sheet.specs.Roles.{Adds, Deletes, Clash}
use Rattle.cpt_sheet.specs.View.{lo, hi, kind_of, cands, has_need, has_atom, has, same, token_at, no_token}
use Rattle.cpt_sheet.specs.Gaps.{gap, back, arrival, deadline, CanPrecede}
use Rattle.cpt_sheet.specs.Live.{IsLive}
use Rattle.cpt_sheet.specs.Formed.{IsFormed}
use Rattle.cpt_calculus.specs.Rules.{IsToken, IsLegal, IsBeforeToken, IsBeforeTokens, IsOutsideThreat, ComesAfter, ComesAhead, is_of}
use Rattle.cpt_calculus.specs.Decisions.{applied, beside, behind_tokens, need_for}
use Rattle.cpt_calculus.proofs.Parts.{same_self}
use Rattle.cpt_steps.specs.Landing.{LandsAt}
use Rattle.cpt_waking.specs.Waking.{BringWakes}
use Rattle.cpt_calculus.proofs.Brings.{beside_old, bring_count, bring_token, bring_kind, bring_span, bring_need, bring_cands}
use Rattle.cpt_calculus.proofs.Reading.{need_there, token_there, deletes_there}

-- a list with the offer that is one token is the old one
beside_one : (a n z : ℕ) (cs : List Cand) → beside a n cs ≡ Tok z ∷ [] → cs ≡ Tok z ∷ []
beside_one a n z cs e = go (has (Out a) cs) refl e
  where
    go : (b : Bool) → has (Out a) cs ≡ b → (if b then behind_tokens n cs else cs) ≡ Tok z ∷ [] → cs ≡ Tok z ∷ []
    go true h k = absurd (let m : has (Out a) (Tok z ∷ []) ≡ true = subst (λ (l : List Cand). has (Out a) l ≡ true) e (beside_old a n (Out a) cs h) in cc)
    go false h k = k

-- what the new token needs
made_need : (t : TaskShape) (s : Sheet) (q : ℕ) (ps : List ℕ) → has_atom q (map (need_for t s) ps) ≡ true → is_in q ps ≡ true
made_need t s q [] h = cc
made_need t s q (p ∷ ps) h =
    elim (or_cases (p == q) (has_atom q (map (need_for t s) ps)) h) [
      | inl e ↦ or_left (nat_eq q p) (is_in q ps) (eq-eqb q p (sym (eqb-true p q e)))
      | inr e ↦ or_right (nat_eq q p) (is_in q ps) (made_need t s q ps e)
    ]

module _ (t : TaskShape) (w : Tables) (s : Sheet) (x p a o : ℕ) (f : IsFormed t s) (live : IsLive s) (fits : has (Out a) (cands s x p) ≡ true)
    (apart : Clash t (Act a) (Act o) → ⊥) (spared : Deletes t (Act o) p → ⊥) where
  lo_old : (y : ℕ) → y < length s.tokens → lo (applied t s (Bring x p a)) (Tok y) ≡ lo s (Tok y)
  lo_old y l = ap (λ (i : Interval). i.lo) (bring_span t s x p a y l)

  hi_old : (y : ℕ) → y < length s.tokens → hi (applied t s (Bring x p a)) (Tok y) ≡ hi s (Tok y)
  hi_old y l = ap (λ (i : Interval). i.hi) (bring_span t s x p a y l)

  arrival_old : (y : ℕ) → y < length s.tokens → arrival t w (applied t s (Bring x p a)) (Tok y) (Out o) ≡ arrival t w s (Tok y) (Out o)
  arrival_old y l =
      ap (λ v. v +ˢ gap t w (kind_of (applied t s (Bring x p a)) (Tok y)) (Act o)) (lo_old y l) ∙ ap (λ k. lo s (Tok y) +ˢ gap t w k (Act o)) (bring_kind t s x p a y l)

  deadline_old : (y : ℕ) → y < length s.tokens → deadline t w (applied t s (Bring x p a)) (Out o) (Tok y) ≡ deadline t w s (Out o) (Tok y)
  deadline_old y l =
      ap (λ m. At (back m (gap t w (Act o) (kind_of (applied t s (Bring x p a)) (Tok y))))) (hi_old y l) ∙ ap (λ k. At (back (hi s (Tok y)) (gap t w (Act o) k))) (bring_kind t s x p a y l)

  ahead_old : (y : ℕ) → y < length s.tokens → CanPrecede t w s (Tok y) (Out o) → CanPrecede t w (applied t s (Bring x p a)) (Tok y) (Out o)
  ahead_old y l h = record { in_time = subst (λ z. z ≤ˢ At (hi s (Out o))) (sym (arrival_old y l)) h.in_time; free = refl }

  after_old : (y : ℕ) → y < length s.tokens → CanPrecede t w s (Out o) (Tok y) → CanPrecede t w (applied t s (Bring x p a)) (Out o) (Tok y)
  after_old y l h = record {
    in_time = subst (λ k. (lo s (Out o) +ˢ gap t w (Act o) k) ≤ˢ At (hi (applied t s (Bring x p a)) (Tok y))) (sym (bring_kind t s x p a y l))
        (subst (λ m. arrival t w s (Out o) (Tok y) ≤ˢ At m) (sym (hi_old y l)) h.in_time);
    free = refl;
  }

  -- a token that interferes with o is an old one
  clash_old : (y : ℕ) → Clash t (kind_of (applied t s (Bring x p a)) (Tok y)) (Act o) → y < length s.tokens
  clash_old y h =
      elim (cases_lt y (length s.tokens)) [
        | inl l ↦ l
        | inr m ↦ (let c = bring_count t s x p a in
            let there = token_there (λ z. Clash t z.kind (Act o)) (applied t s (Bring x p a)) y (λ k. k) h in
            let e : y ≡ length s.tokens = omega arith in
            absurd (apart (subst (λ (z : Token). Clash t z.kind (Act o)) (bring_token t s x p a) (subst (λ i. Clash t (kind_of (applied t s (Bring x p a)) (Tok i)) (Act o)) e h))))
      ]

  -- a token that needs an atom that o deletes is an old one
  need_old : (y q : ℕ) → has_need (applied t s (Bring x p a)) y q ≡ true → Deletes t (Act o) q → y < length s.tokens
  need_old y q h d =
      elim (cases_lt y (length s.tokens)) [
        | inl l ↦ l
        | inr m ↦ (let c = bring_count t s x p a in
            let there = need_there (applied t s (Bring x p a)) y q h in
            let e : y ≡ length s.tokens = omega arith in
            let k : has_atom q (map (need_for t s) (nth_action t a).pre) ≡ true =
            subst (λ (z : Token). has_atom q z.lists ≡ true) (bring_token t s x p a) (subst (λ i. has_need (applied t s (Bring x p a)) i q ≡ true) e h) in
            absurd (apart (record {
              first = (f.supply x p (Out a) fits).0;
              second = deletes_there t o q d;
              interfere = record { interfere = inr (inl (q, d, Contains-from_any {eq = nat_eq} (λ i j r. eqb-true i j r) q (nth_action t a).pre (made_need t s q (nth_action t a).pre k))) };
            })))
      ]

  -- a list that is one token is an old one, where o deletes its atom
  one_old : (y q z : ℕ) → y < length s.tokens → Deletes t (Act o) q → IsToken (cands (applied t s (Bring x p a)) y q) z → IsToken (cands s y q) z
  one_old y q z l d e =
      elim (bring_cands t s x p a y q l) [
        | inl k ↦ beside_one a (length s.tokens) z (cands s y q) (sym k ∙ e)
        | inr k ↦ absurd (spared (subst (λ i. Deletes t (Act o) i) k.1 d))
      ]

  one_there : (y q z : ℕ) → IsToken (cands s y q) z → z < length s.tokens
  one_there y q z e = (f.supply y q (Tok z) (subst (λ (l : List Cand). has (Tok z) l ≡ true) (sym e) (or_left (same (Tok z) (Tok z)) false (same_self (Tok z))))).0

  threat_old : (y q z : ℕ) → y < length s.tokens → IsOutsideThreat t (applied t s (Bring x p a)) y q o z → IsOutsideThreat t s y q o z
  threat_old y q z l h = record { need = sym (bring_need t s x p a y q l) ∙ h.need; one = one_old y q z l h.deletes h.one; deletes = h.deletes }

  comes_after : (y : ℕ) (v : Span) → y < length s.tokens → ComesAfter t w (applied t s (Bring x p a)) y o v → ComesAfter t w s y o v
  comes_after y v l h = record { limit = subst (λ z. v ≤ˢ z) (arrival_old y l) h.limit; moment = h.moment }

  comes_ahead : (y : ℕ) (v : Span) → y < length s.tokens → ComesAhead t w (applied t s (Bring x p a)) o y v → ComesAhead t w s o y v
  comes_ahead y v l h = subst (λ z. z ≤ˢ v) (deadline_old y l) h

  adders_old : (q : ℕ) (v : Span) → IsBeforeTokens t w (applied t s (Bring x p a)) o q v → IsBeforeTokens t w s o q v
  adders_old q v h k d l =
      let c = bring_count t s x p a in
      let u : Sheet = applied t s (Bring x p a) in
      let m : k < length (applied t s (Bring x p a)).tokens = omega arith in
      let here : IsBeforeToken t w o q v (token_at (applied t s (Bring x p a)) k) =
      subst (λ (z : Token). IsBeforeToken t w o q v z) (sym (unwrap_or-slice_get (applied t s (Bring x p a)).tokens k no_token)) (h k no_token m) in
      subst (λ (z : Token). IsBeforeToken t w o q v z) (unwrap_or-slice_get s.tokens k no_token ∙ get_or_default s.tokens k no_token d l)
      (λ adds. subst (λ i. v ≤ˢ i) (arrival_old k l) (here (subst (λ i. Adds t i q) (sym (bring_kind t s x p a k l)) adds)))

  at10 : (q : ℕ) (v : Span) → IsLegal t w (applied t s (Bring x p a)) (R10 o q v) → IsLegal t w s (R10 o q v)
  at10 q v l = record {
    live = live;
    allowed = record { need = l.allowed.need; tokens = adders_old q v l.allowed.tokens; outs = l.allowed.outs; moment = l.allowed.moment };
    moves = l.moves;
  }

  at11_after : (y q : ℕ) (v : Span) → IsLegal t w (applied t s (Bring x p a)) (R11After y q o v) → IsLegal t w s (R11After y q o v)
  at11_after y q v l =
      let h = l.allowed in
      let old = need_old y q h.1.need h.1.deletes in
      let e = threat_old y q h.0 old h.1 in
      record { live = live; allowed = (h.0, e, (λ k. h.2 (after_old h.0 (one_there y q h.0 e.one) k)), comes_after y v old h.3); moves = l.moves }

  at11_ahead : (y q : ℕ) (v : Span) → IsLegal t w (applied t s (Bring x p a)) (R11Ahead y q o v) → IsLegal t w s (R11Ahead y q o v)
  at11_ahead y q v l =
      let h = l.allowed in
      let old = need_old y q h.1.need h.1.deletes in
      let e = threat_old y q h.0 old h.1 in
      record { live = live; allowed = (h.0, e, (λ k. h.2 (ahead_old y old k)), comes_ahead h.0 v (one_there y q h.0 e.one) h.3); moves = l.moves }

  at12_after : (y : ℕ) (v : Span) → IsLegal t w (applied t s (Bring x p a)) (R12After y o v) → IsLegal t w s (R12After y o v)
  at12_after y v l =
      let h = l.allowed in
      let old = clash_old y h.clash in
      record {
        live = live;
        allowed = record { clash = subst (λ k. Clash t k (Act o)) (bring_kind t s x p a y old) h.clash; late = λ k. h.late (after_old y old k); after = comes_after y v old h.after };
        moves = l.moves;
      }

  at12_ahead : (y : ℕ) (v : Span) → IsLegal t w (applied t s (Bring x p a)) (R12Ahead y o v) → IsLegal t w s (R12Ahead y o v)
  at12_ahead y v l =
      let h = l.allowed in
      let old = clash_old y h.clash in
      record {
        live = live;
        allowed = record { clash = subst (λ k. Clash t k (Act o)) (bring_kind t s x p a y old) h.clash; late = λ k. h.late (ahead_old y old k); ahead = comes_ahead y v old h.ahead };
        moves = l.moves;
      }

out_is : (a b : ℕ) → Out a ≡ Out b → a ≡ b
out_is a b e = cc

pub bring_wakes : BringWakes
bring_wakes rules t w s x p a o f live fits apart spared closed step r legal lands = go step r legal lands
  where
    go : (step : Step) → is_of rules step ≡ true → IsLegal t w (applied t s (Bring x p a)) step → LandsAt (applied t s (Bring x p a)) step (Out o) → ⊥
    go (R10 i q v) r l e = closed (R10 o q v) r (at10 t w s x p a o f live fits apart spared q v (subst (λ z. IsLegal t w (applied t s (Bring x p a)) (R10 z q v)) (out_is i o e) l)) refl
    go (R11After y q i v) r l e =
        closed (R11After y q o v) r (at11_after t w s x p a o f live fits apart spared y q v (subst (λ z. IsLegal t w (applied t s (Bring x p a)) (R11After y q z v)) (out_is i o e) l)) refl
    go (R11Ahead y q i v) r l e =
        closed (R11Ahead y q o v) r (at11_ahead t w s x p a o f live fits apart spared y q v (subst (λ z. IsLegal t w (applied t s (Bring x p a)) (R11Ahead y q z v)) (out_is i o e) l)) refl
    go (R12After y i v) r l e =
        closed (R12After y o v) r (at12_after t w s x p a o f live fits apart spared y v (subst (λ z. IsLegal t w (applied t s (Bring x p a)) (R12After y z v)) (out_is i o e) l)) refl
    go (R12Ahead y i v) r l e =
        closed (R12Ahead y o v) r (at12_ahead t w s x p a o f live fits apart spared y v (subst (λ z. IsLegal t w (applied t s (Bring x p a)) (R12Ahead y z v)) (out_is i o e) l)) refl
    go other r l e = cc
