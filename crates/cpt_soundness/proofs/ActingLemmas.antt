-- tokens and outside actions of a formed sheet, and those for whom they stand
use Rattle.std.proofs.Common.{◌≡◌, ◌≢◌, ℕ, suc, zero, ◌<◌, ◌==◌, List, [], ◌∷◌, map, true, false, length, All, Contains, refl, sym, ◌∙◌, ap, subst, arith, inl, inr, ◌⊎◌}
use Rattle.std.proofs.lemmas.Bool.{both_ways, cases_eq, cases_lt, or_cases, eqb-true, false_from_ne_true}
use Rattle.std.proofs.lemmas.List.Elements.{All-head, All-tail}
use Rattle.cpt_task.specs.declared.plan.Occ.{Occ}
use Rattle.cpt_task.specs.declared.span.Span.{Span}
use Rattle.cpt_task.specs.declared.span.Span.TheVariants.{At, Never}
use Rattle.cpt_task.specs.Shape.{TaskShape}
use Rattle.cpt_task.specs.Timeline.{action_of, occurrence_at, IsValid}
use Rattle.cpt_tables.specs.declared.tables.Tables.{Tables}
use Rattle.cpt_tables.specs.Spans.{◌≤ˢ◌, ◌+ˢ◌}
use Rattle.cpt_tables.proofs.SpanLemmas.{le_trans, add_mono}
use Rattle.cpt_sheet.specs.declared.data.Cand.{Cand}
use Rattle.cpt_sheet.specs.declared.data.Cand.TheVariants.{Tok, Out}
use Rattle.cpt_sheet.specs.declared.data.Kind.{Kind}
use Rattle.cpt_sheet.specs.declared.data.Kind.TheVariants.{Start, End, Act}
use Rattle.cpt_sheet.specs.declared.data.Need.{Need}
use Rattle.cpt_sheet.specs.declared.data.Token.{Token}
use Rattle.cpt_sheet.specs.declared.data.Sheet.{Sheet}
use Rattle.cpt_sheet.specs.Roles.{needs_of, Deletes, Clash}
use Rattle.cpt_sheet.specs.View.{no_token, token_at, lo, hi, kind_of, cands, has_atom, has_need, before, has, same}
use Rattle.cpt_sheet.specs.Formed.{IsFormed}
use Rattle.cpt_sheet.specs.Gaps.{gap, back, arrival, deadline, CanPrecede, ordered}
use Rattle.cpt_sheet.proofs.FormedLemmas.{at_past}
use Rattle.cpt_calculus.specs.Rules.{IsToken}
use Rattle.cpt_calculus.specs.Plans.{Who, begins, who, who_of_kind, StandsFor, Supplies, Admits}
use Rattle.cpt_calculus.specs.Plans.Who.{begin, finish, place}
use Rattle.cpt_soundness.specs.Acting.{IsAdmissible, kind_who, IsWithin, IsAhead}
use Rattle.cpt_soundness.proofs.PlanLemmas.{nil_has, keeps_gaps, not_both, apart, cleared, supplies_ahead, supplies_within, supplier}
use Rattle.cpt_calculus.proofs.Parts.{same_is, same_self}

back_le : (m n : ℕ) (g : Span) → (At m +ˢ g) ≤ˢ At n → At m ≤ˢ At (back n g)
back_le m n (At g) h = omega arith
back_le m n Never h = absurd h

-- what holds of all candidates holds of each that is listed
pub all_has : (P : Cand → Type 0) (cs : List Cand) → All P cs → (c : Cand) → has c cs ≡ true → P c
all_has P [] all c h = cc
all_has P (d ∷ cs) all c h =
    elim (or_cases (same d c) (has c cs) h) [
      | inl e ↦ subst P (same_is d c e) (All-head P d cs all)
      | inr e ↦ all_has P cs (All-tail P d cs all) c e
    ]

pub atom_there : (p : ℕ) (ns : List Need) → has_atom p ns ≡ true → Contains (map (λ (n : Need). n.atom) ns) p
atom_there p [] h = cc
atom_there p (n ∷ ns) h =
    elim (or_cases (n.atom == p) (has_atom p ns) h) [
      | inl e ↦ (0, omega arith, eqb-true n.atom p e)
      | inr e ↦ (let r = atom_there p ns e in (suc r.0, (let l = r.1 in omega (arith, l)), r.2))
    ]

-- a token stands for the place, or none does
place_cases : (f : ℕ → ℕ) (s : Sheet) (i n : ℕ) → ((x : ℕ) × (x < n) × (who f s x ≡ place i)) ⊎ ((x : ℕ) → x < n → who f s x ≢ place i)
place_cases f s i zero = inr (λ x l e. omega arith)
place_cases f s i (suc n) = go (place_cases f s i n) (test (who f s n))
  where
    test : (w : Who) → (w ≡ place i) ⊎ (w ≢ place i)
    test begin = inr (λ e. cc)
    test finish = inr (λ e. cc)
    test (place j) = elim (cases_eq j i) [ inl e ↦ inl (ap place e) | inr e ↦ inr (λ k. e (let k' : j ≡ i = cc in k')) ]

    go : (((x : ℕ) × (x < n) × (who f s x ≡ place i)) ⊎ ((x : ℕ) → x < n → who f s x ≢ place i)) → ((who f s n ≡ place i) ⊎ (who f s n ≢ place i)) →
        ((x : ℕ) × (x < suc n) × (who f s x ≡ place i)) ⊎ ((x : ℕ) → x < suc n → who f s x ≢ place i)
    go (inl k) q = inl (k.0, (let l = k.1 in omega (arith, l)), k.2)
    go (inr k) (inl e) = inl (n, omega arith, e)
    go (inr k) (inr e) = inr (λ x l h. elim (cases_eq x n) [ inl d ↦ e (subst (λ z. who f s z ≡ place i) d h) | inr d ↦ k x (omega (arith, l, d)) h ])

-- who deletes is an occurrence
pub who_deletes : (t : TaskShape) (plan : List Occ) (w : Who) (p : ℕ) → Deletes t (kind_who plan w) p → (i : ℕ) × (w ≡ place i) × Contains (action_of t (occurrence_at plan i)).dele p
who_deletes t plan begin p h = absurd (nil_has p h)
who_deletes t plan finish p h = absurd (nil_has p h)
who_deletes t plan (place i) p h = (i, refl, h)

-- a token that is not the start is there
pub token_there : (s : Sheet) (x : ℕ) → kind_of s (Tok x) ≢ Start → x < length s.tokens
token_there s x ne =
    elim (cases_lt x (length s.tokens)) [ inl l ↦ l | inr m ↦ absurd (ne (ap (λ (z : Token). z.kind) (at_past s.tokens no_token x m))) ]

pub deleter_there : (t : TaskShape) (s : Sheet) (x p : ℕ) → Deletes t (kind_of s (Tok x)) p → x < length s.tokens
deleter_there t s x p h = token_there s x (λ e. nil_has p (subst (λ k. Deletes t k p) e h))

pub clash_there : (t : TaskShape) (s : Sheet) (x : ℕ) (k : Kind) → Clash t (kind_of s (Tok x)) k → x < length s.tokens
clash_there t s x k h = token_there s x (λ e. subst (λ j. Clash t j k) e h)

pub clash_there_last : (t : TaskShape) (s : Sheet) (x : ℕ) (k : Kind) → Clash t k (kind_of s (Tok x)) → x < length s.tokens
clash_there_last t s x k h = token_there s x (λ e. none k (subst (λ j. Clash t k j) e h))
  where
    none : (k : Kind) → Clash t k Start → ⊥
    none Start c = c
    none End c = c
    none (Act a) c = c

module _ (t : TaskShape) (b : Tables) (plan : List Occ) (ok : IsAdmissible t b) (valid : IsValid t plan) where
  -- of two that interfere one is ahead
  pub clash_ahead : (v w : Who) → IsWithin plan v → IsWithin plan w → v ≢ w → Clash t (kind_who plan v) (kind_who plan w) → IsAhead t plan v w ⊎ IsAhead t plan w v
  clash_ahead begin w l m ne c = absurd c
  clash_ahead finish w l m ne c = absurd c
  clash_ahead (place i) begin l m ne c = absurd c
  clash_ahead (place i) finish l m ne c = absurd c
  clash_ahead (place i) (place j) l m ne c =
      elim (apart t plan ok.bounds valid i j l m (λ e. ne (ap place e)) c.interfere.interfere) [
        | inl e ↦ inl (record { different = ne; forward = λ k. (let k0 = k.0 in cc); first = e })
        | inr e ↦ inr (record { different = λ k. ne (sym k); forward = λ k. (let k0 = k.0 in cc); first = e })
      ]

module _ (t : TaskShape) (b : Tables) (plan : List Occ) (ok : IsAdmissible t b) (valid : IsValid t plan) (f : ℕ → ℕ) (s : Sheet) (formed : IsFormed t s) (h : Admits t plan f s) where
  who_is : (x : ℕ) → x < length s.tokens → (k : Kind) → kind_of s (Tok x) ≡ k → IsWithin plan (who_of_kind f x k) × (kind_who plan (who_of_kind f x k) ≡ k)
  who_is x l Start e = (tt, refl)
  who_is x l End e = (tt, refl)
  who_is x l (Act a) e = let r = h.placed x a l e in (r.0, ap Act r.1)

  -- for whom a candidate stands, he is there and of its kind
  pub stands_is : (c : Cand) (w : Who) → StandsFor f plan s c w → IsWithin plan w × (kind_who plan w ≡ kind_of s c)
  stands_is (Tok x) w k = subst (λ v. IsWithin plan v × (kind_who plan v ≡ kind_of s (Tok x))) k.1 (who_is x k.0 (kind_of s (Tok x)) refl)
  stands_is (Out a) w k = subst (λ v. IsWithin plan v × (kind_who plan v ≡ Act a)) (sym k.1) (k.2.within, ap Act k.2.action)

  gap_between : (c d : Cand) (v w : Who) → StandsFor f plan s c v → StandsFor f plan s d w → IsAhead t plan v w → (At (begins t plan v) +ˢ gap t b (kind_of s c) (kind_of s d)) ≤ˢ At (begins t plan w)
  gap_between c d v w sc sd a =
      let rc = stands_is c v sc in let rd = stands_is d w sd in
      subst (λ k. (At (begins t plan v) +ˢ gap t b k (kind_of s d)) ≤ˢ At (begins t plan w)) rc.1
      (subst (λ k. (At (begins t plan v) +ˢ gap t b (kind_who plan v) k) ≤ˢ At (begins t plan w)) rd.1
      (keeps_gaps t b plan ok valid v w rc.0 rd.0 a))

  -- who is ahead of another begins so early that the other is no earlier than the arrival
  pub in_time : (c d : Cand) (v w : Who) → StandsFor f plan s c v → StandsFor f plan s d w → IsAhead t plan v w → arrival t b s c d ≤ˢ At (begins t plan w)
  in_time c d v w sc sd a =
      le_trans (arrival t b s c d) (At (begins t plan v) +ˢ gap t b (kind_of s c) (kind_of s d)) (At (begins t plan w))
      (add_mono (lo s c) (At (begins t plan v)) (gap t b (kind_of s c) (kind_of s d)) (h.spans c v sc).0)
      (gap_between c d v w sc sd a)

  -- and no later than the deadline
  pub by_deadline : (c d : Cand) (v w : Who) → StandsFor f plan s c v → StandsFor f plan s d w → IsAhead t plan v w → At (begins t plan v) ≤ˢ deadline t b s c d
  by_deadline c d v w sc sd a =
      back_le (begins t plan v) (hi s d) (gap t b (kind_of s c) (kind_of s d))
      (le_trans (At (begins t plan v) +ˢ gap t b (kind_of s c) (kind_of s d)) (At (begins t plan w)) (At (hi s d)) (gap_between c d v w sc sd a) (h.spans d w sd).1)

  two : 1 < length s.tokens
  two = let n = formed.two in omega (arith, n)

  pub start_who : who f s 0 ≡ begin
  start_who = ap (λ k. who_of_kind f 0 k) formed.start

  pub end_who : who f s 1 ≡ finish
  end_who = ap (λ k. who_of_kind f 1 k) formed.end

  -- tokens that are ordered are ahead
  pub order_ahead : (x y : ℕ) → before s x y ≡ true → IsAhead t plan (who f s x) (who f s y)
  order_ahead x y e =
      let p = formed.orders x y e in
      let n = two in
      record {
        different = λ k. p.different (h.apart x y p.first p.second k);
        forward = λ k. p.forward (h.apart x 1 p.first two (k.0 ∙ sym end_who), h.apart y 0 p.second (omega (arith, n)) (k.1 ∙ sym start_who));
        first = h.orders x y e;
      }

  -- who is ahead can precede
  pub can_precede : (c d : Cand) (v w : Who) → StandsFor f plan s c v → StandsFor f plan s d w → IsAhead t plan v w → CanPrecede t b s c d
  can_precede c d v w sc sd a = record {
    in_time = le_trans (arrival t b s c d) (At (begins t plan w)) (At (hi s d)) (in_time c d v w sc sd a) (h.spans d w sd).1;
    free = free c d sc sd;
  }
    where
      free : (c d : Cand) → StandsFor f plan s c v → StandsFor f plan s d w → ordered s d c ≡ false
      free (Tok x) (Tok y) kx ky = false_from_ne_true (before s y x) (λ e.
          not_both t plan ok.bounds valid v w (stands_is (Tok x) v kx).0 (stands_is (Tok y) w ky).0 a
          (subst (λ z. IsAhead t plan z v) ky.1 (subst (λ z. IsAhead t plan (who f s y) z) kx.1 (order_ahead y x e))))
      free (Tok x) (Out e) kx ky = refl
      free (Out e) (Tok y) kx ky = refl
      free (Out e) (Out g) kx ky = refl

  -- one candidate stands for each
  pub stands_one : (c d : Cand) (w : Who) → StandsFor f plan s c w → StandsFor f plan s d w → c ≡ d
  stands_one (Tok x) (Tok y) w kx ky = ap Tok (h.apart x y kx.0 ky.0 (kx.1 ∙ sym ky.1))
  stands_one (Tok x) (Out e) w kx ky = absurd (ky.2.free x kx.0 (kx.1 ∙ ky.1))
  stands_one (Out e) (Tok y) w kx ky = absurd (kx.2.free y ky.0 (ky.1 ∙ kx.1))
  stands_one (Out e) (Out g) w kx ky =
      let q : place kx.0 ≡ place ky.0 = sym kx.1 ∙ ky.1 in
      let q' : kx.0 ≡ ky.0 = number q in
      ap Out (sym kx.2.action ∙ (ap (λ z. (occurrence_at plan z).act) q' ∙ ky.2.action))
    where
      number : {i j : ℕ} → place i ≡ place j → i ≡ j
      number k = cc

  pub stands_apart : (c d : Cand) (v w : Who) → same c d ≡ false → StandsFor f plan s c v → StandsFor f plan s d w → v ≢ w
  stands_apart c d v w ne kc kd e =
      both_ways (same c d) ne (subst (λ z. same c z ≡ true) (stands_one c d w (subst (λ z. StandsFor f plan s c z) e kc) kd) (same_self c))

  pub stander : (w : Who) → IsWithin plan w → (c : Cand) × StandsFor f plan s c w
  stander begin l = (Tok 0, ((let n = two in omega (arith, n)), start_who))
  stander finish l = (Tok 1, (two, end_who))
  stander (place i) l = elim (place_cases f s i (length s.tokens)) [
    | inl q ↦ (Tok q.0, (q.1, q.2))
    | inr q ↦ (Out (occurrence_at plan i).act, (i, refl, record { within = l; action = refl; free = q }))
  ]

  -- a token with a need is there, and the one for whom it stands has it
  pub need_there : (x p : ℕ) → has_need s x p ≡ true → x < length s.tokens
  need_there x p n =
      elim (cases_lt x (length s.tokens)) [ inl l ↦ l | inr m ↦ (let e : has_need s x p ≡ false = ap (λ (z : Token). has_atom p z.lists) (at_past s.tokens no_token x m) in absurd (both_ways (has_need s x p) e n)) ]

  pub who_needs : (x p : ℕ) → has_need s x p ≡ true → Contains (needs_of t (kind_who plan (who f s x))) p
  who_needs x p n =
      let l = need_there x p n in
      subst (λ k. Contains (needs_of t k) p) (sym (stands_is (Tok x) (who f s x) (l, refl)).1)
      (subst (λ ns. Contains ns p) (formed.needs x l) (atom_there p (token_at s x).lists n))

  pub need_ahead : (x p : ℕ) (w : Who) → has_need s x p ≡ true → Supplies t plan p (begins t plan (who f s x)) w → IsAhead t plan w (who f s x)
  need_ahead x p w n sup = supplies_ahead t plan ok.bounds valid p w (who f s x) (stands_is (Tok x) (who f s x) (need_there x p n, refl)).0 (who_needs x p n) sup

  -- each need's list names its supplier
  pub named : (x p : ℕ) → has_need s x p ≡ true → (c : Cand) × (w : Who) × StandsFor f plan s c w × Supplies t plan p (begins t plan (who f s x)) w × (has c (cands s x p) ≡ true)
  named x p n =
      let q = supplier t plan p (begins t plan (who f s x)) in
      let k = stander q.0 (supplies_within t plan ok.bounds valid p (begins t plan (who f s x)) q.0 q.1) in
      (k.0, q.0, k.1, q.1, h.supplied x p n k.0 q.0 k.1 q.1)

  -- where the list is one token, that token supplies
  pub one_supplies : (x p y : ℕ) → has_need s x p ≡ true → IsToken (cands s x p) y → (y < length s.tokens) × Supplies t plan p (begins t plan (who f s x)) (who f s y)
  one_supplies x p y n one =
      let k = named x p n in
      let e : Tok y ≡ k.0 = only_one k.0 (subst (λ cs. has k.0 cs ≡ true) one k.4) in
      let st : StandsFor f plan s (Tok y) k.1 = subst (λ z. StandsFor f plan s z k.1) (sym e) k.2 in
      (st.0, subst (λ z. Supplies t plan p (begins t plan (who f s x)) z) (sym st.1) k.3)
    where
      only_one : (c : Cand) → has c (Tok y ∷ []) ≡ true → Tok y ≡ c
      only_one c m = elim (or_cases (same (Tok y) c) false m) [ inl e ↦ same_is (Tok y) c e | inr e ↦ cc ]

  -- another that deletes what is supplied keeps away
  pub keep_away : (x p : ℕ) (w : Who) → has_need s x p ≡ true → Supplies t plan p (begins t plan (who f s x)) w → (e : Cand) (v : Who) → StandsFor f plan s e v → Deletes t (kind_of s e) p →
      v ≢ w → v ≢ who f s x → IsAhead t plan v w ⊎ IsAhead t plan (who f s x) v
  keep_away x p w n sup e v ke del nw nx =
      let r = stands_is e v ke in
      let d = who_deletes t plan v p (subst (λ k. Deletes t k p) (sym r.1) del) in
      let u = who f s x in
      subst (λ z. IsAhead t plan z w ⊎ IsAhead t plan u z) (sym d.1)
      (cleared t plan ok.bounds valid d.0 p w u (subst (λ z. IsWithin plan z) d.1 r.0) (stands_is (Tok x) u (need_there x p n, refl)).0 d.2 (who_needs x p n) sup
      (λ k. nw (d.1 ∙ k)) (λ k. nx (d.1 ∙ k)))

  -- of two candidates that interfere one is ahead
  pub clash_stands : (c d : Cand) (v w : Who) → StandsFor f plan s c v → StandsFor f plan s d w → v ≢ w → Clash t (kind_of s c) (kind_of s d) → IsAhead t plan v w ⊎ IsAhead t plan w v
  clash_stands c d v w kc kd ne cl =
      let rc = stands_is c v kc in let rd = stands_is d w kd in
      clash_ahead t b plan ok valid v w rc.0 rd.0 ne (subst (λ k. Clash t k (kind_who plan w)) (sym rc.1) (subst (λ k. Clash t (kind_of s c) k) (sym rd.1) cl))
