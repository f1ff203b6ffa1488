-- a table is known from its rows
use Rattle.std.proofs.Common.{◌≡◌, ℕ, zero, suc, ◌+◌, ◌-◌, ◌*◌, ◌<◌, ◌≤◌, ◌⊎◌, max, min, inl, inr, List, [], length, get_or, sym, ap, subst, ◌∙◌, arith}
use Rattle.std.proofs.lemmas.List.{same_lists, get_or_default}
use Rattle.std.proofs.lemmas.List.FromFn.{get_or-map-range_with_len}
use Rattle.cpt_task.specs.declared.span.Span.{Span}
use Rattle.cpt_task.specs.declared.span.Span.TheVariants.{At, Never}
use Rattle.cpt_task.specs.Shape.{TaskShape}
use Rattle.cpt_tables.specs.declared.faults.PairFault.{PairFault}
use Rattle.cpt_tables.specs.declared.faults.DistFault.{DistFault}
use Rattle.cpt_tables.specs.Spans.{◌≤ˢ◌, ◌<ˢ◌}
use Rattle.cpt_tables.specs.Admissible.{IsAdmissiblePairs, IsAdmissibleDists, IsPairLimit, IsDistLimit, IsPairFault, IsDistFault}
use Rattle.std.proofs.Math.Nat.{suc-mul}
use Rattle.cpt_tables.specs.Shapes.{PairShape, DistShape, row_start, pair_place, pair_at, dist_at, IsWholePairs, IsWholeDists}
use Rattle.cpt_tables.proofs.PlaceLemmas.{row_next}
use Rattle.cpt_cert_form.specs.Text.{pair_row, dist_row}
use Rattle.cpt_cert_accept.specs.Reading.{pair_rows, dist_rows, IsPairsOf, IsDistsOf}

cases_lt : (a b : ℕ) → (a < b) ⊎ (b ≤ a)
cases_lt a b = grind arith

-- each place of a pair table is that of two atoms
pub every_place : (n i : ℕ) → i < row_start n → (p : ℕ) × (q : ℕ) × (p ≤ q) × (q < n) × (i ≡ pair_place p q)
every_place zero i lt = absurd (omega arith)
every_place (suc n) i lt =
    let next : row_start (suc n) ≡ row_start n + suc n = row_next n in
    elim (cases_lt i (row_start n)) [
      | inl l ↦ (let r = every_place n i l in (r.0, r.1, r.2, (let k = r.3 in omega (arith, k)), r.4))
      | inr l ↦ (i - row_start n, n, omega (arith, next, l, lt), omega arith, placed (i - row_start n) (omega (arith, next, l, lt)) (omega (arith, l)))
    ]
  where
    placed : (p : ℕ) → p ≤ n → i ≡ row_start n + p → i ≡ pair_place p n
    placed p le e = let m : max p n ≡ n = omega arith in let k : min p n ≡ p = omega arith in e ∙ (let a : row_start n ≡ row_start (max p n) = ap row_start (sym m) in omega (arith, a, k))

pair_of_row : (h : PairShape) (p q : ℕ) → p ≤ q → q < h.atoms → get_or (get_or (pair_rows h) p []) (q - p) Never ≡ pair_at h p q
pair_of_row h p q le lt =
    ap (λ row. get_or row (q - p) Never) (get_or-map-range_with_len (pair_row h) 0 h.atoms p p [] (omega arith) (omega arith))
    ∙ get_or-map-range_with_len (λ r. pair_at h p r) p (h.atoms - p) (q - p) q Never (omega arith) (omega arith)

pub same_pairs : (h k : PairShape) → IsWholePairs h → IsWholePairs k → h.atoms ≡ k.atoms → pair_rows h ≡ pair_rows k → h ≡ k
same_pairs h k wh wk atoms rows =
    let long : length h.values ≡ length k.values = wh ∙ ap row_start atoms ∙ sym wk in
    let values : h.values ≡ k.values = same_lists h.values k.values long (λ i d lt. at i d lt (every_place h.atoms i (omega (arith, wh, lt)))) in
    (λ i. record { atoms = atoms i; values = values i })
  where
    valued : (p q : ℕ) → p ≤ q → q < h.atoms → pair_at h p q ≡ pair_at k p q
    valued p q le lt = sym (pair_of_row h p q le lt) ∙ ap (λ r. get_or (get_or r p []) (q - p) Never) rows ∙ pair_of_row k p q le (omega (arith, lt, atoms))

    at : (i : ℕ) (d : Span) → i < length h.values → ((p : ℕ) × (q : ℕ) × (p ≤ q) × (q < h.atoms) × (i ≡ pair_place p q)) → get_or h.values i d ≡ get_or k.values i d
    at i d lt r =
        get_or_default h.values i d Never lt ∙ ap (λ j. get_or h.values j Never) r.4 ∙ valued r.0 r.1 r.2 r.3 ∙ ap (λ j. get_or k.values j Never) (sym r.4) ∙ get_or_default k.values i Never d (omega (arith, lt, wh, wk, ap row_start atoms))

-- each place of a distance table is that of an action and an atom
pub every_cell : (m n i : ℕ) → i < m * n → (a : ℕ) × (p : ℕ) × (a < m) × (p < n) × (i ≡ a * n + p)
every_cell zero n i lt = absurd (omega arith)
every_cell (suc m) n i lt =
    let next : suc m * n ≡ m * n + n = suc-mul m n in
    elim (cases_lt i (m * n)) [
      | inl l ↦ (let r = every_cell m n i l in (r.0, r.1, (let k = r.2 in omega (arith, k)), r.3, r.4))
      | inr l ↦ (m, i - m * n, omega arith, omega (arith, next, l, lt), omega (arith, l))
    ]

dist_of_row : (d : DistShape) (a p : ℕ) → a < d.actions → p < d.atoms → get_or (get_or (dist_rows d) a []) p Never ≡ dist_at d a p
dist_of_row d a p la lp =
    ap (λ row. get_or row p Never) (get_or-map-range_with_len (dist_row d) 0 d.actions a a [] la (omega arith))
    ∙ get_or-map-range_with_len (λ r. dist_at d a r) 0 d.atoms p p Never lp (omega arith)

pub same_dists : (d k : DistShape) → IsWholeDists d → IsWholeDists k → d.actions ≡ k.actions → d.atoms ≡ k.atoms → dist_rows d ≡ dist_rows k → d ≡ k
same_dists d k wd wk actions atoms rows =
    let long : length d.values ≡ length k.values = wd ∙ ap (λ m. m * d.atoms) actions ∙ ap (λ n. k.actions * n) atoms ∙ sym wk in
    let values : d.values ≡ k.values = same_lists d.values k.values long (λ i e lt. at long i e lt (every_cell d.actions d.atoms i (omega (arith, wd, lt)))) in
    (λ i. record { actions = actions i; atoms = atoms i; values = values i })
  where
    valued : (a p : ℕ) → a < d.actions → p < d.atoms → dist_at d a p ≡ dist_at k a p
    valued a p la lp = sym (dist_of_row d a p la lp) ∙ ap (λ r. get_or (get_or r a []) p Never) rows ∙ dist_of_row k a p (omega (arith, la, actions)) (omega (arith, lp, atoms))

    at : length d.values ≡ length k.values → (i : ℕ) (e : Span) → i < length d.values → ((a : ℕ) × (p : ℕ) × (a < d.actions) × (p < d.atoms) × (i ≡ a * d.atoms + p)) → get_or d.values i e ≡ get_or k.values i e
    at long i e lt r =
        get_or_default d.values i e Never lt ∙ ap (λ j. get_or d.values j Never) r.4 ∙ valued r.0 r.1 r.2 r.3
        ∙ ap (λ n. get_or k.values (r.0 * n + r.1) Never) (sym atoms) ∙ ap (λ j. get_or k.values j Never) (sym r.4) ∙ get_or_default k.values i Never e (omega (arith, lt, long))

pub one_pairs : (t : TaskShape) (rows : List (List Span)) (h k : PairShape) → IsPairsOf t rows h → IsPairsOf t rows k → h ≡ k
one_pairs t rows h k p q = same_pairs h k p.whole q.whole (p.fits.size ∙ sym q.fits.size) (sym p.same ∙ q.same)

pub one_dists : (t : TaskShape) (rows : List (List Span)) (d k : DistShape) → IsDistsOf t rows d → IsDistsOf t rows k → d ≡ k
one_dists t rows d k p q = same_dists d k p.whole q.whole (p.fits.actions ∙ sym q.fits.actions) (p.fits.atoms ∙ sym q.fits.atoms) (sym p.same ∙ q.same)

-- what is after a span is not before it
not_before : (a b : Span) → a <ˢ b → b ≤ˢ a → ⊥
not_before (At a) (At b) l k = omega (arith, l, k)
not_before (At a) Never l k = k
not_before Never b l k = l

-- the value of a fault is above a limit
pair_above : (t : TaskShape) (h : PairShape) (f : PairFault) → IsPairFault t h f → ((v : Span) → IsPairLimit t h f.p f.q v → pair_at h f.p f.q ≤ˢ v) → ⊥
pair_above t h f fault all = go fault.least.taken
  where
    go : (IsPairLimit t h f.p f.q f.most ⊎ (f.most ≡ Never)) → ⊥
    go (inl limit) = not_before f.most (pair_at h f.p f.q) fault.above (all f.most limit)
    go (inr e) = subst (λ z. z <ˢ pair_at h f.p f.q) e fault.above

dist_above : (t : TaskShape) (h : PairShape) (d : DistShape) (f : DistFault) → IsDistFault t h d f → ((v : Span) → IsDistLimit t h d f.act f.atom v → dist_at d f.act f.atom ≤ˢ v) → ⊥
dist_above t h d f fault all = go fault.least.taken
  where
    go : (IsDistLimit t h d f.act f.atom f.most ⊎ (f.most ≡ Never)) → ⊥
    go (inl limit) = not_before f.most (dist_at d f.act f.atom) fault.above (all f.most limit)
    go (inr e) = subst (λ z. z <ˢ dist_at d f.act f.atom) e fault.above

-- an admissible table has no fault
pub no_pair_fault : (t : TaskShape) (h : PairShape) (f : PairFault) → IsAdmissiblePairs t h → IsPairFault t h f → ⊥
no_pair_fault t h f ok fault = pair_above t h f fault (ok f.p f.q (let k = fault.ordered in let l = fault.within in omega (arith, k, l)) fault.within)

pub no_dist_fault : (t : TaskShape) (h : PairShape) (d : DistShape) (f : DistFault) → IsAdmissibleDists t h d → IsDistFault t h d f → ⊥
no_dist_fault t h d f ok fault = dist_above t h d f fault (ok f.act f.atom fault.action fault.within)

-- the least fault stands in one row
pub one_pair_row : (t : TaskShape) (h : PairShape) (f g : PairFault) → IsPairFault t h f → IsPairFault t h g → f.p ≡ g.p
one_pair_row t h f g a b = even f.p g.p (least f g a b) (least g f b a)
  where
    even : (x y : ℕ) → (x < y → ⊥) → (y < x → ⊥) → x ≡ y
    even x y p q = grind arith

    least : (f g : PairFault) → IsPairFault t h f → IsPairFault t h g → f.p < g.p → ⊥
    least f g a b lt = pair_above t h f a (b.first f.p f.q a.ordered a.within (inl lt))

pub one_dist_row : (t : TaskShape) (h : PairShape) (d : DistShape) (f g : DistFault) → IsDistFault t h d f → IsDistFault t h d g → f.act ≡ g.act
one_dist_row t h d f g a b = even f.act g.act (least f g a b) (least g f b a)
  where
    even : (x y : ℕ) → (x < y → ⊥) → (y < x → ⊥) → x ≡ y
    even x y p q = grind arith

    least : (f g : DistFault) → IsDistFault t h d f → IsDistFault t h d g → f.act < g.act → ⊥
    least f g a b lt = dist_above t h d f a (b.first f.act f.atom a.action a.within (inl lt))
