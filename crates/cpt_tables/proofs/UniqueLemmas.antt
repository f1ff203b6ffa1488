-- a task has one pair of best tables
use Rattle.std.proofs.Common.{◌≡◌, ℕ, zero, suc, ◌+◌, ◌-◌, ◌*◌, ◌<◌, ◌≤◌, ◌⊎◌, max, min, inl, inr, List, length, get_or, sym, ap, subst, ◌∙◌, arith}
use Rattle.std.proofs.Math.Nat.{suc-mul}
use Rattle.std.proofs.lemmas.List.{get_or_default, same_lists}
use Rattle.cpt_task.specs.declared.span.Span.{Span}
use Rattle.cpt_task.specs.declared.span.Span.TheVariants.{Never}
use Rattle.cpt_task.specs.Shape.{TaskShape}
use Rattle.cpt_tables.specs.declared.tables.Tables.{Tables}
use Rattle.cpt_tables.specs.Shapes.{PairShape, DistShape, IsWholePairs, IsWholeDists, row_start, pair_place, pair_at, dist_at}
use Rattle.cpt_tables.specs.Greatest.{IsGreatestPairs, IsGreatestDists}
use Rattle.cpt_tables.specs.Unique.{OneBest}
use Rattle.cpt_tables.proofs.PlaceLemmas.{row_next}
use Rattle.cpt_tables.proofs.SpanLemmas.{le_antisym}

lt_or_le : (a b : ℕ) → (a < b) ⊎ (b ≤ a)
lt_or_le a b = grind arith

-- the atoms whose value stands at a place
pair_of_place : (n k : ℕ) → k < row_start n → (p : ℕ) × (q : ℕ) × (p ≤ q) × (q < n) × (row_start q + p ≡ k)
pair_of_place zero k lt = absurd (omega (arith, lt))
pair_of_place (suc n) k lt =
    let next : row_start (suc n) ≡ row_start n + suc n = row_next n in
    elim (lt_or_le k (row_start n)) [
      | inl before ↦ let r = pair_of_place n k before in (r.0, r.1, r.2, omega (arith, r.3), r.4)
      | inr behind ↦ (k - row_start n, n, omega (arith, lt, next, behind), omega arith, omega (arith, behind))
    ]

-- the action and the atom whose distance stands at a place
dist_of_place : (m n k : ℕ) → k < m * n → (a : ℕ) × (p : ℕ) × (a < m) × (p < n) × (a * n + p ≡ k)
dist_of_place zero n k lt = absurd (omega (arith, lt))
dist_of_place (suc m) n k lt =
    let next : suc m * n ≡ m * n + n = suc-mul m n in
    elim (lt_or_le k (m * n)) [
      | inl before ↦ let r = dist_of_place m n k before in (r.0, r.1, omega (arith, r.2), r.3, r.4)
      | inr behind ↦ (m, k - m * n, omega arith, omega (arith, lt, next, behind), omega (arith, behind))
    ]

in_order : (p q : ℕ) → p ≤ q → pair_place p q ≡ row_start q + p
in_order p q le =
    let most : max p q ≡ q = omega (arith, le) in
    let least : min p q ≡ p = omega (arith, le) in
    ap (λ m. row_start m + min p q) most ∙ ap (λ m. row_start q + m) least

-- two lists of values with one value at each place are one
same_values : (xs ys : List Span) → length xs ≡ length ys → ((k : ℕ) → k < length xs → get_or xs k Never ≡ get_or ys k Never) → xs ≡ ys
same_values xs ys len h =
    same_lists xs ys len (λ k d lt. get_or_default xs k d Never lt ∙ h k lt ∙ get_or_default ys k Never d (omega (arith, len, lt)))

one_pairs : (t : TaskShape) (g h : PairShape) → g.atoms ≡ length t.atoms → h.atoms ≡ length t.atoms → IsWholePairs g → IsWholePairs h → IsGreatestPairs t g → IsGreatestPairs t h → g ≡ h
one_pairs t g h sg sh wg wh bg bh =
    let n = length t.atoms in
    let lg : length g.values ≡ row_start n = wg ∙ ap row_start sg in
    let lh : length h.values ≡ row_start n = wh ∙ ap row_start sh in
    let same : g.values ≡ h.values = same_values g.values h.values (lg ∙ sym lh) (λ k lt.
    let r = pair_of_place n k (omega (arith, lg, lt)) in
    let lp : r.0 < n = omega (arith, r.2, r.3) in
    let at : pair_place r.0 r.1 ≡ k = in_order r.0 r.1 r.2 ∙ r.4 in
    subst (λ x. get_or g.values x Never ≡ get_or h.values x Never) at
    (le_antisym (pair_at g r.0 r.1) (pair_at h r.0 r.1) (bh.greatest g bg.admissible r.0 r.1 lp r.3) (bg.greatest h bh.admissible r.0 r.1 lp r.3))) in
    let atoms : g.atoms ≡ h.atoms = sg ∙ sym sh in
    let first : g ≡ record { atoms = h.atoms; values = g.values } = ap (λ (a : ℕ). let x : PairShape = record { atoms = a; values = g.values } in x) atoms in
    first ∙ ap (λ (vs : List Span). let x : PairShape = record { atoms = h.atoms; values = vs } in x) same

one_dists : (t : TaskShape) (h : PairShape) (d e : DistShape) → d.actions ≡ length t.actions → e.actions ≡ length t.actions → d.atoms ≡ length t.atoms → e.atoms ≡ length t.atoms → IsWholeDists d → IsWholeDists e
    → IsGreatestDists t h d → IsGreatestDists t h e → d ≡ e
one_dists t h d e ad ae pd pe wd we bd be =
    let m = length t.actions in
    let n = length t.atoms in
    let ld : length d.values ≡ m * n = wd ∙ ap (λ x. x * d.atoms) ad ∙ ap (λ x. m * x) pd in
    let le : length e.values ≡ m * n = we ∙ ap (λ x. x * e.atoms) ae ∙ ap (λ x. m * x) pe in
    let same : d.values ≡ e.values = same_values d.values e.values (ld ∙ sym le) (λ k lt.
    let r = dist_of_place m n k (omega (arith, ld, lt)) in
    let both : dist_at d r.0 r.1 ≡ dist_at e r.0 r.1 = le_antisym (dist_at d r.0 r.1) (dist_at e r.0 r.1) (be.greatest d bd.admissible r.0 r.1 r.2 r.3) (bd.greatest e be.admissible r.0 r.1 r.2 r.3) in
    let there : r.0 * d.atoms + r.1 ≡ k = ap (λ x. r.0 * x + r.1) pd ∙ r.4 in
    let here : r.0 * e.atoms + r.1 ≡ k = ap (λ x. r.0 * x + r.1) pe ∙ r.4 in
    ap (λ x. get_or d.values x Never) (sym there) ∙ both ∙ ap (λ x. get_or e.values x Never) here) in
    let first : d ≡ record { actions = e.actions; atoms = d.atoms; values = d.values } = ap (λ (a : ℕ). let x : DistShape = record { actions = a; atoms = d.atoms; values = d.values } in x) (ad ∙ sym ae) in
    let second : record { actions = e.actions; atoms = d.atoms; values = d.values } ≡ record { actions = e.actions; atoms = e.atoms; values = d.values }
    = ap (λ (a : ℕ). let x : DistShape = record { actions = e.actions; atoms = a; values = d.values } in x) (pd ∙ sym pe) in
    first ∙ second ∙ ap (λ (vs : List Span). let x : DistShape = record { actions = e.actions; atoms = e.atoms; values = vs } in x) same

pub one_best : OneBest
one_best t b c sb sc hb hc =
    let e : b.pairs ≡ c.pairs = one_pairs t b.pairs c.pairs sb.pair_atoms sc.pair_atoms sb.pairs sc.pairs hb.pairs hc.pairs in
    let over : IsGreatestDists t c.pairs b.dists = subst (λ h. IsGreatestDists t h b.dists) e hb.dists in
    let f : b.dists ≡ c.dists = one_dists t c.pairs b.dists c.dists sb.dist_actions sc.dist_actions sb.dist_atoms sc.dist_atoms sb.dists sc.dists over hc.dists in
    let first : b ≡ record { pairs = c.pairs; dists = b.dists } = ap (λ (h : PairShape). let x : Tables = record { pairs = h; dists = b.dists } in x) e in
    first ∙ ap (λ (d : DistShape). let x : Tables = record { pairs = c.pairs; dists = d } in x) f
