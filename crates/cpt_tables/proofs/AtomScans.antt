-- searches over right sides of the distances of one action
use Rattle.std.proofs.Common.{◌≡◌, ℕ, ◌+◌, ◌<◌, ◌≤◌, ◌⊎◌, inl, inr, Option, Some, None, length, Contains, refl, sym, subst, arith}
use Rattle.std.proofs.lemmas.Bool.{cases_lt}
use Rattle.cpt_task.specs.declared.span.Span.{Span}
use Rattle.cpt_task.specs.declared.span.Span.TheVariants.{At, Never}
use Rattle.cpt_task.specs.declared.task.Action.{Action}
use Rattle.cpt_task.specs.Shape.{TaskShape}
use Rattle.cpt_tables.specs.Spans.{◌≤ˢ◌, ◌<ˢ◌}
use Rattle.cpt_tables.specs.Shapes.{PairShape, DistShape, dist_at, FitsPairs, FitsDists}
use Rattle.cpt_tables.specs.Admissible.{IsAtOnce, IsDistLimit, IsLimitAfter, IsLeast, IsAdmissibleDists, IsDistFault, ComesBefore, nth_action}
use Rattle.cpt_tables.specs.Admissible.IsDistLimit.{at_once, later}
use Rattle.cpt_tables.specs.Scans.{ReachesAtom, ScansAtoms, IsLate, IsZeroHere, IsAfterHere, IsOfDist, IsFineBefore, Lessens}
use Rattle.cpt_tables.proofs.SpanLemmas.{le_cases, le_lt, zero_le}
use Rattle.cpt_tables.proofs.LimitLemmas.{number_of_action}
use Rattle.cpt_tables.proofs.TaskLemmas.{nth_contained}
use Rattle.cpt_tables.proofs.ScanLemmas as scans

-- a search over the first i kinds of right sides
abbrev pub AtomsFirst : DistShape → ℕ → (ℕ → ℕ → Span → Type 0) → ℕ → Option ℕ → Option ℕ → Type 0
AtomsFirst d a M i old new = ScansAtoms d a (λ k v. (j : ℕ) × (j < i) × M j k v) old new

pub atoms_start : (d : DistShape) (a : ℕ) (M : ℕ → ℕ → Span → Type 0) (old : Option ℕ) → AtomsFirst d a M 0 old old
atoms_start d a M old = scans.scans_start ReachesAtom (dist_at d a) M old

pub atoms_more : (d : DistShape) (a : ℕ) (M : ℕ → ℕ → Span → Type 0) (i : ℕ) (old mid new : Option ℕ) → AtomsFirst d a M i old mid → ScansAtoms d a (M i) mid new → AtomsFirst d a M (i + 1) old new
atoms_more d a M i old mid new s r = scans.scans_more ReachesAtom (dist_at d a) M i old mid new s r

pub atoms_same : (d : DistShape) (a : ℕ) (L M : ℕ → Span → Type 0) (old new : Option ℕ) → ((k : ℕ) (v : Span) → L k v → M k v) → ((k : ℕ) (v : Span) → M k v → L k v) → ScansAtoms d a L old new → ScansAtoms d a M old new
atoms_same d a L M old new f g s = scans.scans_same ReachesAtom (dist_at d a) L M old new f g s

pub atoms_both : (d : DistShape) (a : ℕ) (L M : ℕ → Span → Type 0) (old mid new : Option ℕ) → ScansAtoms d a L old mid → ScansAtoms d a M mid new → ScansAtoms d a (λ k v. L k v ⊎ M k v) old new
atoms_both d a L M old mid new s r = scans.scans_both ReachesAtom (dist_at d a) L M old mid new s r

-- a distance that is not too late
fine : (h : PairShape) (d : DistShape) (a : ℕ) (c : Action) (k : ℕ) (v : Span) → (IsLate h d a c k → ⊥) → IsZeroHere h c k v → dist_at d a k ≤ˢ v
fine h d a c k v not_late m =
    elim (le_cases (dist_at d a k) (At 0)) [ inl le ↦ subst (λ w. dist_at d a k ≤ˢ w) (sym m.2) le | inr lt ↦ absurd (not_late (lt, m.1)) ]

pub late_none : (h : PairShape) (d : DistShape) (a : ℕ) (c : Action) → ((k : ℕ) → k < h.atoms → IsLate h d a c k → ⊥) → ScansAtoms d a (IsZeroHere h c) None None
late_none h d a c none = record {
  lowered = λ k r. r;
  passes = λ k v m. inl (fine h d a c k v (none k m.0) m);
  origin = inl refl;
}

pub late_some : (h : PairShape) (d : DistShape) (a : ℕ) (c : Action) (p : ℕ) → p < h.atoms → ((k : ℕ) → k < p → IsLate h d a c k → ⊥) → IsLate h d a c p → ScansAtoms d a (IsZeroHere h c) None (Some p)
late_some h d a c p lp none late = record {
  lowered = λ k r. absurd r;
  passes = λ k v m. elim (cases_lt k p) [ inl lt ↦ inl (fine h d a c k v (none k lt) m) | inr le ↦ inr le ];
  origin = inr (At 0, (lp, late.1, refl), late.0);
}

-- the right sides by the numbers of actions
pub after_from_here : (t : TaskShape) (d : DistShape) (a p : ℕ) (v : Span) (n : ℕ) → n ≡ length t.actions → ((i : ℕ) × (i < n) × IsAfterHere d a (nth_action t i) p v) → IsLimitAfter t d a p v
after_from_here t d a p v n e m = (nth_action t m.0, nth_contained t m.0 (subst (λ b. m.0 < b) e m.1), m.2.0, m.2.1)

pub here_from_after : (t : TaskShape) (d : DistShape) (a p : ℕ) (v : Span) (n : ℕ) → n ≡ length t.actions → IsLimitAfter t d a p v → (i : ℕ) × (i < n) × IsAfterHere d a (nth_action t i) p v
here_from_after t d a p v n e m =
    let k = number_of_action t m.0 m.1 in
    (k.0, subst (λ b. k.0 < b) (sym e) k.1, subst (λ (c : Action). IsAfterHere d a c p v) k.2 (m.2, m.3))

-- the least right side of a distance that is to be 0
pub least_at_once : (t : TaskShape) (h : PairShape) (d : DistShape) (a p : ℕ) → IsAtOnce h (nth_action t a) p → IsLeast (IsDistLimit t h d a p) (At 0)
least_at_once t h d a p once = record { taken = inl (at_once once refl); least = λ v m. zero_le v }

-- and of another one
pub least_later : (t : TaskShape) (h : PairShape) (d : DistShape) (a p : ℕ) (most : Span) → (IsAtOnce h (nth_action t a) p → ⊥) → Lessens (IsLimitAfter t d a p) Never most → IsLeast (IsDistLimit t h d a p) most
least_later t h d a p most not_once s = record {
  taken = elim s.taken [ inl e ↦ inr e | inr m ↦ inl (later not_once m) ];
  least = least;
}
  where
    least : (v : Span) → IsDistLimit t h d a p v → most ≤ˢ v
    least v (at_once once e) = absurd (not_once once)
    least v (later n m) = s.least v m

pub within_later : (t : TaskShape) (h : PairShape) (d : DistShape) (a p : ℕ) (most : Span) → (IsAtOnce h (nth_action t a) p → ⊥) → Lessens (IsLimitAfter t d a p) Never most → (v : Span) → IsOfDist t h d a p v → most ≤ˢ v
within_later t h d a p most not_once s v (inl m) = absurd (not_once m.1)
within_later t h d a p most not_once s v (inr m) = s.least v (after_from_here t d a p v (length t.actions) refl m)

-- each right side is looked at
of_limit : (t : TaskShape) (h : PairShape) (d : DistShape) (a p : ℕ) (v : Span) → p < h.atoms → IsDistLimit t h d a p v → IsOfDist t h d a p v
of_limit t h d a p v lp (at_once once e) = inl (lp, once, e)
of_limit t h d a p v lp (later n m) = inr (here_from_after t d a p v (length t.actions) refl m)

-- what a search of one action says of its distances
pub fine_from_none : (t : TaskShape) (h : PairShape) (d : DistShape) (a : ℕ) → FitsPairs t h → ScansAtoms d a (IsOfDist t h d a) None None → (p : ℕ) → p < length t.atoms → (v : Span) → IsDistLimit t h d a p v → dist_at d a p ≤ˢ v
fine_from_none t h d a f s p lp v m =
    elim (s.passes p v (of_limit t h d a p v (subst (λ n. p < n) (sym f.size) lp) m)) [ inl le ↦ le | inr none ↦ absurd none ]

pub fine_more : (t : TaskShape) (h : PairShape) (d : DistShape) (n : ℕ) → IsFineBefore t h d n → ((p : ℕ) → p < length t.atoms → (v : Span) → IsDistLimit t h d n p v → dist_at d n p ≤ˢ v) → IsFineBefore t h d (n + 1)
fine_more t h d n before here a p la lp v m = go (cases_lt a n)
  where
    go : ((a < n) ⊎ (n ≤ a)) → dist_at d a p ≤ˢ v
    go (inl lt) = before a p lt lp v m
    go (inr le) =
        let e : a ≡ n = omega arith in
        subst (λ b. dist_at d b p ≤ˢ v) (sym e) (here p lp v (subst (λ b. IsDistLimit t h d b p v) e m))

pub fine_all : (t : TaskShape) (h : PairShape) (d : DistShape) (n : ℕ) → length t.actions ≤ n → IsFineBefore t h d n → IsAdmissibleDists t h d
fine_all t h d n le before a p la lp v m = before a p (omega arith) lp v m

-- the atoms that a search found are atoms
pub atom_below : (t : TaskShape) (h : PairShape) (d : DistShape) (a p : ℕ) → FitsPairs t h → FitsDists t d → ((c : ℕ) → c < length t.actions → (r : ℕ) → Contains (nth_action t c).add r → r < length t.atoms) → ScansAtoms d a (IsOfDist t h d a) None (Some p) → p < d.atoms
atom_below t h d a p f g adds s = elim s.origin [ inl e ↦ absurd (let z : ⊥ = cc e in z) | inr hit ↦ below hit.0 hit.1 ]
  where
    below : (v : Span) → IsOfDist t h d a p v → p < d.atoms
    below v (inl m) = let lt : p < h.atoms = m.0 in let size : h.atoms ≡ length t.atoms = f.size in let width : d.atoms ≡ length t.atoms = g.atoms in omega arith
    below v (inr m) = let lt : p < length t.atoms = adds m.0 m.1 p m.2.0 in let width : d.atoms ≡ length t.atoms = g.atoms in omega arith

pub fault_from_some : (t : TaskShape) (h : PairShape) (d : DistShape) (a p : ℕ) (most : Span) → FitsPairs t h → a < length t.actions → p < length t.atoms → IsFineBefore t h d a → ScansAtoms d a (IsOfDist t h d a) None (Some p) →
    IsLeast (IsDistLimit t h d a p) most → ((v : Span) → IsOfDist t h d a p v → most ≤ˢ v) → IsDistFault t h d (record { act = a; atom = p; most = most })
fault_from_some t h d a p most f la lp before s least within = record {
  action = la;
  within = lp;
  least = least;
  above = above s.origin;
  first = first;
}
  where
    above : ((Some p ≡ None) ⊎ ((v : Span) × IsOfDist t h d a p v × (v <ˢ dist_at d a p))) → most <ˢ dist_at d a p
    above (inl e) = absurd (let z : ⊥ = cc e in z)
    above (inr hit) = le_lt most hit.0 (dist_at d a p) (within hit.0 hit.1) hit.2

    first : (b r : ℕ) → b < length t.actions → r < length t.atoms → ComesBefore b r a p → (v : Span) → IsDistLimit t h d b r v → dist_at d b r ≤ˢ v
    first b r lb lr (inl lt) v m = before b r lt lr v m
    first b r lb lr (inr (e, lt)) v m =
        subst (λ x. dist_at d x r ≤ˢ v) (sym e)
        (elim (s.passes r v (of_limit t h d a r v (subst (λ n. r < n) (sym f.size) lr) (subst (λ x. IsDistLimit t h d x r v) e m))) [ inl le ↦ le | inr reach ↦ absurd (let le : p ≤ r = reach in omega (arith, le, lt)) ])
