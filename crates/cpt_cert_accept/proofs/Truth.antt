-- the claim of a certificate holds
use Rattle.std.proofs.Common.{◌≡◌, ℕ, zero, suc, ◌≤◌, false, List, length, All, sym, subst, arith}
use Rattle.std.proofs.lemmas.List.Elements.{All-nil, All-cons}
use Rattle.cpt_task.specs.declared.span.Span.{Span}
use Rattle.cpt_task.specs.declared.span.Span.TheVariants.{At, Never}
use Rattle.cpt_task.specs.declared.plan.Occ.{Occ}
use Rattle.cpt_task.specs.Shape.{TaskShape, InBounds}
use Rattle.cpt_task.specs.Timeline.{IsValid, makespan}
use Rattle.cpt_task.specs.Optimal.{IsOptimal, IsRefuted, HasNoPlan}
use Rattle.cpt_task.proofs.OptimalityLemmas.{by_refutation}
use Rattle.cpt_tables.specs.declared.tables.Tables.{Tables}
use Rattle.cpt_tables.specs.Spans.{◌≤ˢ◌}
use Rattle.cpt_tables.specs.Shapes.{PairShape, dists_of, set_span_of}
use Rattle.cpt_tables.specs.Admissible.{IsAdmissibleDists}
use Rattle.cpt_tables.proofs.PlaceLemmas.{filled_dists}
use Rattle.cpt_sheet.specs.declared.data.NodeLine.{NodeLine}
use Rattle.cpt_calculus.specs.Decisions.{applied}
use Rattle.cpt_calculus.specs.Flaws.{children}
use Rattle.cpt_calculus.specs.Root.{root_of}
use Rattle.cpt_soundness.specs.Acting.{IsAdmissible}
use Rattle.cpt_soundness.specs.Sets.{HasSets}
use Rattle.cpt_soundness.specs.Tree.{IsClosedTree}
use Rattle.cpt_soundness.specs.Tree.IsClosedTree.{close as shut, narrow as narrowing}
use Rattle.cpt_soundness.proofs.PlanLemmas.{goal_bounds}
use Rattle.cpt_soundness.proofs.TreeLemmas.{tree_refutes, branches_close}
use Rattle.cpt_cert_form.specs.declared.forms.Claim.{Claim}
use Rattle.cpt_cert_form.specs.declared.forms.Claim.TheVariants as claims
use Rattle.cpt_cert_form.specs.declared.forms.CertLine.TheVariants as lines
use Rattle.cpt_cert_form.specs.Forms.{IsClaim}
use Rattle.cpt_cert_form.specs.Text.{Parts}
use Rattle.cpt_cert_accept.specs.Trees.{Part, IsPart}
use Rattle.cpt_cert_accept.specs.Trees.Part.{node, worked, branches}
use Rattle.cpt_cert_accept.specs.Trees.IsPart.{left, whole, step, close, branch, none, child}
use Rattle.cpt_cert_accept.specs.Accepting.{Proves, HasPairs, HasTables, IsClosedAt, IsInForm}
use Rattle.cpt_cert_accept.specs.Laws.{HoldsOf, CertificatesHold}

-- what a part of a tree without open nodes closes
abbrev Closes : TaskShape → Tables → Part → Type 0
Closes t b (node s) = IsClosedTree t b s
Closes t b (worked s) = IsClosedTree t b s
Closes t b (branches s ds) = All (λ d. IsClosedTree t b (applied t s d)) ds

closes : (t : TaskShape) (b : Tables) (part : Part) (ls : List NodeLine) → IsPart t b false part ls → Closes t b part
closes t b r ls (left s e) = absurd (cc)
closes t b r ls (whole s more h) = closes t b (worked s) more h
closes t b r ls (step s rule more legal h) = narrowing s rule legal (closes t b (worked _) more h)
closes t b r ls (close s dead) = shut s dead
closes t b r ls (branch s flaw more live stands h) = branches_close t b s flaw stands (closes t b (branches s (children s flaw)) more h)
closes t b r ls (none s) = All-nil (λ d. IsClosedTree t b (applied t s d))
closes t b r ls (child s d ds one more all h k e) = All-cons (λ d. IsClosedTree t b (applied t s d)) d ds (closes t b (node (applied t s d)) one h) (closes t b (branches s ds) more k)

admissible : (t : TaskShape) (b : Tables) → InBounds t → HasTables t b → IsAdmissible t b
admissible t b inside h = record { bounds = inside; pairs = h.pairs; dists = h.dists }

-- a closed tree refutes its bound
refutes : (t : TaskShape) (b : Tables) (m : ℕ) (ls : List NodeLine) → InBounds t → HasSets t → HasTables t b → m ≤ 1000000 → IsClosedAt t b m ls → IsRefuted t m
refutes t b m ls inside sets h few tree =
    tree_refutes t b m sets (admissible t b inside h) h.fits few (closes t b (node (root_of t b m)) ls tree)

-- distances of 0 are admissible
no_distances : (t : TaskShape) (h : PairShape) → IsAdmissibleDists t h (dists_of (length t.actions) (length t.atoms) (At 0))
no_distances t h a p la lp v limit = subst (λ z. z ≤ˢ v) (sym (filled_dists (length t.actions) (length t.atoms) (At 0) a p la lp)) (least v)
  where
    least : (w : Span) → At 0 ≤ˢ w
    least (At n) = omega arith
    least Never = tt

-- where the goal can never hold, there is no plan
unreachable : (t : TaskShape) (h : PairShape) → InBounds t → HasPairs t h → set_span_of h t.goal ≡ Never → HasNoPlan t
unreachable t h inside pairs e plan valid =
    let b : Tables = record { pairs = h; dists = dists_of (length t.actions) (length t.atoms) (At 0) } in
    subst (λ z. z ≤ˢ At (makespan t plan)) e (goal_bounds t b plan (record { bounds = inside; pairs = pairs.admissible; dists = no_distances t h }) valid)

below_refuted : (t : TaskShape) (m b : ℕ) → b ≤ m → IsRefuted t m → IsRefuted t b
below_refuted t m b le refuted plan valid short = refuted plan valid (omega arith)

optimal : (t : TaskShape) (m : ℕ) (plan : List Occ) → IsValid t plan → makespan t plan ≡ suc m → IsRefuted t m → IsOptimal t plan × (makespan t plan ≡ suc m)
optimal t m plan valid e refuted = ((by_refutation t plan valid).1 (λ b lt. below_refuted t m b (omega (arith, e, lt)) refuted), e)

holds : (t : TaskShape) (claim : Claim) (c : Parts) → InBounds t → HasSets t → IsClaim claim → Proves t claim c → HoldsOf t claim c.plan
holds t (claims.Optimal zero) c inside sets few h = ((by_refutation t c.plan h.valid).1 (λ b lt. absurd (omega (arith, h.makespan, lt))), h.makespan)
holds t (claims.Optimal (suc m)) c inside sets few h = optimal t m c.plan h.0.valid h.0.makespan (refutes t c.tables m c.tree inside sets h.1 (omega arith) h.2)
holds t (claims.NoneUpTo m) c inside sets few h = refutes t c.tables m c.tree inside sets h.0 few h.1
holds t claims.Never c inside sets few h = unreachable t c.tables.pairs inside h.0 h.1
holds t (claims.Spent refuted nodes) c inside sets few h = refutes t c.tables refuted c.tree inside sets h.0 (let k = few.0 in omega arith) h.1

pub certificates_hold : CertificatesHold
certificates_hold t text v claim c inside sets h =
    let line : IsInForm (lines.Claimed c.claim) = h.written 1 lines.End (omega arith) in
    holds t claim c inside sets (subst IsClaim h.claims line.written) h.proves
