-- a search has one outcome, and what that says is so
use Rattle.std.proofs.Common.{◌≡◌, ◌≢◌, ℕ, suc, ◌≤◌, ◌<◌, ◌==◌, ◌||◌, ◌⊎◌, inl, inr, true, false, List, [], ◌∷◌, Some, refl, sym, ap, ◌∙◌, subst, arith}
use Rattle.std.specs.List.{list_any}
use Rattle.std.proofs.lemmas.Bool.{cases_lt, eqb-true, or_cases}
use Rattle.cpt_task.specs.declared.plan.Occ.{Occ}
use Rattle.cpt_task.specs.declared.span.Span.{Span}
use Rattle.cpt_task.specs.declared.span.Span.TheVariants.{At, Never}
use Rattle.cpt_task.specs.Optimal.{IsOptimal, IsRefuted, HasNoPlan}
use Rattle.cpt_task.specs.Shape.{TaskShape}
use Rattle.cpt_task.specs.Timeline.{makespan, IsValid}
use Rattle.cpt_tables.specs.declared.tables.Tables.{Tables}
use Rattle.cpt_tables.specs.Spans.{◌≤ˢ◌}
use Rattle.cpt_sheet.specs.declared.data.Sheet.{Sheet}
use Rattle.cpt_calculus.specs.Closing.{IsClosed}
use Rattle.cpt_calculus.specs.Flaws.{HasNoFlaw}
use Rattle.cpt_calculus.specs.Rules.{rule_of}
use Rattle.cpt_soundness.specs.Acting.{IsAdmissible}
use Rattle.cpt_soundness.proofs.PlanLemmas.{goal_bounds}
use Rattle.cpt_tree.specs.Trees.{Node, SearchTree}
use Rattle.cpt_tree.specs.Deepening.{Conclusion, solved, exhausted, spent, AreExhausted, Concludes}
use Rattle.cpt_tree.proofs.ConclusionLemmas.{one-conclusion}
use Rattle.cpt_tree.proofs.BudgetLemmas.{spent-larger, larger-below}
use Rattle.cpt_outcome.specs.Nodes.{SearchProblem, IsFreshAt, IsClosedSheet, search_tree}
use Rattle.cpt_outcome.specs.Leaves.{IsSolved, IsPlanOfSheet}
use Rattle.cpt_outcome.specs.Outcomes.{goal_span, never, optimal, none_up_to, budget_spent, IsPlanOfNode, HasOutcome, OneOutcome, IsSearchable, OutcomesHold, SpentIsLarger, FindsPlans, FindsNone}
use Rattle.cpt_outcome.proofs.NodeLemmas.{fresh-same, fresh-closed, one-expansion, early-refuted}
use Rattle.cpt_outcome.proofs.OrderLemmas.{leaf-plans-valid}
use Rattle.cpt_outcome.proofs.PlanLemmas.{one-plan}
use Rattle.cpt_outcome.proofs.ReachLemmas.{exhausted-refuted}
use Rattle.cpt_outcome.specs.Enough.{enough, SpentBelowEnough}
use Rattle.cpt_outcome.proofs.EnoughLemmas.{trees-enough}
use Rattle.cpt_outcome.proofs.GoalLemmas.{zero-empty}

-- a sheet that is closed for all of some rules is closed for two of them
closed-two : (rules : List ℕ) (t : TaskShape) (b : Tables) (u : Sheet) → list_any (λ r. r == 1) rules ≡ true → list_any (λ r. r == 6) rules ≡ true → IsClosed rules t b u → IsClosed (1 ∷ 6 ∷ []) t b u
closed-two rules t b u one six closed step e legal = closed step (of (rule_of step) e) legal
  where
    of : (n : ℕ) → list_any (λ r. r == n) (1 ∷ 6 ∷ []) ≡ true → list_any (λ r. r == n) rules ≡ true
    of n e = go (or_cases (1 == n) ((6 == n) || false) e)
      where
        go : ((1 == n) ≡ true) ⊎ (((6 == n) || false) ≡ true) → list_any (λ r. r == n) rules ≡ true
        go (inl k) = subst (λ z. list_any (λ r. r == z) rules ≡ true) (eqb-true 1 n k) one
        go (inr k) = rest (or_cases (6 == n) false k)
          where
            rest : ((6 == n) ≡ true) ⊎ (false ≡ true) → list_any (λ r. r == n) rules ≡ true
            rest (inl m) = subst (λ z. list_any (λ r. r == z) rules ≡ true) (eqb-true 6 n m) six
            rest (inr m) = absurd (cc)

-- the goal has one first moment
at-same : (v : Span) (m n : ℕ) → v ≡ At m → v ≡ At n → m ≡ n
at-same v m n e f = cc

at-never : (v : Span) (m : ℕ) → v ≡ At m → v ≡ Never → ⊥
at-never v m e f = cc

concluded : (w : SearchProblem) (n first most : ℕ) (e f : Conclusion) → Concludes (search_tree w) n first most e → Concludes (search_tree w) n first most f → e ≡ f
concluded w n first most e f h k = one-conclusion (search_tree w) (one-expansion w) n first most e f h k

-- the first moments are one, so the conclusions are
meet : (w : SearchProblem) (n most a b : ℕ) (e f : Conclusion) → goal_span w ≡ At a → goal_span w ≡ At b → Concludes (search_tree w) n a most e → Concludes (search_tree w) n b most f → e ≡ f
meet w n most a b e f g h c d = concluded w n a most e f c (subst (λ z. Concludes (search_tree w) n z most f) (sym (at-same (goal_span w) a b g h)) d)

above : (T : ℕ → SearchTree) (n first most : ℕ) (e : Conclusion) → e ≢ exhausted → Concludes T n first most e → first ≤ most
above T n first most (solved b ds) some c = omega (arith, c.0, c.1)
above T n first most exhausted some c = absurd (some refl)
above T n first most (spent b) some c = omega (arith, c.0, c.1)

same-plans : (w : SearchProblem) (m k : ℕ) (ds es : Node) (plan other : List Occ) → m ≡ k → ds ≡ es → IsPlanOfNode w m ds plan → IsPlanOfNode w k es other → plan ≡ other
same-plans w m k ds es plan other e f (u, fu, pu) (v, fv, pv) =
    let g : IsFreshAt w m ds (Some v) = subst (λ z. IsFreshAt w z ds (Some v)) (sym e) (subst (λ z. IsFreshAt w k z (Some v)) (sym f) fv) in
    one-plan u plan other pu (subst (λ z. IsPlanOfSheet z other) (fresh-same w m ds v u g fu) pv)

solved-parts : (b c : ℕ) (ds es : Node) → solved b ds ≡ solved c es → (b ≡ c) × (ds ≡ es)
solved-parts b c ds es e = (cc, cc)

optimal-same : (m k : ℕ) (plan other : List Occ) → m ≡ k → plan ≡ other → optimal m plan ≡ optimal k other
optimal-same m k plan other e f = cc

pub one-outcome : OneOutcome
one-outcome w most n never never h k = refl
one-outcome w most n never (optimal m plan) h (inl (e, z, nil)) = absurd (at-never (goal_span w) 0 e h)
one-outcome w most n never (optimal m plan) h (inr (first, e, le, rest)) = absurd (at-never (goal_span w) first e h)
one-outcome w most n never none_up_to h (first, e, le, rest) = absurd (at-never (goal_span w) first e h)
one-outcome w most n never (budget_spent r) h (first, e, le, rest) = absurd (at-never (goal_span w) first e h)
one-outcome w most n (optimal m plan) never (inl (e, z, nil)) k = absurd (at-never (goal_span w) 0 e k)
one-outcome w most n (optimal m plan) never (inr (first, e, le, rest)) k = absurd (at-never (goal_span w) first e k)
one-outcome w most n (optimal m plan) (optimal k other) (inl (e, a, p)) (inl (f, b, q)) = optimal-same m k plan other (a ∙ sym b) (p ∙ sym q)
one-outcome w most n (optimal m plan) (optimal k other) (inl (e, a, p)) (inr (first, f, le, rest)) = let z = at-same (goal_span w) 0 first e f in absurd (omega (arith, le, z))
one-outcome w most n (optimal m plan) (optimal k other) (inr (first, f, le, rest)) (inl (e, a, p)) = let z = at-same (goal_span w) 0 first e f in absurd (omega (arith, le, z))
one-outcome w most n (optimal m plan) (optimal k other) (inr (first, f, le, (ds, c, p))) (inr (second, g, ge, (es, d, q))) =
    let parts = solved-parts m k ds es (meet w n most first second (solved m ds) (solved k es) f g c d) in
    optimal-same m k plan other parts.0 (same-plans w m k ds es plan other parts.0 parts.1 p q)
one-outcome w most n (optimal m plan) none_up_to (inl (e, a, p)) (first, f, le, rest) = let z = at-same (goal_span w) 0 first e f in absurd (omega (arith, le, z))
one-outcome w most n (optimal m plan) none_up_to (inr (first, f, le, (ds, c, p))) (second, g, ge, inl lt) = let z = at-same (goal_span w) first second f g in absurd (omega (arith, lt, z, c.0, c.1))
one-outcome w most n (optimal m plan) none_up_to (inr (first, f, le, (ds, c, p))) (second, g, ge, inr (low, d)) = let e = meet w n most first second (solved m ds) exhausted f g c d in absurd (cc)
one-outcome w most n (optimal m plan) (budget_spent r) (inl (e, a, p)) (first, f, le, rest) = let z = at-same (goal_span w) 0 first e f in absurd (omega (arith, le, z))
one-outcome w most n (optimal m plan) (budget_spent r) (inr (first, f, le, (ds, c, p))) (second, g, ge, d) = let e = meet w n most first second (solved m ds) (spent (suc r)) f g c d in absurd (cc)
one-outcome w most n none_up_to never (first, e, le, rest) k = absurd (at-never (goal_span w) first e k)
one-outcome w most n none_up_to (optimal m plan) (first, f, le, rest) (inl (e, a, p)) = let z = at-same (goal_span w) 0 first e f in absurd (omega (arith, le, z))
one-outcome w most n none_up_to (optimal m plan) (second, g, ge, inl lt) (inr (first, f, le, (ds, c, p))) = let z = at-same (goal_span w) first second f g in absurd (omega (arith, lt, z, c.0, c.1))
one-outcome w most n none_up_to (optimal m plan) (second, g, ge, inr (low, d)) (inr (first, f, le, (ds, c, p))) = let e = meet w n most first second (solved m ds) exhausted f g c d in absurd (cc)
one-outcome w most n none_up_to none_up_to h k = refl
one-outcome w most n none_up_to (budget_spent r) (second, g, ge, inl lt) (first, f, le, d) = let z = at-same (goal_span w) first second f g in absurd (omega (arith, lt, z, d.0, d.1))
one-outcome w most n none_up_to (budget_spent r) (second, g, ge, inr (low, d)) (first, f, le, c) = let e = meet w n most first second (spent (suc r)) exhausted f g c d in absurd (cc)
one-outcome w most n (budget_spent r) never (first, e, le, rest) k = absurd (at-never (goal_span w) first e k)
one-outcome w most n (budget_spent r) (optimal m plan) (first, f, le, rest) (inl (e, a, p)) = let z = at-same (goal_span w) 0 first e f in absurd (omega (arith, le, z))
one-outcome w most n (budget_spent r) (optimal m plan) (second, g, ge, d) (inr (first, f, le, (ds, c, p))) = let e = meet w n most first second (solved m ds) (spent (suc r)) f g c d in absurd (cc)
one-outcome w most n (budget_spent r) none_up_to (first, f, le, d) (second, g, ge, inl lt) = let z = at-same (goal_span w) first second f g in absurd (omega (arith, lt, z, d.0, d.1))
one-outcome w most n (budget_spent r) none_up_to (first, f, le, c) (second, g, ge, inr (low, d)) = let e = meet w n most first second (spent (suc r)) exhausted f g c d in absurd (cc)
one-outcome w most n (budget_spent r) (budget_spent q) (first, f, le, c) (second, g, ge, d) = let e = meet w n most first second (spent (suc r)) (spent (suc q)) f g c d in ap budget_spent (down r q e)
  where
    down : (r q : ℕ) → spent (suc r) ≡ spent (suc q) → r ≡ q
    down r q e = let f : suc r ≡ suc q = cc in omega (arith, f)

-- all bounds below one that is reached are refuted
below-refuted : (w : SearchProblem) (n first b c : ℕ) → IsSearchable w → goal_span w ≡ At first → b ≤ 1000001 → AreExhausted (search_tree w) n first b → c < b → IsRefuted w.task c
below-refuted w n first b c ok e small all lt = go (cases_lt c first)
  where
    go : (c < first) ⊎ (first ≤ c) → IsRefuted w.task c
    go (inl low) = early-refuted w first c ok.sound.admissible e low
    go (inr high) = exhausted-refuted w c n ok.sound (omega arith) (all c high lt)

-- the plan of a leaf is valid, and its makespan is at most the bound
leaf-good : (w : SearchProblem) (b : ℕ) (ds : Node) (plan : List Occ) → IsSearchable w → ((u : Sheet) × IsFreshAt w b ds (Some u) × HasNoFlaw w.task u) → IsPlanOfNode w b ds plan → IsValid w.task plan × (makespan w.task plan ≤ b)
leaf-good w b ds plan ok (u, fu, flawless) (v, fv, p) = (good.0, subst (λ z. makespan w.task plan ≤ z) fact.bound good.1)
  where
    fact : IsClosedSheet w b u
    fact = fresh-closed w b ds u fu

    solved-sheet : IsSolved w.task w.tables u
    solved-sheet = record { bounds = ok.bounds; formed = fact.formed; live = fact.live; closed = closed-two w.rules w.task w.tables u ok.one ok.six fact.closed; flawless = flawless }

    good : IsValid w.task plan × (makespan w.task plan ≤ u.bound)
    good = leaf-plans-valid w.task w.tables u plan solved-sheet (subst (λ z. IsPlanOfSheet z plan) (fresh-same w b ds v u fv fu) p).tokens

-- a valid plan of makespan at most b is optimal where all bounds below b are refuted, and then its makespan is b
least-optimal : (t : TaskShape) (b : ℕ) (plan : List Occ) → IsValid t plan → makespan t plan ≤ b → ((c : ℕ) → c < b → IsRefuted t c) → IsOptimal t plan × (makespan t plan ≡ b)
least-optimal t b plan valid short refuted = (record { valid = valid; least = least }, omega (arith, reaches plan valid, short))
  where
    reaches : (other : List Occ) → IsValid t other → b ≤ makespan t other
    reaches other good = go (cases_lt (makespan t other) b)
      where
        go : (makespan t other < b) ⊎ (b ≤ makespan t other) → b ≤ makespan t other
        go (inl lt) = absurd (refuted (makespan t other) lt other good (omega arith))
        go (inr ge) = ge

    least : (other : List Occ) → IsValid t other → makespan t plan ≤ makespan t other
    least other good = omega (arith, reaches other good, short)

no-plan : (w : SearchProblem) → IsAdmissible w.task w.tables → goal_span w ≡ Never → HasNoPlan w.task
no-plan w ok e plan valid = never-late (makespan w.task plan) (subst (λ z. z ≤ˢ At (makespan w.task plan)) e (goal_bounds w.task w.tables plan ok valid))
  where
    never-late : (m : ℕ) → Never ≤ˢ At m → ⊥
    never-late m h = h

pub outcomes-hold : OutcomesHold
outcomes-hold w most n never ok small h = no-plan w ok.sound.admissible h
outcomes-hold w most n (optimal m plan) ok small (inl (e, z, nil)) =
    let k = zero-empty w.task w.tables.pairs ok.bounds ok.whole ok.size ok.greatest e in
    (subst (IsOptimal w.task) (sym nil) k, subst (λ p. makespan w.task p ≡ m) (sym nil) (sym z))
outcomes-hold w most n (optimal m plan) ok small (inr (first, e, le, (ds, (low, high, below, (fs, frontier, begun, leaf, lt)), p))) =
    let good = leaf-good w m ds plan ok leaf p in
    least-optimal w.task m plan good.0 good.1 (λ c lt. below-refuted w n first m c ok e (omega arith) below lt)
outcomes-hold w most n none_up_to ok small (first, e, le, inl lt) = early-refuted w first most ok.sound.admissible e lt
outcomes-hold w most n none_up_to ok small (first, e, le, inr (low, all)) = below-refuted w n first (suc most) most ok e (omega arith) all (omega arith)
outcomes-hold w most n (budget_spent r) ok small (first, e, le, (low, high, below, large)) = below-refuted w n first (suc r) r ok e (omega arith) below (omega arith)

pub spent-is-larger : SpentIsLarger
spent-is-larger w most n r (first, e, le, c) = spent-larger (search_tree w) n first most (suc r) c

pub spent-below-enough : SpentBelowEnough
spent-below-enough w most n r inside one h = larger-below (search_tree w (suc r)) n (enough w.task (suc r)) (spent-is-larger w most n r h) (trees-enough w (suc r) inside one)

-- an optimal plan has the makespan of every optimal plan
same-makespan : (t : TaskShape) (p q : List Occ) → IsOptimal t p → IsOptimal t q → makespan t p ≡ makespan t q
same-makespan t p q a b = omega (arith, a.least q b.valid, b.least p a.valid)

pub finds-plans : FindsPlans
finds-plans w most n plan never ok small best le few h = absurd (no-plan w ok.sound.admissible h plan best.valid)
finds-plans w most n plan (optimal m found) ok small best le few h =
    let k = outcomes-hold w most n (optimal m found) ok small h in
    (found, ap (λ z. optimal z found) (sym k.1 ∙ same-makespan w.task found plan k.0 best))
finds-plans w most n plan none_up_to ok small best le few h = absurd (outcomes-hold w most n none_up_to ok small h plan best.valid le)
finds-plans w most n plan (budget_spent r) ok small best le few h = go (cases_lt r (makespan w.task plan))
  where
    go : (r < makespan w.task plan) ⊎ (makespan w.task plan ≤ r) → (found : List Occ) × (budget_spent r ≡ optimal (makespan w.task plan) found)
    go (inl lt) = absurd (few (suc r) (omega arith) (spent-is-larger w most n r h))
    go (inr ge) = absurd (outcomes-hold w most n (budget_spent r) ok small h plan best.valid ge)

pub finds-none : FindsNone
finds-none w most n never ok small refuted few h = inr (refl, h)
finds-none w most n (optimal m found) ok small refuted few h = absurd (go h)
  where
    said : IsOptimal w.task found × (makespan w.task found ≡ m)
    said = outcomes-hold w most n (optimal m found) ok small h

    go : HasOutcome w most n (optimal m found) → ⊥
    go (inl (e, z, nil)) = refuted found said.0.valid (omega (arith, said.1, z))
    go (inr (first, e, le, (ds, (low, high, below, rest), p))) = refuted found said.0.valid (omega (arith, said.1, high))
finds-none w most n none_up_to ok small refuted few h = inl refl
finds-none w most n (budget_spent r) ok small refuted few (first, e, le, c) = absurd (few (suc r) c.1 (spent-is-larger w most n r (first, e, le, c)))
