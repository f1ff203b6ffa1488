use Rattle.std.proofs.Common.{◌≡◌, ℕ, ◌≤◌, ◌==◌, ◌||◌, inl, inr, true, false, List, [], ◌∷◌, Some, refl, sym, subst, arith}
use Rattle.std.specs.List.{list_any}
use Rattle.std.proofs.lemmas.Bool.{eqb-true, or_cases}
use Rattle.std.proofs.lemmas.List.Elements.{All-weaker}
use Rattle.std.specs.List.Sorted.{IsStrictlyIncreasing}
use Rattle.cpt_task.specs.declared.plan.Occ.{Occ}
use Rattle.cpt_task.specs.Shape.{TaskShape, InBounds}
use Rattle.cpt_task.specs.Timeline.{IsPlan}
use Rattle.cpt_task_text.specs.Plain.{HasShortLists, IsPlain}
use Rattle.cpt_tables.specs.declared.tables.Tables.{Tables}
use Rattle.cpt_tables.specs.Unique.{HasSizes}
use Rattle.cpt_tables.proofs.UniqueLemmas.{one_best}
use Rattle.cpt_sheet.specs.declared.data.Sheet.{Sheet}
use Rattle.cpt_calculus.specs.Closing.{IsClosed}
use Rattle.cpt_calculus.specs.Flaws.{HasNoFlaw}
use Rattle.cpt_calculus.specs.Rules.{all_rules, rule_of}
use Rattle.cpt_soundness.specs.Sets.{HasSets}
use Rattle.cpt_tree.specs.Trees.{Node}
use Rattle.cpt_outcome.specs.Leaves.{IsPlanOfSheet}
use Rattle.cpt_outcome.specs.Nodes.{IsFreshAt, SearchProblem}
use Rattle.cpt_outcome.specs.Outcomes.{HasOutcome, IsPlanOfNode, IsSearchable, SearchOutcome, Says, budget_spent, never, none_up_to, optimal}
use Rattle.cpt_outcome.proofs.NodeLemmas.{fresh-closed, fresh-same}
use Rattle.cpt_outcome.proofs.OrderLemmas.{leaf-plans-valid}
use Rattle.cpt_outcome.proofs.OutcomeLemmas.{one-outcome, outcomes-hold}
use Rattle.cpt_options.specs.declared.options.Budget.{Budget}
use Rattle.cpt_solve.specs.Searches.{AreBestTables, HasPlan, IsOutcome, full_search}

sets_of : (t : TaskShape) → IsPlain t → HasSets t
sets_of t plain = record { goal = plain.goal; pre = All-weaker HasShortLists (λ a. IsStrictlyIncreasing a.pre) (λ a lists. lists.pre.increasing) t.actions plain.lists }

-- a plain task can be searched over its best tables
pub searchable : (t : TaskShape) (b : Tables) → IsPlain t → AreBestTables t b → IsSearchable (full_search t b)
searchable t b plain best = record {
  bounds = plain.bounds;
  sound = record { sets = sets_of t plain; admissible = record { bounds = plain.bounds; pairs = best.best.pairs.admissible; dists = best.best.dists.admissible }; fits = best.fits };
  whole = best.pairs;
  size = best.fits.pairs.size;
  greatest = best.best.pairs;
  one = refl;
  six = refl;
}

-- what holds of a search over one task and tables holds over the same ones
pub moved : (P : SearchProblem → Type 0) (t u : TaskShape) (b d : Tables) → t ≡ u → b ≡ d → P (full_search t b) → P (full_search u d)
moved P t u b d e f h =
    let with_tables : Tables → Type 0 = λ b. P (full_search u b) in
    let with_task : TaskShape → Type 0 = λ t. P (full_search t b) in
    subst with_tables f (subst with_task e h)

-- what its outcome says is so
pub outcome_holds : (t : TaskShape) (budget : Budget) (o : SearchOutcome) (is : IsOutcome t budget o) → IsPlain t → budget.max ≤ 1000000 → Says (full_search t is.tables) budget.max o
outcome_holds t budget o is plain small = outcomes-hold (full_search t is.tables) budget.max budget.nodes o (searchable t is.tables plain is.best) small is.has

has_sizes : (t : TaskShape) (b : Tables) → AreBestTables t b → HasSizes t b
has_sizes t b best = record { pair_atoms = best.fits.pairs.size; pairs = best.pairs; dist_actions = best.fits.dists.actions; dist_atoms = best.fits.dists.atoms; dists = best.dists }

pub same_tables : (t : TaskShape) (b c : Tables) → AreBestTables t b → AreBestTables t c → b ≡ c
same_tables t b c hb hc = one_best t b c (has_sizes t b hb) (has_sizes t c hc) hb.best hc.best

-- a search has one outcome
pub outcome_once : (t : TaskShape) (budget : Budget) (o p : SearchOutcome) → IsOutcome t budget o → IsOutcome t budget p → o ≡ p
outcome_once t budget o p h k =
    let same = same_tables t k.tables h.tables k.best h.best in
    let P : Tables → Type 0 = λ b. HasOutcome (full_search t b) budget.max budget.nodes p in
    one-outcome (full_search t h.tables) budget.max budget.nodes o p h.has (subst P same k.has)

-- a sheet that is closed for all rules is closed for two of them
closed_two : (t : TaskShape) (b : Tables) (u : Sheet) → IsClosed all_rules t b u → IsClosed (1 ∷ 6 ∷ []) t b u
closed_two t b u closed step e legal = closed step (of (rule_of step) e) legal
  where
    of : (n : ℕ) → list_any (λ r. r == n) (1 ∷ 6 ∷ []) ≡ true → list_any (λ r. r == n) all_rules ≡ true
    of n e = elim (or_cases (1 == n) ((6 == n) || false) e) [
      | inl k ↦ subst (λ z. list_any (λ r. r == z) all_rules ≡ true) (eqb-true 1 n k) refl
      | inr k ↦ elim (or_cases (6 == n) false k) [
        | inl m ↦ subst (λ z. list_any (λ r. r == z) all_rules ≡ true) (eqb-true 6 n m) refl
        | inr m ↦ absurd (cc)
      ]
    ]

-- the plan of a leaf is one of the task
leaf_plan : (t : TaskShape) (b : Tables) (m : ℕ) (ds : Node) (plan : List Occ) → InBounds t → ((u : Sheet) × IsFreshAt (full_search t b) m ds (Some u) × HasNoFlaw t u) → IsPlanOfNode (full_search t b) m ds plan → IsPlan t plan
leaf_plan t b m ds plan bounds (u, fu, flawless) (v, fv, p) =
    let w = full_search t b in
    let fact = fresh-closed w m ds u fu in
    let tokens = (subst (λ z. IsPlanOfSheet z plan) (fresh-same w m ds v u fv fu) p).tokens in
    (leaf-plans-valid t b u plan (record { bounds = bounds; formed = fact.formed; live = fact.live; closed = closed_two t b u fact.closed; flawless = flawless }) tokens).0.of_task

pub has_plan : (t : TaskShape) (b : Tables) (most n : ℕ) (o : SearchOutcome) → InBounds t → HasOutcome (full_search t b) most n o → HasPlan t o
has_plan t b most n never bounds h = tt
has_plan t b most n (optimal m plan) bounds (inl (e, z, nil)) = subst (IsPlan t) (sym nil) (λ k d lt. absurd (omega (arith, lt)))
has_plan t b most n (optimal m plan) bounds (inr (first, e, le, (ds, (low, high, below, (fs, frontier, begun, leaf, lt)), p))) = leaf_plan t b m ds plan bounds leaf p
has_plan t b most n none_up_to bounds h = tt
has_plan t b most n (budget_spent r) bounds h = tt

-- a plan is found within the greatest makespan
pub within : (w : SearchProblem) (most n m : ℕ) (plan : List Occ) → HasOutcome w most n (optimal m plan) → m ≤ most
within w most n m plan (inl (e, z, nil)) = omega (arith, z)
within w most n m plan (inr (first, e, le, (ds, (low, high, below, rest), p))) = high
