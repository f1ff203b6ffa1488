-- an engine stands at a node of the search tree
use Rattle.std.proofs.Common.{◌≡◌, ℕ, ◌<◌, List, length, All, Contains, Some, None, ap, refl, sym, subst, ◌∙◌}
use Rattle.cpt_task.specs.Shape.{TaskShape, InBounds}
use Rattle.cpt_tables.specs.declared.tables.Tables.{Tables}
use Rattle.cpt_sheet.specs.declared.data.Sheet.{Sheet}
use Rattle.cpt_sheet.specs.declared.data.Step.{Step}
use Rattle.cpt_sheet.specs.Gaps.{FitsTask}
use Rattle.cpt_sheet.specs.declared.data.Decision.{Decision}
use Rattle.cpt_calculus.specs.Decisions.{Fits}
use Rattle.cpt_calculus.specs.Flaws.{HasNoFlaw}
use Rattle.cpt_calculus.specs.Rules.{all_rules}
use Rattle.cpt_fresh.proofs.FlawLemmas.{closed_for_all}
use Rattle.cpt_fresh.specs.Fresh.{IsBeginning as IsStart}
use Rattle.cpt_fresh.specs.Fresh.IsBeginning.{here as at_root, after as behind}
use Rattle.cpt_engine.specs.declared.state.State.{State}
use Rattle.cpt_engine.specs.declared.state.State.TheVariants.{Alive, Dead}
use Rattle.cpt_engine.specs.Engines.{IsBeginning, IsReached}
use Rattle.cpt_engine.specs.Engines.IsBeginning.{here, after}
use Rattle.cpt_tree.specs.declared.expansion.Expansion.{Expansion}
use Rattle.cpt_tree.specs.declared.expansion.Expansion.TheVariants.{Closed, Leaf, Branched}
use Rattle.cpt_tree.specs.Trees.{choices}
use Rattle.cpt_outcome.specs.Nodes.{SearchProblem, IsClosedSheet, IsFreshAt, node_runs, search_tree}
use Rattle.cpt_outcome.specs.Leaves.{IsPlanOfSheet, IsSolved}
use Rattle.cpt_outcome.specs.Outcomes.{IsPlanOfNode}
use Rattle.cpt_task.specs.declared.plan.Occ.{Occ}
use Rattle.cpt_search.specs.Expanding.{ExpandsAs}
use Rattle.cpt_outcome.proofs.NodeLemmas.{choices-fit, fresh-closed, fresh-dead, fresh-same}

-- where steps begin
begins : (rules : List ℕ) (t : TaskShape) (b : Tables) (bound : ℕ) (ds : List Decision) (s : Sheet) → IsBeginning rules t b bound ds s → IsStart rules t b bound ds s
begins rules t b bound ds s (here e f) = at_root e f
begins rules t b bound ds s (after es d u e fresh fits f) = behind es d u e fresh fits f

-- the steps of the engine are a run of its node
pub reached-run : (state : State) (rules : List ℕ) (t : TaskShape) (b : Tables) (bound : ℕ) (ds : List Decision) (steps : List Step) (u : Sheet) → IsReached state rules t b bound ds steps u →
    node_runs (record { task = t; tables = b; rules = rules }) bound ds steps
reached-run Alive rules t b bound ds steps u r =
    record { from = r.from; to = u; fresh = Some u; starts = begins rules t b bound ds r.from r.begins; leads = r.leads; is_fresh = r.outcome.1; ends = refl }
reached-run Dead rules t b bound ds steps u r =
    record { from = r.from; to = u; fresh = None; starts = begins rules t b bound ds r.from r.begins; leads = r.leads; is_fresh = r.outcome.1; ends = r.outcome.0 }

-- an engine that can decide: it is alive, the decision fits, and there are few tokens
pub record CanDecide (state : State) (u : Sheet) (d : Decision) : Type 0 where
  pub alive : state ≡ Alive
  pub fits : Fits u d
  pub few : length u.tokens < 4200000000

pub can-decide : (state : State) (rules : List ℕ) (t : TaskShape) (b : Tables) (bound : ℕ) (ds : List Decision) (steps : List Step) (u : Sheet) (d : Decision) → IsReached state rules t b bound ds steps u → length ds < 4000000000 →
    ((f : Expansion) × search_tree (record { task = t; tables = b; rules = rules }) bound ds f × Contains (choices f) d) → CanDecide state u d
can-decide state rules t b bound ds steps u d r short (f, tree, there) = go state r (choices-fit w bound ds f d tree there short)
  where
    w : SearchProblem
    w = record { task = t; tables = b; rules = rules }

    go : (state : State) → IsReached state rules t b bound ds steps u → ((s : Sheet) × IsFreshAt w bound ds (Some s) × Fits s d × (length s.tokens < 4200000000)) → CanDecide state u d
    go Alive r (s, fresh, fits, few) =
        let e : s ≡ u = fresh-same w bound ds s u fresh r.outcome.1 in
        record { alive = refl; fits = subst (λ z. Fits z d) e fits; few = subst (λ z. length z.tokens < 4200000000) e few }
    go Dead r (s, fresh, fits, few) = absurd (fresh-dead w bound ds s fresh r.outcome.1)

-- the sheet of an engine that stands at a leaf is live and fresh, and has no flaw
pub record IsAtLeaf (rules : List ℕ) (t : TaskShape) (b : Tables) (bound : ℕ) (ds : List Decision) (u : Sheet) : Type 0 where
  pub fresh : IsFreshAt (record { task = t; tables = b; rules = rules }) bound ds (Some u)
  pub flawless : HasNoFlaw t u

pub at-leaf : (state : State) (rules : List ℕ) (t : TaskShape) (b : Tables) (bound : ℕ) (ds : List Decision) (steps : List Step) (u : Sheet) → IsReached state rules t b bound ds steps u →
    search_tree (record { task = t; tables = b; rules = rules }) bound ds Leaf → IsAtLeaf rules t b bound ds u
at-leaf Alive rules t b bound ds steps u r (v, fresh, flawless) =
    record { fresh = r.outcome.1; flawless = subst (HasNoFlaw t) (fresh-same (record { task = t; tables = b; rules = rules }) bound ds v u fresh r.outcome.1) flawless }
at-leaf Dead rules t b bound ds steps u r (v, fresh, flawless) = absurd (fresh-dead (record { task = t; tables = b; rules = rules }) bound ds v fresh r.outcome.1)

-- rules 1 and 6 are among all rules
pub all-solved : (t : TaskShape) (b : Tables) (bound : ℕ) (ds : List Decision) (u : Sheet) → InBounds t → IsAtLeaf all_rules t b bound ds u → IsSolved t b u
all-solved t b bound ds u ok h =
    let fact : IsClosedSheet (record { task = t; tables = b; rules = all_rules }) bound u = fresh-closed (record { task = t; tables = b; rules = all_rules }) bound ds u h.fresh in
    record { bounds = ok; formed = fact.formed; live = fact.live; closed = λ step e legal. closed_for_all t b u step fact.closed legal; flawless = h.flawless }

-- the same of a store that has the engine's sheet, over the engine's task and tables
pub store-solved : (state : State) (rules : List ℕ) (t : TaskShape) (b : Tables) (bound : ℕ) (ds : List Decision) (steps : List Step) (u : Sheet) (s : TaskShape) (a : Tables) (v : Sheet) → IsReached state rules t b bound ds steps u →
    search_tree (record { task = t; tables = b; rules = rules }) bound ds Leaf → rules ≡ all_rules → InBounds s → s ≡ t → a ≡ b → v ≡ u → IsSolved s a v
store-solved state rules t b bound ds steps u s a v r leaf er ok et eb ev =
    subst (λ z. IsSolved z a v) (sym et)
    (subst (λ z. IsSolved t z v) (sym eb)
    (subst (λ z. IsSolved t b z) (sym ev) (all-solved t b bound ds u (subst (λ z. InBounds z) et ok) (subst (λ z. IsAtLeaf z t b bound ds u) er (at-leaf state rules t b bound ds steps u r leaf)))))

-- the plan of that store is the plan of the node
pub store-plan : (state : State) (rules : List ℕ) (t : TaskShape) (b : Tables) (bound : ℕ) (ds : List Decision) (steps : List Step) (u v : Sheet) (plan whole : List Occ) → IsReached state rules t b bound ds steps u →
    search_tree (record { task = t; tables = b; rules = rules }) bound ds Leaf → v ≡ u → IsPlanOfSheet v plan → whole ≡ plan → IsPlanOfNode (record { task = t; tables = b; rules = rules }) bound ds whole
store-plan state rules t b bound ds steps u v plan whole r leaf ev is same =
    (u, (at-leaf state rules t b bound ds steps u r leaf).fresh, subst (λ z. IsPlanOfSheet u z) (sym same) (subst (λ z. IsPlanOfSheet z plan) ev is))

-- the atoms of the goal are atoms of the pair table
pub goal-within : (t s : TaskShape) (b a : Tables) (ps : List ℕ) → InBounds s → FitsTask t b → s ≡ t → a ≡ b → ps ≡ s.goal → All (λ q. q < a.pairs.atoms) ps
goal-within t s b a ps ok fits et eb ep =
    let size : length s.atoms ≡ a.pairs.atoms = ap (λ (z : TaskShape). length z.atoms) et ∙ (sym fits.pairs.size ∙ ap (λ (z : Tables). z.pairs.atoms) (sym eb)) in
    subst (λ z. All (λ q. q < a.pairs.atoms) z) (sym ep) (subst (λ n. All (λ q. q < n) s.goal) size ok.goal)

-- how the node of an engine expands
pub dead-closed : (state : State) (rules : List ℕ) (t : TaskShape) (b : Tables) (bound : ℕ) (ds : List Decision) (steps : List Step) (u : Sheet) → state ≡ Dead → IsReached state rules t b bound ds steps u →
    search_tree (record { task = t; tables = b; rules = rules }) bound ds Closed
dead-closed Alive rules t b bound ds steps u e r = absurd (cc)
dead-closed Dead rules t b bound ds steps u e r = r.outcome.1

pub alive-expands : (state : State) (rules : List ℕ) (t : TaskShape) (b : Tables) (bound : ℕ) (ds : List Decision) (steps : List Step) (u : Sheet) (f : Expansion) → state ≡ Alive → IsReached state rules t b bound ds steps u → ExpandsAs t u f →
    search_tree (record { task = t; tables = b; rules = rules }) bound ds f
alive-expands Dead rules t b bound ds steps u f e r h = absurd (cc)
alive-expands Alive rules t b bound ds steps u Closed e r h = absurd h
alive-expands Alive rules t b bound ds steps u Leaf e r h = (u, r.outcome.1, h)
alive-expands Alive rules t b bound ds steps u (Branched flaw ks) e r h = (u, r.outcome.1, h.0, h.1)
