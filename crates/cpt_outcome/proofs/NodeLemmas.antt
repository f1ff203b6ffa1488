-- how nodes expand, and that trees without a leaf refute their bounds
use Rattle.std.proofs.Common.{◌≡◌, ℕ, ◌≤◌, ◌<◌, inl, inr, List, [], ◌∷◌, ◌++◌, Contains, Option, Some, None, refl, sym, ◌∙◌, subst, arith}
use Rattle.cpt_task.specs.Optimal.{IsRefuted}
use Rattle.cpt_task.specs.Shape.{TaskShape}
use Rattle.cpt_task.specs.Timeline.{makespan}
use Rattle.cpt_task.specs.declared.span.Span.TheVariants.{At}
use Rattle.cpt_tables.specs.Shapes.{set_span_of}
use Rattle.cpt_tables.specs.Spans.{◌≤ˢ◌}
use Rattle.cpt_sheet.specs.declared.data.Sheet.{Sheet}
use Rattle.cpt_sheet.specs.declared.data.Step.{Step}
use Rattle.cpt_sheet.specs.declared.data.Decision.{Decision}
use Rattle.cpt_sheet.specs.declared.data.Decision.TheVariants.{Join, Bring, Before}
use Rattle.cpt_sheet.specs.declared.data.Flaw.{Flaw}
use Rattle.cpt_sheet.specs.Live.{IsDead}
use Rattle.cpt_calculus.specs.Closing.{ClosesTo, IsFresh}
use Rattle.cpt_calculus.specs.Closing.IsFresh.{at_root, decided}
use Rattle.cpt_calculus.specs.Decisions.{Fits, applied}
use Rattle.cpt_calculus.specs.Flaws.{IsFlaw, IsFirstFlaw, children}
use Rattle.cpt_calculus.specs.Root.{root_of}
use Rattle.cpt_soundness.specs.Acting.{IsAdmissible}
use Rattle.cpt_soundness.specs.Tree.{IsClosedTree}
use Rattle.cpt_soundness.specs.Tree.IsClosedTree.{close, branch}
use Rattle.cpt_soundness.proofs.FitLemmas.{children_fit}
use Rattle.cpt_soundness.proofs.PlanLemmas.{goal_bounds}
use Rattle.cpt_soundness.proofs.TreeLemmas.{steps_close, tree_refutes}
use Rattle.cpt_steps.proofs.RunLemmas.{tight_runs_lead}
use Rattle.cpt_fresh.specs.Fresh.{IsBeginning}
use Rattle.cpt_fresh.specs.Fresh.IsBeginning.{here, after}
use Rattle.cpt_fresh.proofs.FlawLemmas.{one_first_flaw}
use Rattle.cpt_fresh.proofs.FreshLemmas.{one_fresh, one_beginning}
use Rattle.cpt_fresh.proofs.LastLemmas.{tokens_by_decisions}
use Rattle.cpt_tree.specs.declared.expansion.Expansion.{Expansion}
use Rattle.cpt_tree.specs.declared.expansion.Expansion.TheVariants.{Closed, Leaf, Branched}
use Rattle.cpt_tree.specs.Trees.{Node, choices, root, top}
use Rattle.cpt_tree.specs.Counts.{visited_nodes}
use Rattle.cpt_tree.proofs.CountLemmas.{node-visited, visited-node, nodes-listed}
use Rattle.cpt_tree.proofs.TextLemmas.{written-induction}
use Rattle.cpt_tree.proofs.TraversalLemmas.{one-traversal}
use Rattle.cpt_outcome.specs.Nodes.{SearchProblem, IsFreshAt, IsNodeEnd, search_tree, node_runs, NodesVisited, OneExpansion, TraversalsAgree, IsClosedSheet, FreshIsClosed, ChoicesFit}
use Rattle.cpt_outcome.specs.Refuting.{FinishedTextsRefute, TextsBelowRefute}

pub fresh-same : (w : SearchProblem) (b : ℕ) (ds : Node) (u v : Sheet) → IsFreshAt w b ds (Some u) → IsFreshAt w b ds (Some v) → u ≡ v
fresh-same w b ds u v h k = let e = one_fresh w.rules w.task w.tables b ds (Some u) (Some v) h k in cc

pub fresh-dead : (w : SearchProblem) (b : ℕ) (ds : Node) (u : Sheet) → IsFreshAt w b ds (Some u) → IsFreshAt w b ds None → ⊥
fresh-dead w b ds u h k = let e = one_fresh w.rules w.task w.tables b ds (Some u) None h k in cc

-- a sheet after a decision keeps the bound
applied-bound : (t : TaskShape) (s : Sheet) (d : Decision) → (applied t s d).bound ≡ s.bound
applied-bound t s (Join x p y) = refl
applied-bound t s (Bring x p a) = refl
applied-bound t s (Before x y) = refl

closed-sheet : (w : SearchProblem) (b : ℕ) (ds : Node) (r : Option Sheet) (u : Sheet) → r ≡ Some u → IsFresh w.rules w.task w.tables b ds r → IsClosedSheet w b u
closed-sheet w b ds r u e (at_root q c) = closure q e c
  where
    closure : (q : Option Sheet) → q ≡ Some u → ClosesTo w.rules w.task w.tables (root_of w.task w.tables b) q → IsClosedSheet w b u
    closure None e c = absurd (cc)
    closure (Some v) e c = let same : v ≡ u = cc in subst (IsClosedSheet w b) same (record { bound = c.end.below.bound; formed = c.end.formed; live = c.end.live; closed = c.end.closed })
closed-sheet w b ds r u e (decided es s d q f fits c) = closure q e c (closed-sheet w b es (Some s) s refl f)
  where
    closure : (q : Option Sheet) → q ≡ Some u → ClosesTo w.rules w.task w.tables (applied w.task s d) q → IsClosedSheet w b s → IsClosedSheet w b u
    closure None e c k = absurd (cc)
    closure (Some v) e c k = let same : v ≡ u = cc in subst (IsClosedSheet w b) same (record { bound = c.end.below.bound ∙ (applied-bound w.task s d ∙ k.bound); formed = c.end.formed; live = c.end.live; closed = c.end.closed })

pub fresh-closed : FreshIsClosed
fresh-closed w b ds u f = closed-sheet w b ds (Some u) u refl f

-- a decision that leads to a child is one of the children of a first flaw, and fits
pub choice-fits : (w : SearchProblem) (b : ℕ) (ds : Node) (f : Expansion) (k : Decision) → search_tree w b ds f → Contains (choices f) k → (s : Sheet) × IsFreshAt w b ds (Some s) × Fits s k × ((flaw : Flaw) × IsFlaw w.task s flaw × Contains (children s flaw) k)
choice-fits w b ds Closed k h c = absurd (omega (arith, c.1))
choice-fits w b ds Leaf k h c = absurd (omega (arith, c.1))
choice-fits w b ds (Branched flaw ks) k (s, fresh, chosen, same) c =
    let there : Contains (children s flaw) k = subst (λ z. Contains z k) same c in
    (s, fresh, children_fit w.task s flaw (fresh-closed w b ds s fresh).formed chosen.stands k there, (flaw, chosen.stands, there))

pub choices-fit : ChoicesFit
choices-fit w b ds f d h c few = let a = choice-fits w b ds f d h c in (a.0, a.1, a.2, omega (arith, tokens_by_decisions w.rules w.task w.tables b ds a.0 a.1, few))

flaw-same : (t : TaskShape) (u v : Sheet) (f : Flaw) → u ≡ v → IsFlaw t u f → IsFlaw t v f
flaw-same t u v f e h = subst (λ z. IsFlaw t z f) e h

pub one-expansion : OneExpansion
one-expansion w b ds Closed Closed h k = refl
one-expansion w b ds Closed Leaf h k = absurd (fresh-dead w b ds k.0 k.1 h)
one-expansion w b ds Closed (Branched g ks) h k = absurd (fresh-dead w b ds k.0 k.1 h)
one-expansion w b ds Leaf Closed h k = absurd (fresh-dead w b ds h.0 h.1 k)
one-expansion w b ds Leaf Leaf h k = refl
one-expansion w b ds Leaf (Branched g ks) h k = absurd (h.2 g (flaw-same w.task k.0 h.0 g (fresh-same w b ds k.0 h.0 k.1 h.1) k.2.stands))
one-expansion w b ds (Branched f js) Closed h k = absurd (fresh-dead w b ds h.0 h.1 k)
one-expansion w b ds (Branched f js) Leaf h k = absurd (k.2 f (flaw-same w.task h.0 k.0 f (fresh-same w b ds h.0 k.0 h.1 k.1) h.2.stands))
one-expansion w b ds (Branched f js) (Branched g ks) (u, fu, ff, ju) (v, fv, fg, kv) = go u v f g js ks (fresh-same w b ds u v fu fv) ff fg ju kv
  where
    go : (u v : Sheet) (f g : Flaw) (js ks : List Decision) → u ≡ v → IsFirstFlaw w.task u f → IsFirstFlaw w.task v g → js ≡ children u f → ks ≡ children v g → Branched f js ≡ Branched g ks
    go u v f g js ks e ff fg ju kv =
        let same : f ≡ g = one_first_flaw w.task v f g (subst (λ z. IsFirstFlaw w.task z f) e ff) fg in
        cc

pub traversals-agree : TraversalsAgree
traversals-agree w b stack fs gs frontier rest t s le = one-traversal (search_tree w b) (one-expansion w b) stack fs gs frontier rest t s le

pub nodes-visited : NodesVisited
nodes-visited w b fs p t = (
  (λ n. node-visited (search_tree w b) (one-expansion w b) fs t p n),
  (λ v. nodes-listed (search_tree w b) (visited_nodes root fs) p (visited-node (search_tree w b) root fs [] t (top, tt)) v),
)

-- a closed tree stands over the sheet at which the node's steps begin
abbrev pub IsRefutedAt : SearchProblem → ℕ → Node → Type 0
IsRefutedAt w b ds = (s : Sheet) → IsBeginning w.rules w.task w.tables b ds s → IsClosedTree w.task w.tables s

closed-refuted : (w : SearchProblem) (b : ℕ) (ds : Node) (steps : List Step) → search_tree w b ds Closed → node_runs w b ds steps → IsRefutedAt w b ds
closed-refuted w b ds steps h k s at =
    let dead : IsDead k.to = go k.fresh k.is_fresh k.ends in
    subst (λ x. IsClosedTree w.task w.tables x) (one_beginning w.rules w.task w.tables b ds k.from s k.starts at)
    (steps_close w.rules w.task w.tables k.from steps k.to (tight_runs_lead w.rules w.task w.tables k.from k.to steps k.leads) (close k.to dead))
  where
    go : (r : Option Sheet) → IsFreshAt w b ds r → IsNodeEnd r k.to → IsDead k.to
    go None f e = e
    go (Some v) f e = absurd (fresh-dead w b ds v f h)

branched-refuted : (w : SearchProblem) (b : ℕ) (ds : Node) (flaw : Flaw) (ks : List Decision) (steps : List Step) → search_tree w b ds (Branched flaw ks) → node_runs w b ds steps →
    ((d : Decision) → Contains ks d → IsRefutedAt w b (ds ++ d ∷ [])) → IsRefutedAt w b ds
branched-refuted w b ds flaw ks steps (u, f, chosen, same) k all s at =
    subst (λ x. IsClosedTree w.task w.tables x) (one_beginning w.rules w.task w.tables b ds k.from s k.starts at)
    (steps_close w.rules w.task w.tables k.from steps k.to (tight_runs_lead w.rules w.task w.tables k.from k.to steps k.leads) (subst (λ x. IsClosedTree w.task w.tables x) (sym (go k.fresh k.is_fresh k.ends)) (branch u flaw chosen.stands each)))
  where
    go : (r : Option Sheet) → IsFreshAt w b ds r → IsNodeEnd r k.to → k.to ≡ u
    go None g e = absurd (fresh-dead w b ds u f g)
    go (Some v) g e = e ∙ fresh-same w b ds v u g f

    each : (d : Decision) → Contains (children u flaw) d → IsClosedTree w.task w.tables (applied w.task u d)
    each d c = all d (subst (λ x. Contains x d) (sym same) c) (applied w.task u d) (after ds d u refl f (children_fit w.task u flaw (fresh-closed w b ds u f).formed chosen.stands d c) refl)

pub finished-texts-refute : FinishedTextsRefute
finished-texts-refute w b n ls ok small (fs, begun, few, (done, written, e)) =
    let refuted = written-induction (search_tree w b) (node_runs w b) (IsRefutedAt w b) (closed-refuted w b) (branched-refuted w b) root fs [] done begun.traversal begun.leafless written tt in
    tree_refutes w.task w.tables b ok.sets ok.admissible ok.fits small (refuted.0 (root_of w.task w.tables b) (here refl refl))

-- below the first moment of the goal there is no plan
pub early-refuted : (w : SearchProblem) (first c : ℕ) → IsAdmissible w.task w.tables → set_span_of w.tables.pairs w.task.goal ≡ At first → c < first → IsRefuted w.task c
early-refuted w first c ok e lt plan valid short = low (goal_bounds w.task w.tables plan ok valid)
  where
    low : set_span_of w.tables.pairs w.task.goal ≤ˢ At (makespan w.task plan) → ⊥
    low h = let k : first ≤ makespan w.task plan = subst (λ z. z ≤ˢ At (makespan w.task plan)) e h in omega arith

pub texts-below-refute : TextsBelowRefute
texts-below-refute w n first b c ls ok e small (inl (same, alone)) lt = early-refuted w first c ok.admissible e (omega (arith, same))
texts-below-refute w n first b c ls ok e small (inr (d, same, le, text)) lt = λ plan valid short. finished-texts-refute w d n ls ok (omega (arith, same)) text plan valid (omega (arith, same))
