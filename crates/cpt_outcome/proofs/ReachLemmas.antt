-- that a sheet without a closure leads to a dead one, and one with a closure to that, cannot be denied: so trees refute
-- by what they are, whatever steps are written down
use Rattle.std.proofs.Common.{◌≡◌, ℕ, zero, suc, ◌≤◌, ◌<◌, ◌⊎◌, inl, inr, true, List, [], ◌∷◌, Contains, slice_index_or, refl, sym, subst, arith}
use Rattle.cpt_task.specs.declared.span.Span.TheVariants.{At}
use Rattle.cpt_task.specs.Shape.{TaskShape}
use Rattle.cpt_tables.specs.declared.tables.Tables.{Tables}
use Rattle.cpt_tables.specs.Spans.{◌≤ˢ◌, ◌<ˢ◌}
use Rattle.cpt_tables.proofs.SpanLemmas.{le_cases}
use Rattle.cpt_sheet.specs.declared.data.Token.{Token}
use Rattle.cpt_sheet.specs.declared.data.Sheet.{Sheet}
use Rattle.cpt_sheet.specs.declared.data.Step.{Step}
use Rattle.cpt_sheet.specs.declared.data.Decision.{Decision}
use Rattle.cpt_sheet.specs.declared.data.Flaw.{Flaw}
use Rattle.cpt_sheet.specs.Formed.{IsFormed}
use Rattle.cpt_sheet.specs.Live.{IsLive, IsDead, IsOpen}
use Rattle.cpt_calculus.specs.Closing.{IsClosed, Leads}
use Rattle.cpt_calculus.specs.Decisions.{applied}
use Rattle.cpt_calculus.specs.Flaws.{children}
use Rattle.cpt_calculus.specs.Root.{root_of}
use Rattle.cpt_calculus.specs.Rules.{IsLegal, is_of, narrowed}
use Rattle.cpt_soundness.specs.Tree.{IsClosedTree}
use Rattle.cpt_soundness.specs.Tree.IsClosedTree.{close, branch}
use Rattle.cpt_soundness.proofs.FitLemmas.{children_fit}
use Rattle.cpt_calculus.proofs.Keeps.{step_formed}
use Rattle.cpt_soundness.proofs.TreeLemmas.{steps_close, tree_refutes}
use Rattle.cpt_steps.specs.Room.{room}
use Rattle.cpt_steps.proofs.RoomLemmas.{steps_lessen}
use Rattle.cpt_fresh.specs.Fresh.{IsBeginning}
use Rattle.cpt_fresh.specs.Fresh.IsBeginning.{here, after}
use Rattle.cpt_fresh.proofs.FreshLemmas.{beginning_formed, reaches_fresh}
use Rattle.cpt_tree.specs.declared.expansion.Expansion.TheVariants.{Closed, Leaf, Branched}
use Rattle.cpt_tree.specs.declared.expansion.Expansion.{Expansion}
use Rattle.cpt_tree.specs.Trees.{Node, HaveNoLeaf, choices, children_of, root}
use Rattle.cpt_tree.proofs.TraversalLemmas.{AreAll, leafless-induction}
use Rattle.cpt_tree.proofs.TextLemmas.{all-each}
use Rattle.cpt_outcome.specs.Nodes.{SearchProblem, search_tree}
use Rattle.cpt_outcome.specs.Refuting.{IsSound, ExhaustedTreesRefute}
use Rattle.cpt_outcome.proofs.NodeLemmas.{fresh-same, fresh-dead, fresh-closed}
use Rattle.cpt_outcome.proofs.LeafLemmas.{index-same}

-- where legal steps end: at a dead sheet, or at a live and closed one
data Settles (rules : List ℕ) (t : TaskShape) (b : Tables) (s : Sheet) : Type 0 where
  dies : (u : Sheet) (steps : List Step) → Leads rules t b s steps u → IsDead u → Settles rules t b s
  closes : (u : Sheet) (steps : List Step) → Leads rules t b s steps u → IsLive u → IsClosed rules t b u → Settles rules t b s

-- one legal step before
settles-step : (rules : List ℕ) (t : TaskShape) (b : Tables) (s : Sheet) (step : Step) → is_of rules step ≡ true → IsLegal t b s step → Settles rules t b (narrowed s step) → Settles rules t b s
settles-step rules t b s step e l (dies u steps leads dead) = dies u (step ∷ steps) (e, l, leads) dead
settles-step rules t b s step e l (closes u steps leads live closed) = closes u (step ∷ steps) (e, l, leads) live closed

-- a sheet that is not dead is live
live-or-dead : (s : Sheet) → (IsDead s → ⊥) → IsLive s
live-or-dead s refute i d lt = (open-there (le_cases z.span.lo (At z.span.hi)), λ j e lj empty. refute (z, there, inr (slice_index_or z.lists j e, (j, lj, index-same z.lists j (slice_index_or z.lists j e) e lj), empty)))
  where
    z : Token
    z = slice_index_or s.tokens i d

    there : Contains s.tokens (slice_index_or s.tokens i d)
    there = (i, lt, index-same s.tokens i (slice_index_or s.tokens i d) d lt)

    open-there : (z.span.lo ≤ˢ At z.span.hi) ⊎ (At z.span.hi <ˢ z.span.lo) → IsOpen z.span
    open-there (inl le) = le
    open-there (inr lt) = absurd (refute (z, there, inl lt))

-- a formed sheet settles: it cannot be denied
settles : (rules : List ℕ) (t : TaskShape) (b : Tables) (n : ℕ) (s : Sheet) → IsFormed t s → room s < n → (Settles rules t b s → ⊥) → ⊥
settles rules t b zero s formed lt refute = absurd (omega arith)
settles rules t b (suc n) s formed lt refute =
    refute (closes s [] refl (live-or-dead s (λ dead. refute (dies s [] refl dead))) (λ step e l.
    settles rules t b n (narrowed s step) (step_formed t b s step formed l) (let less = steps_lessen t b s step formed l in omega arith) (λ k. refute (settles-step rules t b s step e l k))))

-- a closed tree stands over the sheet at which the node's steps begin: it cannot be denied
IsDoomed : SearchProblem → ℕ → Node → Type 0
IsDoomed w b ds = (s : Sheet) → IsBeginning w.rules w.task w.tables b ds s → (IsClosedTree w.task w.tables s → ⊥) → ⊥

module _ (w : SearchProblem) (b : ℕ) (ok : IsSound w) (small : b ≤ 1000000) where
  begins-formed : (ds : Node) (s : Sheet) → IsBeginning w.rules w.task w.tables b ds s → IsFormed w.task s
  begins-formed ds s at = beginning_formed w.rules w.task w.tables b ds s ok.admissible.bounds ok.fits small at

  -- the steps of a node settle
  node-settles : (ds : Node) (s : Sheet) → IsBeginning w.rules w.task w.tables b ds s → (Settles w.rules w.task w.tables s → ⊥) → ⊥
  node-settles ds s at refute = settles w.rules w.task w.tables (suc (room s)) s (begins-formed ds s at) (omega arith) refute

  doomed-closed : (ds : Node) → search_tree w b ds Closed → IsDoomed w b ds
  unfolding IsDoomed
  doomed-closed ds h s at refute = node-settles ds s at go
    where
      go : Settles w.rules w.task w.tables s → ⊥
      go (dies u steps leads dead) = refute (steps_close w.rules w.task w.tables s steps u leads (close u dead))
      go (closes u steps leads live closed) = fresh-dead w b ds u ((reaches_fresh w.rules w.task w.tables b ds s u steps ok.admissible.bounds ok.fits small at leads).closed live closed) h

  -- closed trees over the sheets after all decisions of a list
  all-doomed : (u : Sheet) (ks : List Decision) → ((d : Decision) → Contains ks d → (IsClosedTree w.task w.tables (applied w.task u d) → ⊥) → ⊥) →
      (((d : Decision) → Contains ks d → IsClosedTree w.task w.tables (applied w.task u d)) → ⊥) → ⊥
  all-doomed u [] each refute = refute (λ d c. absurd (omega (arith, c.1)))
  all-doomed u (k ∷ ks) each refute =
      each k (0, omega arith, refl) (λ one. all-doomed u ks (λ d c. each d (suc c.0, omega (arith, c.1), c.2)) (λ rest. refute (λ d c. pick d c one rest)))
    where
      pick : (d : Decision) → Contains (k ∷ ks) d → IsClosedTree w.task w.tables (applied w.task u k) → ((e : Decision) → Contains ks e → IsClosedTree w.task w.tables (applied w.task u e)) → IsClosedTree w.task w.tables (applied w.task u d)
      pick d (zero, lt, e) one rest = subst (λ z. IsClosedTree w.task w.tables (applied w.task u z)) e one
      pick d (suc i, lt, e) one rest = rest d (i, omega arith, e)

  branched-doomed : (ds : Node) (flaw : Flaw) (ks : List Decision) → search_tree w b ds (Branched flaw ks) → AreAll (IsDoomed w b) (children_of ds ks) → IsDoomed w b ds
  unfolding IsDoomed
  branched-doomed ds flaw ks (v, f, chosen, same) all s at refute = node-settles ds s at go
    where
      child : (d : Decision) → Contains (children v flaw) d → (IsClosedTree w.task w.tables (applied w.task v d) → ⊥) → ⊥
      child d c =
          all-each (IsDoomed w b) ds ks all d (subst (λ x. Contains x d) (sym same) c) (applied w.task v d) (after ds d v refl f (children_fit w.task v flaw (fresh-closed w b ds v f).formed chosen.stands d c) refl)

      over : (IsClosedTree w.task w.tables v → ⊥) → ⊥
      over none = all-doomed v (children v flaw) child (λ each. none (branch v flaw chosen.stands each))

      go : Settles w.rules w.task w.tables s → ⊥
      go (dies u steps leads dead) = refute (steps_close w.rules w.task w.tables s steps u leads (close u dead))
      go (closes u steps leads live closed) =
          let fresh = (reaches_fresh w.rules w.task w.tables b ds s u steps ok.admissible.bounds ok.fits small at leads).closed live closed in
          over (λ tree. refute (steps_close w.rules w.task w.tables s steps u leads (subst (λ x. IsClosedTree w.task w.tables x) (fresh-same w b ds v u f fresh) tree)))

  doomed-branched : (ds : Node) (f : Expansion) → search_tree w b ds f → HaveNoLeaf (f ∷ []) → AreAll (IsDoomed w b) (children_of ds (choices f)) → IsDoomed w b ds
  doomed-branched ds Closed h n all = doomed-closed ds h
  doomed-branched ds Leaf h n all = absurd n
  doomed-branched ds (Branched flaw ks) h n all = branched-doomed ds flaw ks h all

pub exhausted-refuted : ExhaustedTreesRefute
unfolding IsDoomed
exhausted-refuted w b n ok small (fs, begun, few) plan valid short =
    let all = leafless-induction (search_tree w b) (IsDoomed w b) (doomed-closed w b ok small) (doomed-branched w b ok small) root fs [] begun.traversal begun.leafless tt in
    all.0 (root_of w.task w.tables b) (here refl refl) (λ tree. tree_refutes w.task w.tables b ok.sets ok.admissible ok.fits small tree plan valid short)
