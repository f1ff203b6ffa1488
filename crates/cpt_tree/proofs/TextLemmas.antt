-- the lines of visits
use Rattle.std.proofs.Common.{◌≡◌, zero, suc, List, [], ◌∷◌, ◌++◌, Contains, refl, subst, append_assoc, arith}
use Rattle.std.proofs.lemmas.List.{append-nil}
use Rattle.cpt_sheet.specs.declared.data.Decision.{Decision}
use Rattle.cpt_sheet.specs.declared.data.NodeLine.{NodeLine}
use Rattle.cpt_sheet.specs.declared.data.NodeLine.TheVariants.{Child}
use Rattle.cpt_sheet.specs.declared.data.Step.{Step}
use Rattle.cpt_tree.specs.declared.expansion.Expansion.{Expansion}
use Rattle.cpt_sheet.specs.declared.data.Flaw.{Flaw}
use Rattle.cpt_tree.specs.declared.expansion.Expansion.TheVariants.{Closed, Leaf, Branched}
use Rattle.cpt_tree.specs.Trees.{Node, SearchTree, Traverses, HaveNoLeaf, choices, children_of}
use Rattle.cpt_tree.proofs.TraversalLemmas.{AreAll, all-append}
use Rattle.cpt_tree.specs.Texts.{NodeRuns, child_line, node_lines, Writes}

pub child_line-push : (ds : Node) (k : Decision) → child_line (ds ++ k ∷ []) ≡ Child k ∷ []
child_line-push [] k = refl
child_line-push (d ∷ []) k = refl
child_line-push (d ∷ e ∷ ds) k = child_line-push (e ∷ ds) k

-- the lines of one visit more
pub writes-next : (T : SearchTree) (Runs : NodeRuns) (stack : List Node) (fs : List Expansion) (ls : List NodeLine) (ds : Node) (f : Expansion) (frontier : List Node) (steps : List Step) →
    Traverses T stack fs (ds ∷ frontier) → Writes Runs stack fs ls → Runs ds steps → Writes Runs stack (fs ++ f ∷ []) (ls ++ node_lines ds steps f)
writes-next T Runs stack [] ls ds f frontier steps e w r =
    subst (λ z. Writes Runs z (f ∷ []) (ls ++ node_lines ds steps f)) e (steps, [], r, first ls (node_lines ds steps f) w, refl)
  where
    first : (ls own : List NodeLine) → ls ≡ [] → ls ++ own ≡ own ++ []
    first ls own e = rw (e, append-nil own) refl
writes-next T Runs [] (g ∷ fs) ls ds f frontier steps t w r = absurd t
writes-next T Runs (es ∷ stack) (g ∷ fs) ls ds f frontier steps t w r =
    let ih = writes-next T Runs (children_of es (choices g) ++ stack) fs w.1 ds f frontier steps t.1 w.4 r in
    (w.0, w.1 ++ node_lines ds steps f, w.2, regroup ls (node_lines es w.0 g) w.1 (node_lines ds steps f) w.3, ih)
  where
    regroup : (ls own more last : List NodeLine) → ls ≡ own ++ more → ls ++ last ≡ own ++ (more ++ last)
    regroup ls own more last e = rw (e, append_assoc own more last) refl

pub all-each : (P : Node → Type 0) (ds : Node) (ks : List Decision) → AreAll P (children_of ds ks) → (d : Decision) → Contains ks d → P (ds ++ d ∷ [])
all-each P ds [] a d c = absurd (omega (arith, c.1))
all-each P ds (k ∷ ks) a d (zero, lt, e) = subst (λ z. P (ds ++ z ∷ [])) e a.0
all-each P ds (k ∷ ks) a d (suc i, lt, e) = all-each P ds ks a.1 d (i, omega arith, e)

-- What is so of each closed node by its steps, and of each branched one by its steps where it is so of its children, is
-- so of all on the stack, where what is frontier is nothing or it is so of that.
pub written-induction : (T : SearchTree) (Runs : NodeRuns) (P : Node → Type 0) →
    ((ds : Node) (steps : List Step) → T ds Closed → Runs ds steps → P ds) →
    ((ds : Node) (flaw : Flaw) (ks : List Decision) (steps : List Step) → T ds (Branched flaw ks) → Runs ds steps → ((d : Decision) → Contains ks d → P (ds ++ d ∷ [])) → P ds) →
    (stack : List Node) (fs : List Expansion) (frontier : List Node) (ls : List NodeLine) → Traverses T stack fs frontier → HaveNoLeaf fs → Writes Runs stack fs ls → AreAll P frontier → AreAll P stack
written-induction T Runs P closed branched stack [] frontier ls e l w a = subst (AreAll P) e a
written-induction T Runs P closed branched [] (f ∷ fs) frontier ls t l w a = absurd t
written-induction T Runs P closed branched (ds ∷ stack) (Closed ∷ fs) frontier ls t l w a =
    (closed ds w.0 t.0 w.2, written-induction T Runs P closed branched stack fs frontier w.1 t.1 l w.4 a)
written-induction T Runs P closed branched (ds ∷ stack) (Leaf ∷ fs) frontier ls t l w a = absurd l
written-induction T Runs P closed branched (ds ∷ stack) (Branched flaw ks ∷ fs) frontier ls t l w a =
    let ih = all-append P (children_of ds ks) stack (written-induction T Runs P closed branched (children_of ds ks ++ stack) fs frontier w.1 t.1 l w.4 a) in
    (branched ds flaw ks w.0 t.0 w.2 (all-each P ds ks ih.0), ih.1)
