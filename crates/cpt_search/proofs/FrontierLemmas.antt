-- the children that wait along the path
use Rattle.std.proofs.Common.{◌≡◌, ◌≢◌, ℕ, zero, suc, ◌+◌, ◌≤◌, inr, false, List, [], ◌∷◌, ◌++◌, length, map, take, Contains, refl, sym, ap, subst, append_assoc, arith, length-append}
use Rattle.std.proofs.lemmas.List.{append-nil, length-take-le}
use Rattle.std.proofs.Math.Seq.{take-length, take-append_seam}
use Rattle.cpt_sheet.specs.declared.data.Decision.{Decision}
use Rattle.cpt_sheet.specs.declared.data.NodeLine.{NodeLine}
use Rattle.cpt_sheet.specs.declared.data.NodeLine.TheVariants.{Child, Narrow, OpenNode}
use Rattle.cpt_tree.specs.declared.expansion.Expansion.{Expansion}
use Rattle.cpt_tree.specs.declared.expansion.Expansion.TheVariants.{Leaf}
use Rattle.cpt_search.specs.declared.stack.Pending.{Pending}
use Rattle.cpt_tree.specs.Trees.{Node, SearchTree, Traverses, choices, children_of, root, IsLeafless, IsFirstLeaf, IsReached, top}
use Rattle.cpt_tree.specs.Texts.{NodeRuns, last_line, node_lines, open_lines, Writes, IsFinishedText, IsPartialText}
use Rattle.cpt_search.specs.Frontiers.{node_of, frontier_of, stacked, AreAtMost, AreAtLeast, AreByDepth, IsTraversing, Visits}
use Rattle.cpt_tree.proofs.TraversalLemmas.{traverses-next, leafless-append, traverses-nodes, node-child, AreNodes}
use Rattle.cpt_tree.proofs.TextLemmas.{child_line-push, writes-next}

pub frontier_of-push : (ds : Node) (ws : List Pending) (w : Pending) → frontier_of ds (ws ++ w ∷ []) ≡ node_of ds w ∷ frontier_of ds ws
frontier_of-push ds [] w = refl
frontier_of-push ds (v ∷ ws) w = ap (λ z. z ++ node_of ds v ∷ []) (frontier_of-push ds ws w)

pub take-shorter : {A : Type 0} (m n : ℕ) (xs : List A) → m ≤ n → take m (take n xs) ≡ take m xs
take-shorter zero n xs le = refl
take-shorter (suc m) zero xs le = absurd (omega arith)
take-shorter (suc m) (suc n) [] le = refl
take-shorter (suc m) (suc n) (x ∷ xs) le = ap (λ z. x ∷ z) (take-shorter m n xs (omega arith))

-- where as much as is asked stands the same, the same nodes wait
pub frontier_of-same : (n : ℕ) (ds es : Node) (ws : List Pending) → AreAtMost n ws → take n ds ≡ take n es → frontier_of ds ws ≡ frontier_of es ws
frontier_of-same n ds es [] a e = refl
frontier_of-same n ds es (w ∷ ws) a e = join (frontier_of ds ws) (frontier_of es ws) (take w.depth ds) (take w.depth es) w.decision (frontier_of-same n ds es ws a.1 e) same
  where
    same : take w.depth ds ≡ take w.depth es
    same = rw (← take-shorter w.depth n ds a.0, ← take-shorter w.depth n es a.0) (ap (take w.depth) e)

    join : (p q : List Node) (a b : Node) (k : Decision) → p ≡ q → a ≡ b → p ++ (a ++ k ∷ []) ∷ [] ≡ q ++ (b ++ k ∷ []) ∷ []
    join p q a b k e f = cc

-- the children of the node that stands wait before the others, in order
pub frontier_of-stacked : (ds : Node) (ws : List Pending) (ks : List Decision) → frontier_of ds (ws ++ stacked (length ds) ks) ≡ children_of ds ks ++ frontier_of ds ws
frontier_of-stacked ds ws [] = ap (frontier_of ds) (append-nil ws)
frontier_of-stacked ds ws (k ∷ ks) = go (stacked (length ds) ks) (frontier_of-stacked ds ws ks)
  where
    w : Pending
    w = record { depth = length ds; decision = k }

    go : (hs : List Pending) → frontier_of ds (ws ++ hs) ≡ children_of ds ks ++ frontier_of ds ws → frontier_of ds (ws ++ (hs ++ record { depth = length ds; decision = k } ∷ [])) ≡ (ds ++ k ∷ []) ∷ (children_of ds ks ++ frontier_of ds ws)
    go hs e = rw (← append_assoc ws hs (record { depth = length ds; decision = k } ∷ []), frontier_of-push ds (ws ++ hs) (record { depth = length ds; decision = k }), take-length ds, e) refl

pub within-append : (n : ℕ) (xs ys : List Pending) → AreAtMost n xs → AreAtMost n ys → AreAtMost n (xs ++ ys)
within-append n [] ys a b = b
within-append n (x ∷ xs) ys a b = (a.0, within-append n xs ys a.1 b)

pub within-more : (m n : ℕ) (ws : List Pending) → m ≤ n → AreAtMost m ws → AreAtMost n ws
within-more m n [] le a = tt
within-more m n (w ∷ ws) le a = (omega arith, within-more m n ws le a.1)

pub within-stacked : (n : ℕ) (ks : List Decision) → AreAtMost n (stacked n ks)
within-stacked n [] = tt
within-stacked n (k ∷ ks) = within-append n (stacked n ks) (record { depth = n; decision = k } ∷ []) (within-stacked n ks) (omega arith, tt)

pub below-append : (n : ℕ) (xs ys : List Pending) → AreAtLeast n xs → AreAtLeast n ys → AreAtLeast n (xs ++ ys)
below-append n [] ys a b = b
below-append n (x ∷ xs) ys a b = (a.0, below-append n xs ys a.1 b)

pub below-last : (n : ℕ) (ws : List Pending) (w : Pending) → AreAtLeast n (ws ++ w ∷ []) → AreAtLeast n ws × (n ≤ w.depth)
below-last n [] w a = (tt, a.0)
below-last n (v ∷ ws) w a = let ih = below-last n ws w a.1 in ((a.0, ih.0), ih.1)

pub stair-pop : (ws : List Pending) (w : Pending) → AreByDepth (ws ++ w ∷ []) → AreByDepth ws × AreAtMost w.depth ws
stair-pop [] w s = (tt, tt)
stair-pop (v ∷ ws) w s = let ih = stair-pop ws w s.1 in let b = below-last v.depth ws w s.0 in ((b.0, ih.0), (b.1, ih.1))

pub stair-push : (ws : List Pending) (w : Pending) → AreByDepth ws → AreAtMost w.depth ws → AreByDepth (ws ++ w ∷ [])
stair-push [] w s a = (tt, tt)
stair-push (v ∷ ws) w s a = (below-append v.depth ws (w ∷ []) s.0 (a.0, tt), stair-push ws w s.1 a.1)

pub stair-stacked : (n : ℕ) (ws : List Pending) (ks : List Decision) → AreByDepth ws → AreAtMost n ws → AreByDepth (ws ++ stacked n ks)
stair-stacked n ws [] s a = subst AreByDepth (sym (append-nil ws)) s
stair-stacked n ws (k ∷ ks) s a =
    subst AreByDepth (append_assoc ws (stacked n ks) (record { depth = n; decision = k } ∷ []))
    (stair-push (ws ++ stacked n ks) (record { depth = n; decision = k }) (stair-stacked n ws ks s a) (within-append n ws (stacked n ks) a (within-stacked n ks)))

pub within-last : (n : ℕ) (ws : List Pending) (w : Pending) → AreAtMost n (ws ++ w ∷ []) → AreAtMost n ws × (w.depth ≤ n)
within-last n [] w a = (tt, a.0)
within-last n (v ∷ ws) w a = let ih = within-last n ws w a.1 in ((a.0, ih.0), ih.1)

pub length-child : (ds : Node) (w : Pending) → w.depth ≤ length ds → length (node_of ds w) ≡ w.depth + 1
length-child ds w le = omega (arith, length-append (take w.depth ds) (w.decision ∷ []), length-take-le w.depth ds le)

-- where a child that waited stands, the nodes that waited below it wait on
pub frontier_of-child : (ds : Node) (ws : List Pending) (w : Pending) → w.depth ≤ length ds → AreAtMost w.depth ws → frontier_of (node_of ds w) ws ≡ frontier_of ds ws
frontier_of-child ds ws w le a = frontier_of-same w.depth (node_of ds w) ds ws a (front (take w.depth ds) (length-take-le w.depth ds le))
  where
    front : (es : Node) → length es ≡ w.depth → take w.depth (es ++ w.decision ∷ []) ≡ es
    front es e = subst (λ z. take z (es ++ w.decision ∷ []) ≡ es) e (take-append_seam es (w.decision ∷ []))

-- after the root is visited
pub at-root : (T : SearchTree) (Runs : NodeRuns) (ds : Node) (ls : List NodeLine) (ws : List Pending) → ds ≡ [] → Visits T Runs ds [] [] false ls ws → IsTraversing T Runs 1 ds ls ws
at-root T Runs ds ls ws e v = go ds e v
  where
    go : (ds : Node) → ds ≡ [] → Visits T Runs ds [] [] false ls ws → IsTraversing T Runs 1 ds ls ws
    go (d ∷ ds) e v = absurd (cc)
    go [] e (f, h, n, (steps, r, l), a) =
        record {
          expansions = f ∷ [];
          begun = record { traversal = (h, frontier); leafless = n };
          written = (steps, [], r, lines, refl);
          count = refl;
          stair = subst AreByDepth (sym a) (stair-stacked 0 [] (choices f) tt tt);
          within = subst (AreAtMost 0) (sym a) (within-stacked 0 (choices f));
          short = omega arith;
          reached = inr ([], [], [], record { traversal = refl; leafless = tt }, refl);
        }
      where
        frontier : frontier_of [] ws ≡ children_of [] (choices f) ++ []
        frontier = rw a (frontier_of-stacked [] [] (choices f))

        lines : ls ≡ (map Narrow steps ++ last_line f ∷ []) ++ []
        lines = rw (append-nil (map Narrow steps ++ last_line f ∷ [])) l

-- the waiting child that comes next fits
pub at-fits : (T : SearchTree) (Runs : NodeRuns) (n : ℕ) (ds : Node) (ls : List NodeLine) (ws : List Pending) (w : Pending) → IsTraversing T Runs n ds ls (ws ++ w ∷ []) → (f : Expansion) × T (take w.depth ds) f × Contains (choices f) w.decision
at-fits T Runs n ds ls ws w at = node-child T (node_of ds w) (subst (AreNodes T) (frontier_of-push ds ws w) nodes).0 (take w.depth ds) w.decision refl
  where
    nodes : AreNodes T (frontier_of ds (ws ++ w ∷ []))
    nodes = traverses-nodes T root at.expansions (frontier_of ds (ws ++ w ∷ [])) at.begun.traversal (top, tt)

-- the next child is a leaf
pub at-leaf : (T : SearchTree) (Runs : NodeRuns) (n : ℕ) (ds : Node) (ls : List NodeLine) (ws : List Pending) (w : Pending) → IsTraversing T Runs n ds ls (ws ++ w ∷ []) → T (node_of ds w) Leaf → IsFirstLeaf T (suc n) (node_of ds w)
at-leaf T Runs n ds ls ws w at leaf = (at.expansions, frontier_of ds ws, subst (IsLeafless T at.expansions) (frontier_of-push ds ws w) at.begun, leaf, omega (arith, at.count))

-- the node after the visited ones is there
pub at-reached : (T : SearchTree) (Runs : NodeRuns) (n : ℕ) (ds : Node) (ls : List NodeLine) (ws : List Pending) (w : Pending) → IsTraversing T Runs n ds ls (ws ++ w ∷ []) → IsReached T (suc n)
at-reached T Runs n ds ls ws w at = inr (at.expansions, node_of ds w, frontier_of ds ws, subst (IsLeafless T at.expansions) (frontier_of-push ds ws w) at.begun, ap suc (sym at.count))

-- after the next child is visited, where its decision stands behind those of its parent
pub at-next : (T : SearchTree) (Runs : NodeRuns) (n : ℕ) (ds es : Node) (ls more : List NodeLine) (ws after : List Pending) (w : Pending) → IsTraversing T Runs n ds ls (ws ++ w ∷ []) → es ≡ node_of ds w →
    Visits T Runs es (ls ++ Child w.decision ∷ []) ws false more after → IsTraversing T Runs (suc n) es more after
at-next T Runs n ds es ls more ws after w at e (f, h, none, (steps, r, l), a) =
    let begun = subst (IsLeafless T at.expansions) (frontier_of-push ds ws w) at.begun in
    record {
      expansions = at.expansions ++ f ∷ [];
      begun = record {
        traversal = subst (Traverses T root (at.expansions ++ f ∷ [])) frontier (traverses-next T root at.expansions (node_of ds w) f (frontier_of ds ws) begun.traversal (subst (λ z. T z f) e h));
        leafless = leafless-append at.expansions (f ∷ []) begun.leafless none;
      };
      written = subst (Writes Runs root (at.expansions ++ f ∷ [])) lines (writes-next T Runs root at.expansions ls (node_of ds w) f (frontier_of ds ws) steps begun.traversal at.written (subst (λ z. Runs z steps) e r));
      count = omega (arith, at.count, length-append at.expansions (f ∷ []));
      stair = subst AreByDepth (sym a) (stair-stacked (length es) ws (choices f) popped.0 (within-more w.depth (length es) ws deeper popped.1));
      within = subst (AreAtMost (length es)) (sym a) (within-append (length es) ws (stacked (length es) (choices f)) (within-more w.depth (length es) ws deeper popped.1) (within-stacked (length es) (choices f)));
      short = omega (arith, at.short, long, last.1);
      reached = at-reached T Runs n ds ls ws w at;
    }
  where
    popped : AreByDepth ws × AreAtMost w.depth ws
    popped = stair-pop ws w at.stair

    last : AreAtMost (length ds) ws × (w.depth ≤ length ds)
    last = within-last (length ds) ws w at.within

    long : length es ≡ w.depth + 1
    long = rw e (length-child ds w last.1)

    deeper : w.depth ≤ length es
    deeper = omega (arith, long)

    frontier : children_of (node_of ds w) (choices f) ++ frontier_of ds ws ≡ frontier_of es after
    frontier = rw (a, frontier_of-stacked es ws (choices f), e, frontier_of-child ds ws w last.1 popped.1) refl

    lines : ls ++ node_lines (node_of ds w) steps f ≡ more
    lines = rw (l, child_line-push (take w.depth ds) w.decision) (sym (append_assoc ls (Child w.decision ∷ []) (map Narrow steps ++ last_line f ∷ [])))

-- nothing is frontier
pub at-end : (T : SearchTree) (Runs : NodeRuns) (n : ℕ) (ds : Node) (ls : List NodeLine) → IsTraversing T Runs n ds ls [] → IsFinishedText T Runs n ls
at-end T Runs n ds ls at = (at.expansions, at.begun, omega (arith, at.count), (ls, at.written, sym (append-nil ls)))

-- some is frontier, and is frontier open
pub at-open : (T : SearchTree) (Runs : NodeRuns) (n : ℕ) (ds : Node) (ls more : List NodeLine) (ws : List Pending) → IsTraversing T Runs n ds ls ws → ws ≢ [] → more ≡ ls ++ open_lines (frontier_of ds ws) → IsPartialText T Runs n more
at-open T Runs n ds ls more ws at some e = (at.expansions, frontier_of ds ws, at.begun, at.count, waits ds ws some, (ls, at.written, e))
  where
    waits : (ds : Node) (ws : List Pending) → ws ≢ [] → frontier_of ds ws ≢ []
    waits ds [] some e = some refl
    waits ds (w ∷ ws) some e = nonempty (frontier_of ds ws) (node_of ds w) e
      where
        nonempty : (xs : List Node) (x : Node) → xs ++ x ∷ [] ≡ [] → ⊥
        nonempty [] x e = cc
        nonempty (y ∷ ys) x e = cc

-- the lines of the nodes that wait, the last one first
pub open_lines-push : (ds : Node) (ws : List Pending) (w : Pending) → open_lines (frontier_of ds (ws ++ w ∷ [])) ≡ Child w.decision ∷ OpenNode ∷ open_lines (frontier_of ds ws)
open_lines-push ds ws w = rw (frontier_of-push ds ws w, child_line-push (take w.depth ds) w.decision) refl
