-- a advance of a walk, in a space
use Rattle.std.proofs.Common.{◌==◌, ◌≡◌, ◌≢◌, ℕ, suc, ◌+◌, ◌≤◌, ◌<◌, inr, Bool, true, false, List, [], ◌∷◌, ◌++◌, length, take, Contains, refl, sym, subst, append_assoc, arith, add-one}
use Rattle.cpt_sheet.specs.declared.data.NodeLine.{NodeLine}
use Rattle.cpt_sheet.specs.declared.data.NodeLine.TheVariants.{Child, OpenNode}
use Rattle.cpt_sheet.specs.declared.data.Step.{Step}
use Rattle.cpt_tree.specs.declared.expansion.Expansion.{Expansion}
use Rattle.cpt_tree.specs.declared.expansion.Expansion.TheVariants.{Leaf}
use Rattle.cpt_search.specs.declared.stack.Pending.{Pending}
use Rattle.cpt_tree.specs.Trees.{Node, SearchTree, choices, IsFirstLeaf}
use Rattle.cpt_tree.specs.Texts.{NodeRuns, open_lines, IsPartialText}
use Rattle.cpt_search.specs.Frontiers.{node_of, frontier_of, IsTraversing, Visits}
use Rattle.cpt_search.specs.Traversals.{Advances, IsWithinNodes}
use Rattle.cpt_search.proofs.FrontierLemmas.{at-root, at-fits, at-next, at-leaf, at-reached, at-open, within-last, open_lines-push}

-- one open child more is written
pub open-step : (ls mid more base : List NodeLine) (ds : Node) (ws rest : List Pending) (w : Pending) → ws ≡ rest ++ w ∷ [] → mid ≡ ls ++ Child w.decision ∷ [] → more ≡ mid ++ OpenNode ∷ [] →
    ls ++ open_lines (frontier_of ds ws) ≡ base → more ++ open_lines (frontier_of ds rest) ≡ base
open-step ls mid more base ds ws rest w e f h k = rw (h, f) (regroup ls (Child w.decision) OpenNode (open_lines (frontier_of ds rest)) base (subst (λ z. ls ++ z ≡ base) (open_lines-push ds rest w) (subst (λ z. ls ++ open_lines (frontier_of ds z) ≡ base) e k)))
  where
    regroup : (ls : List NodeLine) (a b : NodeLine) (o base : List NodeLine) → ls ++ (a ∷ b ∷ o) ≡ base → ((ls ++ a ∷ []) ++ b ∷ []) ++ o ≡ base
    regroup ls a b o base e = simp append_assoc e

pub advance-depth : {W : Type 0} (has : W → ℕ → Node → Expansion → Type 0) (runs : W → ℕ → Node → List Step → Type 0) (w : W) (b n : ℕ) (ds : Node) (ls : List NodeLine) (ws : List Pending) (next : Pending) →
    IsTraversing (has w b) (runs w b) n ds ls (ws ++ next ∷ []) → next.depth ≤ length ds
advance-depth has runs w b n ds ls ws next at = (within-last (length ds) ws next at.within).1

pub advance-fits : {W : Type 0} (has : W → ℕ → Node → Expansion → Type 0) (runs : W → ℕ → Node → List Step → Type 0) (w v : W) (b c n : ℕ) (ds es : Node) (ls : List NodeLine) (ws : List Pending) (next : Pending) →
    IsTraversing (has w b) (runs w b) n ds ls (ws ++ next ∷ []) → v ≡ w → c ≡ b → es ≡ take next.depth ds → (f : Expansion) × has v c es f × Contains (choices f) next.decision
advance-fits has runs w v b c n ds es ls ws next at ew eb ed = rw (ew, eb, ed) (at-fits (has w b) (runs w b) n ds ls ws next at)

pub advanced : {W : Type 0} (has : W → ℕ → Node → Expansion → Type 0) (runs : W → ℕ → Node → List Step → Type 0) (w v : W) (b c n : ℕ) (ds es mid : Node) (ls own more : List NodeLine) (ws after : List Pending) (next : Pending) (leaf : Bool) →
    IsTraversing (has w b) (runs w b) n ds ls (ws ++ next ∷ []) → v ≡ w → c ≡ b → es ≡ mid ++ next.decision ∷ [] → mid ≡ take next.depth ds → own ≡ ls ++ Child next.decision ∷ [] →
    Visits (has v c) (runs v c) es own ws leaf more after → Advances (has w b) (runs w b) (n + 1) es more after leaf
advanced has runs w v b c n ds es mid ls own more ws after next leaf at ew eb ee em eo k = go leaf moved
  where
    same : es ≡ node_of ds next
    same = rw (ee, em) refl

    moved : Visits (has w b) (runs w b) es (ls ++ Child next.decision ∷ []) ws leaf more after
    moved = rw (← ew, ← eb, ← eo) k

    go : (leaf : Bool) → Visits (has w b) (runs w b) es (ls ++ Child next.decision ∷ []) ws leaf more after → Advances (has w b) (runs w b) (n + 1) es more after leaf
    go true k = rw (add-one, same) (at-leaf (has w b) (runs w b) n ds ls ws next at (subst (λ z. has w b z Leaf) same k))
    go false k = rw add-one (at-next (has w b) (runs w b) n ds es ls more ws after next at same k)

-- the root is reached
pub root-used : (T : SearchTree) (n used : ℕ) → 1 ≤ n → IsWithinNodes T n used used
root-used T n used le = (1, inr ([], [], [], record { traversal = refl; leafless = tt }, refl), le, omega arith)

-- the root is a leaf
pub root-leaf : (T : SearchTree) (Runs : NodeRuns) (n : ℕ) (ds : Node) (ls more : List NodeLine) (ws after : List Pending) (leaf : Bool) → 1 ≤ n → ds ≡ [] → leaf ≡ true → Visits T Runs ds ls ws leaf more after → IsFirstLeaf T n ds
root-leaf T Runs n ds ls more ws after leaf le e t v =
    let k : T ds Leaf = subst (λ z. Visits T Runs ds ls ws z more after) t v in
    subst (IsFirstLeaf T n) (sym e) ([], [], record { traversal = refl; leafless = tt }, subst (λ z. T z Leaf) e k, omega arith)

-- the root is visited
pub root-at : (T : SearchTree) (Runs : NodeRuns) (ds : Node) (ls more : List NodeLine) (ws after : List Pending) (leaf : Bool) → ds ≡ [] → ls ≡ [] → ws ≡ [] → leaf ≡ false → Visits T Runs ds ls ws leaf more after → IsTraversing T Runs 1 ds more after
root-at T Runs ds ls more ws after leaf e el ew f v = at-root T Runs ds more after e (subst (λ z. Visits T Runs ds z [] false more after) el (subst (λ z. Visits T Runs ds ls z false more after) ew (subst (λ z. Visits T Runs ds ls ws z more after) f v)))

-- a decision more, for a node that is there
pub more-used : (T : SearchTree) (Runs : NodeRuns) (n k : ℕ) (ds : Node) (ls : List NodeLine) (ws rest : List Pending) (w : Pending) (before then now : ℕ) → IsTraversing T Runs n ds ls ws → ws ≡ rest ++ w ∷ [] → n < k →
    then + 1 ≡ before + n → now ≤ then + 1 → IsWithinNodes T k before now
more-used T Runs n k ds ls ws rest w before then now at e lt u le =
    (suc n, at-reached T Runs n ds ls rest w (subst (IsTraversing T Runs n ds ls) e at), omega arith, omega arith)

-- as many nodes as may be are visited, and some wait
pub spent-at : (T : SearchTree) (Runs : NodeRuns) (n k : ℕ) (ds : Node) (ls more : List NodeLine) (ws : List Pending) → IsTraversing T Runs n ds ls ws → n ≤ k → k ≤ n → ws ≢ [] →
    ((es : Node) → more ≡ ls ++ open_lines (frontier_of es ws)) → IsPartialText T Runs k more
spent-at T Runs n k ds ls more ws at le ge some e = subst (λ z. IsPartialText T Runs z more) same (at-open T Runs n ds ls more ws at some (e ds))
  where
    same : n ≡ k
    same = omega arith

pub some-waits : {A : Type 0} (n : ℕ) (ws : List A) (b : Bool) → n ≡ length ws → b ≡ (n == 0) → b ≡ false → ws ≢ []
some-waits n [] b e t f = absurd (no b n e t f)
  where
    no : (b : Bool) (n : ℕ) → n ≡ 0 → b ≡ (n == 0) → b ≡ false → ⊥
    no b n e t f = let h : b ≡ true = rw (t, e) refl in cc
some-waits n (w ∷ ws) b e t f = λ h. cc
